-- After every list of changes a window holds the days of the plain list, each stored sum is theirs, and 27 does not apply to it. Each
-- change keeps that of every window that has it, and the empty window has it.
use Prim.Native.Nat.{ℕ, suc, ◌≤◌, ◌<◌}
use mathlib.Core.Path.{◌≡◌, refl, sym, ap, ◌∙◌, subst, subst₂}
use mathlib.Core.Bool.{Bool, true, false, ◌&&◌, cond}
use mathlib.Core.List.{List, [], ◌∷◌, ◌++◌}
use native.Mathlib.Omega.{arith}
use borrow.Author.Tests.{ltb-true, ltb-false}
use lib.Dec.{ltb, lit<, lit≤}
use lib.ListN.{length, drop, length-replicate, get_or-replicate, drop_of_length-le}
use lib.IntN.{ℤ, pos}
use Rattle.std.proofs.lemmas.Bool.{and_from}
use Rattle.std.specs.Cmp.{second_so}
use Rattle.model.specs.Numbers.{table}
use Rattle.model.specs.Case.{s}
use Rattle.model.specs.Fields.{right_all}
use Rattle.model.specs.Layout.{day}
use Rattle.refusal.specs.declared.Refusal.TheVariants.{Rate, WindowFull, WindowEmpty, Damaged}
use Rattle.model.specs.Refusals.{first_of}
use Rattle.rollingmodel.specs.Rolling.{days_held, empty_window, add_refusal, drop_refusal, added, dropped, changed, add_day, drop_day}
use Rattle.rollingmodel.specs.Rolling.{Change, add, drop_oldest, change, changed_by, queue, queued_by, HoldsAfter}
use Rattle.rollingmodel.specs.Promises.{Right, Holds}
use Rattle.rollingmodel.specs.declared.RollingWindow.{RollingWindow}
use Rattle.theory.proofs.general.Ring.{slot-less}
use Rattle.theory.proofs.acceptance.Runs.{right-more}
use Rattle.theory.proofs.rolling.Held.{held-count, added-long, held-added, held-dropped}
use Rattle.theory.proofs.rolling.Right.{day-whole, sums_at, facts-right}

-- ---- a right window stays right

pub added-right : (w : RollingWindow) (new : List ℤ) → length w.rates ≡ 4200 → Right w → w.count < 70 → (day 2).right new ≡ true
    → Right (added w new)
unfolding added
added-right w new long r room good =
    let held = held-added w new long room (day-whole new good) in
    record {
      count = omega arith;
      start = r.start;
      days = ap (right_all (day 2)) held ∙ right-more (day 2) (days_held w) new ∙ and_from (right_all (day 2) (days_held w)) ((day 2).right new) r.days good;
      sums = λ t l. sums_at (days_held w ++ (new ∷ [])) t l ∙ ap (λ days. s days (suc t)) (sym held);
    }

pub dropped-right : (w : RollingWindow) → Right w → Right (dropped w)
unfolding dropped
dropped-right w r = record {
  count = omega (arith, r.count);
  start = slot-less 70 w.start 1 (lit< tt);
  days = ap (right_all (day 2)) (held-dropped w) ∙ rest (days_held w) r.days;
  sums = λ t l. sums_at (drop 1 (days_held w)) t l ∙ ap (λ days. s days (suc t)) (sym (held-dropped w));
}
  where
    rest : (days : List (List ℤ)) → right_all (day 2) days ≡ true → right_all (day 2) (drop 1 days) ≡ true
    rest [] h = refl
    rest (first ∷ days) h = second_so ((day 2).right first) (right_all (day 2) days) h

-- ---- a window that is right and holds these days

pub empty_holds : Holds empty_window []
unfolding days_held table s
empty_holds = record {
  long = length-replicate 4200 (pos 0);
  right = record { count = lit≤ tt; start = lit< tt; days = refl; sums = λ t l. get_or-replicate 60 t (pos 0) (pos 0) l };
  held = refl;
}

module _ (w : RollingWindow) (days : List (List ℤ)) (h : Holds w days) where
  count-is : length days ≡ w.count
  count-is = ap length (sym h.held) ∙ held-count w

  -- a day that finds room and is within the limits is the last of the days; any other leaves the window
  pub add_holds : (new : List ℤ) → Holds (change w (add new)) (queue days (add new))
  unfolding add_day add_refusal first_of
  add_holds new =
      let is : add_refusal w new ≡ refused (ltb w.count 70) ((day 2).right new) = rw (facts-right w h.right) in
      subst₂ (λ r n. Holds (changed r w (added w new)).window (cond (ltb n 70 && (day 2).right new) (days ++ (new ∷ [])) days)) (sym is)
      (sym count-is) (go (ltb w.count 70) ((day 2).right new) refl refl)
    where
      refused : Bool → Bool → ℕ
      refused room good = first_of ((true, Damaged) ∷ (room, WindowFull) ∷ (good, Rate) ∷ [])

      go : (room good : Bool) → ltb w.count 70 ≡ room → (day 2).right new ≡ good
          → Holds (changed (refused room good) w (added w new)).window (cond (room && good) (days ++ (new ∷ [])) days)
      go false good e f = h
      go true false e f = h
      go true true e f =
          let room = ltb-true w.count 70 e in
          record {
            long = added-long w new h.long (day-whole new f);
            right = added-right w new h.long h.right room f;
            held = held-added w new h.long room (day-whole new f) ∙ ap (λ ds. ds ++ (new ∷ [])) h.held;
          }

  pub drop-holds : Holds (change w drop_oldest) (queue days drop_oldest)
  unfolding drop_day drop_refusal dropped first_of
  drop-holds =
      let is : drop_refusal w ≡ refused (ltb 0 w.count) = rw (facts-right w h.right) in
      subst (λ r. Holds (changed r w (dropped w)).window (drop 1 days)) (sym is) (go (ltb 0 w.count) refl)
    where
      refused : Bool → ℕ
      refused some = first_of ((true, Damaged) ∷ (some, WindowEmpty) ∷ [])

      go : (some : Bool) → ltb 0 w.count ≡ some → Holds (changed (refused some) w (dropped w)).window (drop 1 days)
      go true e = record { long = h.long; right = dropped-right w h.right; held = held-dropped w ∙ ap (drop 1) h.held }
      go false e =
          let none : length days ≤ 0 = omega (arith, ltb-false 0 w.count e, count-is) in
          let same : days ≡ drop 1 days = drop_of_length-le days {i = 0} none ∙ sym (drop_of_length-le days {i = 1} (omega arith)) in
          record { long = h.long; right = h.right; held = h.held ∙ same }

  change-holds : (c : Change) → Holds (change w c) (queue days c)
  change-holds (add new) = add_holds new
  change-holds drop_oldest = drop-holds

-- ---- after every list of changes

pub changes-hold : (cs : List Change) (w : RollingWindow) (days : List (List ℤ)) → Holds w days → Holds (changed_by w cs) (queued_by days cs)
unfolding changed_by queued_by
changes-hold [] w days h = h
changes-hold (c ∷ cs) w days h = changes-hold cs (change w c) (queue days c) (change-holds w days h c)

pub holds_after : (cs : List Change) → HoldsAfter cs
holds_after cs =
    let h = changes-hold cs empty_window [] empty_holds in
    record {
      days = h.held;
      sums = λ t l. h.right.sums t l ∙ ap (λ ds. s ds (suc t)) h.held;
      right = facts-right (changed_by empty_window cs) h.right;
    }
