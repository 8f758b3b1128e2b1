-- What lies in the slots that are not held makes no difference, nor does the slot of the oldest day: two windows that hold the same days
-- with the same sums give the same answers, and after the same change they hold the same days with the same sums again.
use Prim.Native.Nat.{ℕ, zero, suc, ◌≤◌, ◌<◌}
use mathlib.Core.Path.{◌≡◌, refl, sym, ap, ap₂, ◌∙◌, subst}
use mathlib.Core.Bool.{Bool, true, false}
use mathlib.Core.List.{List, [], ◌∷◌, ◌++◌}
use native.Mathlib.Omega.{arith}
use borrow.Author.Tests.{ltb-true}
use lib.Dec.{ltb, lit<}
use lib.ListN.{length, get_or, drop}
use lib.IntN.{ℤ, pos}
use Rattle.refusal.specs.declared.Refusal.TheVariants.{Rate, WindowFull, Damaged}
use Rattle.model.specs.Case.{FileCase, s, with_days}
use Rattle.model.specs.Fields.{right_all}
use Rattle.model.specs.Layout.{day}
use Rattle.model.specs.Refusals.{failing}
use Rattle.method.specs.Buffers.{factor_entries, rate_entries, written, answered}
use Rattle.rollingmodel.specs.Rolling.{slot, day_in, days_held, sums_of, rolling_right, add_refusal, drop_refusal, with_day_in, added, dropped, changed}
use Rattle.rollingmodel.specs.Rolling.{add_day, drop_day, Change, add, drop_oldest, change, changed_by}
use Rattle.rollingmodel.specs.Rolling.{rolling_checks, rolling_valuation, rolling_factors_after, rolling_rates_after}
use Rattle.rollingmodel.specs.Promises.{Alike, SameAnswers}
use Rattle.rollingmodel.specs.declared.RollingWindow.{RollingWindow}
use Rattle.theory.proofs.general.Lists.{table_same}
use Rattle.theory.proofs.general.Ring.{slot-less}
use Rattle.theory.proofs.acceptance.Checks.{none-hold}
use Rattle.theory.proofs.rolling.Held.{held-count, free-slot, added-long, held-added, held-dropped}
use Rattle.theory.proofs.rolling.Right.{day-whole, right-facts, facts-right}

-- ---- the same answers

turned : (w v : RollingWindow) → Alike w v → Alike v w
turned w v h = record { start = h.other_start; other_start = h.start; days = sym h.days; sums = λ t l. sym (h.sums t l) }

count_same : (w v : RollingWindow) → Alike w v → w.count ≡ v.count
count_same w v h = sym (held-count w) ∙ ap length h.days ∙ held-count v

right-too : (w v : RollingWindow) → Alike w v → rolling_right w ≡ true → rolling_right v ≡ true
right-too w v h e =
    let r = right-facts w e in
    facts-right v (record {
      count = omega (arith, r.count, count_same w v h);
      start = h.other_start;
      days = ap (right_all (day 2)) (sym h.days) ∙ r.days;
      sums = λ t l. sym (h.sums t l) ∙ r.sums t l ∙ ap (λ days. s days (suc t)) h.days;
    })

right-same : (w v : RollingWindow) → Alike w v → rolling_right w ≡ rolling_right v
right-same w v h = both (rolling_right w) (rolling_right v) (right-too w v h) (right-too v w (turned w v h))
  where
    both : (a b : Bool) → (a ≡ true → b ≡ true) → (b ≡ true → a ≡ true) → a ≡ b
    both true b f g = sym (f refl)
    both false true f g = g refl
    both false false f g = refl

refusal-same : (w v : RollingWindow) → Alike w v → (k : FileCase) (factors rates : ℕ)
    → failing (rolling_checks w k factors rates) ≡ failing (rolling_checks v k factors rates)
refusal-same w v h k factors rates = rw (right-same w v h, h.days, count_same w v h)

pub alike-answers : (w v : RollingWindow) → Alike w v → SameAnswers w v
unfolding add_refusal drop_refusal rolling_valuation rolling_factors_after rolling_rates_after
alike-answers w v h =
    let right = right-same w v h in
    let count = count_same w v h in
    let refusal = refusal-same w v h in
    let case : (k : FileCase) → with_days 2 (days_held w) k ≡ with_days 2 (days_held v) k = λ k. ap (λ days. with_days 2 days k) h.days in
    record {
      right = right;
      adding = λ new. rw (right, count);
      dropping = rw (right, count);
      valuation = λ k factors rates. ap₂ answered (refusal k factors rates) (case k);
      factors_after = λ k factors rates. ap₂ (λ r j. written r (factor_entries j) factors) (refusal k (length factors) (length rates)) (case k);
      rates_after = λ k factors rates. ap₂ (λ r j. written r (rate_entries j) rates) (refusal k (length factors) (length rates)) (case k);
    }

-- ---- after changes

module _ (w v : RollingWindow) (h : Alike w v) where
  added-alike : (new : List ℤ) → length w.rates ≡ 4200 → length v.rates ≡ 4200 → add_refusal w new ≡ 0
      → Alike (added w new) (added v new)
  unfolding add_refusal added
  added-alike new long other_long e =
      let passed = none-hold ((rolling_right w, Damaged) ∷ (ltb w.count 70, WindowFull) ∷ ((day 2).right new, Rate) ∷ []) e in
      let room = ltb-true w.count 70 passed.1.0 in
      let other_room : v.count < 70 = omega (arith, count_same w v h) in
      let whole = day-whole new passed.1.1.0 in
      record {
        start = h.start;
        other_start = h.other_start;
        days = held-added w new long room whole
            ∙ ap (λ days. days ++ (new ∷ [])) h.days
            ∙ sym (held-added v new other_long other_room whole);
        sums = λ t l. ap (λ days. get_or (sums_of (days ++ (new ∷ []))) t (pos 0)) h.days;
      }

  dropped-alike : Alike (dropped w) (dropped v)
  unfolding dropped
  dropped-alike = record {
    start = slot-less 70 w.start 1 (lit< tt);
    other_start = slot-less 70 v.start 1 (lit< tt);
    days = held-dropped w ∙ ap (drop 1) h.days ∙ sym (held-dropped v);
    sums = λ t l. ap (λ days. get_or (sums_of (drop 1 days)) t (pos 0)) h.days;
  }

  -- the windows that a call gives back, refused or not
  changed-alike : (r q : ℕ) (next other : RollingWindow) → r ≡ q → (r ≡ 0 → Alike next other)
      → Alike (changed r w next).window (changed q v other).window
  changed-alike r q next other e f = subst (λ n. Alike (changed r w next).window (changed n v other).window) e (go r f)
    where
      go : (r : ℕ) → (r ≡ 0 → Alike next other) → Alike (changed r w next).window (changed r v other).window
      go zero f = f refl
      go (suc r) f = h

  change-alike : length w.rates ≡ 4200 → length v.rates ≡ 4200 → (c : Change) → Alike (change w c) (change v c)
  unfolding add_day drop_day
  change-alike long other_long (add new) =
      changed-alike (add_refusal w new) (add_refusal v new) (added w new) (added v new) ((alike-answers w v h).adding new)
      (added-alike new long other_long)
  change-alike long other_long drop_oldest =
      changed-alike (drop_refusal w) (drop_refusal v) (dropped w) (dropped v) (alike-answers w v h).dropping (λ e. dropped-alike)

-- the window after a change has the rates of 70 days, as it had
module _ (w : RollingWindow) (long : length w.rates ≡ 4200) where
  kept-long : (r : ℕ) (next : RollingWindow) → (r ≡ 0 → length next.rates ≡ 4200) → length (changed r w next).window.rates ≡ 4200
  kept-long zero next f = f refl
  kept-long (suc r) next f = long

  change-long : (c : Change) → length (change w c).rates ≡ 4200
  unfolding add_day drop_day add_refusal dropped
  change-long (add new) =
      kept-long (add_refusal w new) (added w new)
      (λ e. let passed = none-hold ((rolling_right w, Damaged) ∷ (ltb w.count 70, WindowFull) ∷ ((day 2).right new, Rate) ∷ []) e in
      added-long w new long (day-whole new passed.1.1.0))
  change-long drop_oldest = kept-long (drop_refusal w) (dropped w) (λ e. long)

pub changes-alike : (cs : List Change) (w v : RollingWindow) → Alike w v → length w.rates ≡ 4200 → length v.rates ≡ 4200
    → Alike (changed_by w cs) (changed_by v cs)
unfolding changed_by
changes-alike [] w v h long other_long = h
changes-alike (c ∷ cs) w v h long other_long =
    changes-alike cs (change w c) (change v c) (change-alike w v h long other_long c) (change-long w long c) (change-long v other_long c)

-- ---- a slot that is not held

-- the window with another day in it is alike
pub free-alike : (w : RollingWindow) (new : List ℤ) → w.start < 70 → length w.rates ≡ 4200 → length new ≡ 60
    → (j : ℕ) → w.count ≤ j → j < 70
    → Alike w (record { count = w.count; start = w.start; rates = with_day_in w.rates (slot 70 w.start j) new; sums = w.sums })
unfolding days_held
free-alike w new start long whole j free h = record {
  start = start;
  other_start = start;
  days = table_same (λ i. day_in w.rates (slot 70 w.start i))
      (λ i. day_in (with_day_in w.rates (slot 70 w.start j) new) (slot 70 w.start i)) w.count
      (λ i l. sym (free-slot w new long whole j free h i l));
  sums = λ t l. refl;
}
