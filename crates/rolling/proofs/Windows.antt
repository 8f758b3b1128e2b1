-- Which windows are right, by the days from the oldest on; and what a change of a window answers, where each of its checks holds or fails.
use Rattle.std.proofs.lemmas.Bool.{and_from}
use Rattle.std.specs.Cmp.{second_so}
use Prim.Native.Nat.{ℕ, zero, suc, ◌+◌, ◌-◌, ◌≤◌, ◌<◌}
use mathlib.Core.Path.{◌≡◌, refl, ap, sym, ◌∙◌}
use mathlib.Core.Bool.{Bool, true, false}
use mathlib.Core.List.{List, [], ◌∷◌, ◌++◌}
use native.Mathlib.Nat.{mod-eq_of_lt}
use native.Mathlib.Numerals.{add-one}
use native.Mathlib.Omega.{arith}
use borrow.Author.Tests.{lt-ltb, le-ltb, eq-eqb}
use lib.Dec.{eqb}
use lib.ListN.{length, get_or, drop}
use lib.IntN.{ℤ, pos}
use Rattle.std.proofs.Common.{Option, Some, None, Err}
use Rattle.std.specs.Option.{IsSome, ok_or}
use Rattle.model.specs.Case.{s}
use Rattle.model.specs.Fields.{right_all}
use Rattle.model.specs.Layout.{daily_rate, day}
use Rattle.model.specs.Numbers.{table}
use Rattle.model.specs.Refusals.{first_of}
use Rattle.rollingmodel.specs.Rolling.{slot, day_in, days_held, sums_of, rolling_right, with_day_in, add_refusal, drop_refusal, added, dropped, add_day, drop_day}
use Rattle.rollingmodel.specs.Promises.{Right}
use Rattle.rollingmodel.specs.declared.RollingWindow.{RollingWindow}
use Rattle.theory.proofs.acceptance.Runs.{right-more, right-at}
use Rattle.theory.proofs.general.Lists.{length-table, table-first, table_same, table_of}
use Rattle.theory.proofs.rolling.Held.{held-count, held-day}
use Rattle.theory.proofs.rolling.Right.{right-facts, facts-right, sums_at}
use Rattle.fields.specs.Sums.{Bounded}
use Rattle.rolling.specs.inner.Sums.{plus, minus, first_days}
use Rattle.rolling.proofs.Sums.{sums-small, plus-is, minus-is}

-- what a refusal in place of nothing says
pub none-told : {A E : Type 0} (o : Option A) (e r : E) → ok_or o e ≡ Err r → (r ≡ e) × (IsSome o → ⊥)
none-told None e r h = (cc, λ k. cc)
none-told (Some x) e r h = cc

-- ---- a window that is right, or not

module _ (w : RollingWindow) where
  pub not-right : (Right w → ⊥) → rolling_right w ≡ false
  not-right h = go (rolling_right w) refl
    where
      go : (b : Bool) → rolling_right w ≡ b → rolling_right w ≡ false
      go true e = absurd (h (right-facts w e))
      go false e = e

  -- a day that is held has a rate that is not right
  pub wrong-day : (i : ℕ) {held : List ℤ} → i < w.count → held ≡ day_in w.rates (slot 70 w.start i) → right_all (daily_rate 2) held ≡ false → rolling_right w ≡ false
  wrong-day i {held} l e h = not-right (λ r. contrary r)
    where
      contrary : Right w → ⊥
      contrary r =
          let whole = right-at (day 2) (days_held w) i [] (omega (arith, held-count w)) r.days in
          let own = rw (held-day w i l ∙ sym e) at whole in
          let right = second_so (eqb (length held) 60) (right_all (daily_rate 2) held) own in
          cc

  pub next-day : (i : ℕ) {held sums after : List ℤ} → held ≡ day_in w.rates (slot 70 w.start i) → length held ≡ 60 → right_all (daily_rate 2) held ≡ true
      → right_all (day 2) (first_days w i) ≡ true → sums ≡ sums_of (first_days w i) → after ≡ plus sums held
      → (right_all (day 2) (first_days w (i + 1)) ≡ true) × (after ≡ sums_of (first_days w (i + 1)))
  unfolding table
  next-day i {held} {sums} {after} e long right all are more =
      let days = first_days w i in
      let own : (day 2).right held ≡ true = and_from (eqb (length held) 60) (right_all (daily_rate 2) held) (eq-eqb (length held) 60 long) right in
      let next : first_days w (i + 1) ≡ days ++ (held ∷ []) =
      ap (table (λ j. day_in w.rates (slot 70 w.start j))) (add-one i) ∙ ap (λ (d : List ℤ). days ++ (d ∷ [])) (sym e) in (
        ap (right_all (day 2)) next ∙ right-more (day 2) days held ∙ and_from (right_all (day 2) days) ((day 2).right held) all own,
        more ∙ ap (λ (l : List ℤ). plus l held) are ∙ plus-is (sums_of days) days (sums_at days) held ∙ ap sums_of (sym next),
      )

  pub first-small : (i : ℕ) {sums : List ℤ} → i ≤ 70 → right_all (day 2) (first_days w i) ≡ true → sums ≡ sums_of (first_days w i) → Bounded 1000000 sums
  first-small i few all are =
      let days = first_days w i in
      let count = length-table (λ j. day_in w.rates (slot 70 w.start j)) i in
      rw are (sums-small (sums_of days) days (sums_at days) 1000000 (omega arith) all)

  -- all days are right and summed: the window is right exactly where these are the sums that it stores
  module _ {n : ℕ} (few : w.count ≤ 70) (place : w.start < 70) (is : n ≡ w.count) {sums : List ℤ} (all : right_all (day 2) (first_days w n) ≡ true)
      (are : sums ≡ sums_of (first_days w n)) where
    whole : first_days w n ≡ days_held w
    unfolding days_held
    whole = ap (first_days w) is

    pub sums-right : sums ≡ w.sums → rolling_right w ≡ true
    sums-right same =
        facts-right w record {
          count = few;
          start = place;
          days = rw whole at all;
          sums = λ t l. ap (λ (z : List ℤ). get_or z t (pos 0)) (sym same ∙ are ∙ ap sums_of whole) ∙ sums_at (days_held w) t l;
        }

    pub sums-held : sums ≡ w.sums → w.sums ≡ sums_of (days_held w)
    sums-held same = sym same ∙ are ∙ ap sums_of whole

    pub sums-wrong : length w.sums ≡ 60 → (sums ≡ w.sums → ⊥) → rolling_right w ≡ false
    unfolding sums_of
    sums-wrong long other = not-right (λ r. other (are ∙ ap sums_of whole ∙ stored r))
      where
        stored : Right w → sums_of (days_held w) ≡ w.sums
        stored r =
            table_same (λ t. s (days_held w) (suc t)) (λ t. get_or w.sums t (pos 0)) 60 (λ t l. sym (r.sums t l))
            ∙ table_of w.sums 60 (pos 0) long

-- ---- a day added

module _ (w : RollingWindow) (new : List ℤ) where
  pub add-27 : rolling_right w ≡ false → record { refusal = 27; window = w } ≡ add_day w new
  unfolding add_day add_refusal first_of
  add-27 h = rw h

  pub add-15 : rolling_right w ≡ true → 70 ≤ w.count → record { refusal = 15; window = w } ≡ add_day w new
  unfolding add_day add_refusal first_of
  add-15 h l = rw (h, le-ltb w.count 70 l)

  module _ (right : rolling_right w ≡ true) (room : w.count < 70) where
    pub add-5 : (day 2).right new ≡ false → record { refusal = 5; window = w } ≡ add_day w new
    unfolding add_day add_refusal first_of
    add-5 wrong = rw (right, lt-ltb w.count 70 room, wrong)

    pub add-0 : {rates sums : List ℤ} → (day 2).right new ≡ true → rates ≡ with_day_in w.rates (slot 70 w.start w.count) new → sums ≡ plus w.sums new
        → record { refusal = 0; window = record { count = w.count + 1; start = w.start; rates = rates; sums = sums } } ≡ add_day w new
    unfolding add_day add_refusal first_of added
    add-0 {rates} {sums} own e f =
        let are : sums ≡ sums_of (days_held w ++ (new ∷ [])) = f ∙ plus-is w.sums (days_held w) (right-facts w right).sums new in
        rw (right, lt-ltb w.count 70 room, own, e, are)

pub window-small : (w : RollingWindow) → rolling_right w ≡ true → Bounded 1000000 w.sums
window-small w right =
    let r = right-facts w right in
    sums-small w.sums (days_held w) r.sums 1000000 (omega (arith, held-count w, r.count)) r.days

-- ---- the oldest dropped

pub oldest-first : (w : RollingWindow) → 0 < w.count → w.start < 70 → days_held w ≡ day_in w.rates w.start ∷ drop 1 (days_held w)
unfolding days_held
oldest-first w some place = go w.count some
  where
    f : ℕ → List ℤ
    f i = day_in w.rates (slot 70 w.start i)

    own : f 0 ≡ day_in w.rates w.start
    own =
        let e : w.start + 0 ≡ w.start = omega arith in
        let same : slot 70 w.start 0 ≡ w.start = rw e (mod-eq_of_lt place) in
        ap (day_in w.rates) same

    go : (n : ℕ) → 0 < n → table f n ≡ day_in w.rates w.start ∷ drop 1 (table f n)
    go zero l = let never : ⊥ = omega arith in absurd never
    go (suc n) l =
        table-first f n
        ∙ ap (λ (d : List ℤ). d ∷ table (λ i. f (suc i)) n) own
        ∙ ap (λ (days : List (List ℤ)). day_in w.rates w.start ∷ drop 1 days) (sym (table-first f n))

module _ (w : RollingWindow) where
  pub drop-27 : rolling_right w ≡ false → record { refusal = 27; window = w } ≡ drop_day w
  unfolding drop_day drop_refusal first_of
  drop-27 h = rw h

  pub drop-16 : rolling_right w ≡ true → w.count ≤ 0 → record { refusal = 16; window = w } ≡ drop_day w
  unfolding drop_day drop_refusal first_of
  drop-16 h l = rw (h, le-ltb 0 w.count l)

  pub drop-0 : {start : ℕ} {oldest sums : List ℤ} → rolling_right w ≡ true → 0 < w.count → oldest ≡ day_in w.rates w.start → sums ≡ minus w.sums oldest
      → start ≡ slot 70 w.start 1
      → record { refusal = 0; window = record { count = w.count - 1; start = start; rates = w.rates; sums = sums } } ≡ drop_day w
  unfolding drop_day drop_refusal first_of dropped
  drop-0 {start} {oldest} {sums} right some e f g =
      let r = right-facts w right in
      let parted : days_held w ≡ oldest ∷ drop 1 (days_held w) =
      oldest-first w some r.start ∙ ap (λ (d : List ℤ). d ∷ drop 1 (days_held w)) (sym e) in
      let are : sums ≡ sums_of (drop 1 (days_held w)) =
      f ∙ minus-is w.sums oldest (drop 1 (days_held w)) (λ t l. r.sums t l ∙ ap (λ (days : List (List ℤ)). s days (suc t)) parted) in
      rw (right, lt-ltb 0 w.count some, g, are)
