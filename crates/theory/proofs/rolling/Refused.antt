-- Which call of a window is refused, and with which number: 27 exactly of a window that is not right, ahead of all; 15 exactly of a full one
-- that a day is added to, and 16 exactly of an empty one that is to drop its oldest. Where nothing is refused each check holds.
-- Assumes nothing.
use Prim.Native.Nat.{ℕ, ◌<◌}
use mathlib.Core.Path.{◌≡◌, refl, ◌∙◌, subst}
use mathlib.Core.Bool.{Bool, true, false}
use mathlib.Core.List.{List, [], ◌∷◌, ◌++◌}
use native.Mathlib.Nat.{one-mul}
use native.Mathlib.Omega.{arith}
use borrow.Author.Tests.{le-leb, lt-ltb, le-ltb, ltb-true, ltb-false}
use lib.Dec.{leb, ltb, lit<}
use lib.ListN.{length}
use lib.IntN.{ℤ}
use Rattle.std.specs.Prelude.{◌↔◌, Some}
use Rattle.std.proofs.lemmas.Bool.{and_from}
use Rattle.refusal.specs.Numbered.{number_in}
use Rattle.refusal.specs.declared.Refusal.{Refusal}
use Rattle.refusal.specs.declared.Refusal.TheVariants.{DayCount, Rate, Forward, WindowFull, WindowEmpty, Damaged}
use Rattle.model.specs.Case.{FileCase}
use Rattle.model.specs.Fields.{Check}
use Rattle.model.specs.Layout.{day}
use Rattle.model.specs.Refusals.{failing, first_of, forwards_right}
use Rattle.savingmodel.specs.Saving.{case_checks, case_refusal}
use Rattle.method.specs.Buffers.{buffers_check}
use Rattle.rollingmodel.specs.Rolling.{days_held, rolling_right, add_refusal, drop_refusal, rolling_checks, rolling_refusal}
use Rattle.rollingmodel.specs.Rolling.{rolling_valuation, rolling_factors_after, rolling_rates_after}
use Rattle.rollingmodel.specs.Promises.{Right, DayAdded, WindowAccepted, WindowRefused}
use Rattle.rollingmodel.specs.declared.RollingWindow.{RollingWindow}
use Rattle.theory.proofs.general.Lists.{◌also◌}
use Rattle.theory.proofs.acceptance.Checks.{hold-append, hold-parts, none-hold, none-holds, hold-none, none-fails, below-append, first_below}
use Rattle.theory.proofs.acceptance.Within.{ForwardsWithin, day-lawful, forwards-test}
use Rattle.theory.proofs.saving.Saved.{case-accepted, case-within, case-below}
use Rattle.theory.proofs.rolling.Held.{held-count}
use Rattle.theory.proofs.rolling.Right.{right-facts, facts-right}
use Rattle.theory.proofs.rolling.Valued.{long-factors, long-rates, within-limits}

-- ---- by the tests

abbrev adding : Bool → Bool → Bool → ℕ
adding right room good = first_of ((right, Damaged) ∷ (room, WindowFull) ∷ (good, Rate) ∷ [])

abbrev dropping : Bool → Bool → ℕ
dropping right some = first_of ((right, Damaged) ∷ (some, WindowEmpty) ∷ [])

damaged-add : (right room good : Bool) → (adding right room good ≡ 27) ↔ (right ≡ false)
unfolding first_of
damaged-add false room good = (λ e. refl, λ e. refl)
damaged-add true false good = (λ e. let never : ⊥ = omega (arith, e) in absurd never, λ e. cc)
damaged-add true true false = (λ e. let never : ⊥ = omega (arith, e) in absurd never, λ e. cc)
damaged-add true true true = (λ e. let never : ⊥ = omega (arith, e) in absurd never, λ e. cc)

damaged-drop : (right some : Bool) → (dropping right some ≡ 27) ↔ (right ≡ false)
unfolding first_of
damaged-drop false some = (λ e. refl, λ e. refl)
damaged-drop true false = (λ e. let never : ⊥ = omega (arith, e) in absurd never, λ e. cc)
damaged-drop true true = (λ e. let never : ⊥ = omega (arith, e) in absurd never, λ e. cc)

full-add : (right room good : Bool) → (adding right room good ≡ 15) ↔ ((right ≡ true) × (room ≡ false))
unfolding first_of
full-add false room good = (λ e. let never : ⊥ = omega (arith, e) in absurd never, λ e. cc)
full-add true false good = (λ e. (refl, refl), λ e. refl)
full-add true true false = (λ e. let never : ⊥ = omega (arith, e) in absurd never, λ e. cc)
full-add true true true = (λ e. let never : ⊥ = omega (arith, e) in absurd never, λ e. cc)

empty-drop : (right some : Bool) → (dropping right some ≡ 16) ↔ ((right ≡ true) × (some ≡ false))
unfolding first_of
empty-drop false some = (λ e. let never : ⊥ = omega (arith, e) in absurd never, λ e. cc)
empty-drop true false = (λ e. (refl, refl), λ e. refl)
empty-drop true true = (λ e. let never : ⊥ = omega (arith, e) in absurd never, λ e. cc)

-- ---- a change

module _ (w : RollingWindow) where
  module _ (new : List ℤ) where
    pub add-damaged : (add_refusal w new ≡ 27) ↔ (rolling_right w ≡ false)
    unfolding add_refusal
    add-damaged = damaged-add (rolling_right w) (ltb w.count 70) ((day 2).right new)

    pub add-full : (add_refusal w new ≡ 15) ↔ (Right w × (w.count ≡ 70))
    unfolding add_refusal
    add-full =
        let both = full-add (rolling_right w) (ltb w.count 70) ((day 2).right new) in (
          λ e.
              let (right, room) = both.0 e in
              let facts = right-facts w right in
              (facts, omega (arith, facts.count, ltb-false w.count 70 room)),
          λ h. both.1 (facts-right w h.0, le-ltb w.count 70 (omega (arith, h.1))),
        )

    pub add-none : (add_refusal w new ≡ 0) ↔ DayAdded w new
    unfolding add_refusal
    add-none =
        let checks : List Check = (rolling_right w, Damaged) ∷ (ltb w.count 70, WindowFull) ∷ ((day 2).right new, Rate) ∷ [] in (
          λ e.
              let passed = none-hold checks e in
              record {
                right = right-facts w passed.0;
                room = ltb-true w.count 70 passed.1.0;
                day = (day-lawful 2 (lit< tt)).within new passed.1.1.0;
              },
          λ h. hold-none checks (facts-right w h.right also lt-ltb w.count 70 h.room also (day-lawful 2 (lit< tt)).tested new h.day also tt),
        )

  pub drop-damaged : (drop_refusal w ≡ 27) ↔ (rolling_right w ≡ false)
  unfolding drop_refusal
  drop-damaged = damaged-drop (rolling_right w) (ltb 0 w.count)

  pub drop-empty : (drop_refusal w ≡ 16) ↔ (Right w × (w.count ≡ 0))
  unfolding drop_refusal
  drop-empty =
      let both = empty-drop (rolling_right w) (ltb 0 w.count) in (
        λ e. let (right, some) = both.0 e in (right-facts w right, omega (arith, ltb-false 0 w.count some)),
        λ h. both.1 (facts-right w h.0, le-ltb 0 w.count (omega (arith, h.1))),
      )

  pub drop-none : (drop_refusal w ≡ 0) ↔ (Right w × (0 < w.count))
  unfolding drop_refusal
  drop-none =
      let checks : List Check = (rolling_right w, Damaged) ∷ (ltb 0 w.count, WindowEmpty) ∷ [] in (
        λ e. let passed = none-hold checks e in (right-facts w passed.0, ltb-true 0 w.count passed.1.0),
        λ h. hold-none checks (facts-right w h.0 also lt-ltb 0 w.count h.1 also tt),
      )

-- ---- a valuation

module _ (w : RollingWindow) (k : FileCase) where
  abbrev days_checks : List Check
  days_checks = (ltb 0 w.count, DayCount) ∷ (forwards_right w.count (days_held w), Forward) ∷ []

  module _ (factors rates : ℕ) where
    -- "27 .. ahead of all, also of 13", and no other check has it
    pub value-damaged : (rolling_refusal w k factors rates ≡ 27) ↔ (rolling_right w ≡ false)
    unfolding rolling_refusal first_of
    value-damaged = go (rolling_right w)
      where
        rest : List Check
        rest = buffers_check factors rates ∷ (case_checks k ++ days_checks)

        less : number_in (failing rest) < 14
        less = first_below 14 rest (lit< tt) (below-append 14 (case_checks k) days_checks (case-below k) tt)

        go : (right : Bool) → (first_of ((right, Damaged) ∷ rest) ≡ 27) ↔ (right ≡ false)
        go false = (λ e. refl, λ e. refl)
        go true = (λ e. let never : ⊥ = omega (arith, less, e) in absurd never, λ e. cc)

    pub value-none : (rolling_refusal w k factors rates ≡ 0) ↔ WindowAccepted w k factors rates
    unfolding rolling_refusal case_refusal
    value-none = (
      λ e.
          let none = none-fails (rolling_checks w k factors rates) e in
          let passed = none-holds (rolling_checks w k factors rates) none in
          record {
            right = right-facts w passed.0;
            factors_enough = long-factors w k factors rates none;
            rates_enough = long-rates w k factors rates none;
            own = case-within k (hold-none (case_checks k) (hold-parts (case_checks k) days_checks passed.1.1).0);
            days = (within-limits w k factors rates none).days;
          },
      λ h.
          let long = and_from (leb 240 factors) (leb 240 rates) (le-leb 240 factors h.factors_enough) (le-leb 240 rates h.rates_enough) in
          let some = lt-ltb 0 w.count (omega (arith, h.days.some, held-count w)) in
          let steps = one-mul (length (days_held w)) ∙ held-count w in
          let six = forwards-test w.count (days_held w) (subst (λ n. ForwardsWithin n (days_held w)) steps h.days.forwards) in
          hold-none (rolling_checks w k factors rates)
          (facts-right w h.right also long also hold-append (case_checks k) days_checks (none-hold (case_checks k) (case-accepted k h.own)) (some also six also tt)),
    )

  pub value-refused : (factors : List ℕ) (rates : List ℤ) (r : Refusal) → failing (rolling_checks w k (length factors) (length rates)) ≡ Some r
      → WindowRefused r w k factors rates
  unfolding rolling_valuation rolling_factors_after rolling_rates_after
  value-refused factors rates r e = record { answered = rw e; factors_kept = rw e; rates_kept = rw e }
