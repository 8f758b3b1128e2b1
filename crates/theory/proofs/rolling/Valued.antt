-- A right window that is valued with an accepted case gives what every file with its days gives: also where it is empty or 6 refuses its
-- days, and where a lent buffer is too short. The fields of the case with these days are within their limits, but for the number of
-- the days; so of the file's checks only 4 and 6 are left, and they are the window's.
use Prim.Native.Nat.{ℕ, ◌≤◌, ◌<◌}
use mathlib.Core.Path.{◌≡◌, refl, sym, ap, ◌∙◌, subst}
use mathlib.Core.Bool.{Bool, true, false, cond}
use mathlib.Core.List.{List, [], ◌∷◌, ◌++◌}
use native.Mathlib.Omega.{arith}
use borrow.Author.Tests.{le-leb, leb-true, ltb-true, ltb-false}
use lib.Dec.{T, leb, ltb, lit<}
use lib.ListN.{length, drop_of_length-le}
use lib.IntN.{ℤ}
use Rattle.std.proofs.lemmas.Bool.{and_from}
use Rattle.std.specs.Cmp.{first_so, second_so}
use Rattle.std.specs.Prelude.{Option, None, Some}
use Rattle.refusal.specs.declared.Refusal.{Refusal}
use Rattle.refusal.specs.declared.Refusal.TheVariants.{DayCount, Forward, Damaged}
use Rattle.model.specs.Case.{FileCase, per_step, with_days}
use Rattle.model.specs.Limits.{WithinLimits}
use Rattle.model.specs.Fields.{Check}
use Rattle.model.specs.Layout.{Present, parts_of, file_of, case_of, Agrees}
use Rattle.model.specs.Refusals.{failing, forwards_right, checks}
use Rattle.savingmodel.specs.Saving.{needed, case_checks, case_refusal}
use Rattle.method.specs.Buffers as Buffers
use Rattle.method.specs.Buffers.{buffers_check, factor_entries, rate_entries, written, answered, valuation_of, valuation_checks}
use Rattle.rollingmodel.specs.Rolling.{days_held, rolling_right, rolling_checks, rolling_valuation, rolling_factors_after, rolling_rates_after, ValuedAsFile}
use Rattle.rollingmodel.specs.declared.RollingWindow.{RollingWindow}
use Rattle.theory.proofs.general.Lists.{◌also◌}
use Rattle.theory.proofs.acceptance.Checks.{Hold, hold-parts, none-holds, hold-none, none-fails, holds-first, after-hold, behind-check}
use Rattle.theory.proofs.acceptance.Within.{days-limited, PartsWithin, forwards-true, parts-limits, limits-parts}
use Rattle.theory.proofs.acceptance.Acceptance.{case-read, no-days-refused}
use Rattle.theory.proofs.saving.Saved.{agrees-needed, case-within}
use Rattle.theory.proofs.rolling.Held.{held-count}
use Rattle.theory.proofs.rolling.Right.{right-facts}

module _ (w : RollingWindow) (k : FileCase) (right : rolling_right w ≡ true) (accepted : case_refusal k ≡ 0) where
  abbrev valued : FileCase
  valued = with_days 2 (days_held w) k

  -- "then 4 for an empty window, then 6 for its days"
  abbrev days_checks : List Check
  days_checks = (ltb 0 w.count, DayCount) ∷ (forwards_right w.count (days_held w), Forward) ∷ []

  -- the days held are in the two-byte field, whichever days field the case has
  parts : 0 < w.count → (p : Present) → Agrees p k → PartsWithin 2 p (parts_of valued)
  parts some p agrees =
      let n = length (days_held w) in
      let least = le-leb 1 n (omega (arith, held-count w)) in
      let most = le-leb n 70 (omega (arith, held-count w, (right-facts w right).count)) in
      let days = (days-limited 2 (lit< tt)).within (days_held w) (and_from (leb 1 n) (leb n 70) least most also (right-facts w right).days also tt) in
      let ((ufr, (own, others)), (long, equity)) = limits-parts p k (case-within k accepted) agrees in
      ((ufr, ((λ e. days, λ e. absurd (subst T e tt)), others)), ((λ e. absurd (subst T (sym e) tt), λ e. refl), equity))

  -- ---- the case with the days held

  -- one step of two-byte days adds 1 for each day
  step_is : per_step valued ≡ w.count
  unfolding per_step
  step_is = omega (arith, held-count w)

  pub window-within : 0 < w.count → forwards_right w.count (days_held w) ≡ true → WithinLimits (with_days 2 (days_held w) k)
  window-within some h =
      let six = subst (λ n. forwards_right n (days_held w) ≡ true) (sym step_is) h in
      (parts-limits (needed k) valued refl (parts some (needed k) (agrees-needed k)) (forwards-true (per_step valued) (days_held w) six)).0

  -- ---- a file with these days

  window-refused : (factors rates : ℕ) → failing (rolling_checks w k factors rates) ≡ failing (buffers_check factors rates ∷ days_checks)
  unfolding case_refusal
  window-refused factors rates =
      let behind = case_checks k ++ days_checks in
      after-hold ((rolling_right w, Damaged) ∷ []) (buffers_check factors rates ∷ behind) (right also tt)
      ∙ behind-check (buffers_check factors rates) behind days_checks (holds-first (case_checks k) days_checks (none-fails (case_checks k) accepted))

  module _ (p : Present) (agrees : Agrees p k) where
    abbrev file : List ℕ
    file = file_of p valued

    file-case : 0 < w.count → case_of file ≡ valued
    file-case some = (case-read file p valued refl refl (parts some p agrees)).1

    file-refused : failing (checks file) ≡ failing days_checks
    file-refused = go (ltb 0 w.count) refl
      where
        go : (some : Bool) → ltb 0 w.count ≡ some
            → failing (checks file) ≡ cond some (failing ((forwards_right w.count (days_held w), Forward) ∷ [])) (Some DayCount)
        go true e =
            (case-read file p valued refl refl (parts (ltb-true 0 w.count e) p agrees)).0
            ∙ ap (λ n. failing ((forwards_right n (days_held w), Forward) ∷ [])) step_is
        go false e =
            let none : length (days_held w) ≤ 0 = omega (arith, held-count w, ltb-false 0 w.count e) in
            let ((ufr, fields), later) = limits-parts p k (case-within k accepted) agrees in
            no-days-refused file p k (ap (λ days. file_of p (with_days 2 days k)) (drop_of_length-le (days_held w) {i = 0} none)) ufr

    same-refusal : (factors rates : ℕ) → failing (rolling_checks w k factors rates) ≡ failing (valuation_checks factors rates file)
    same-refusal factors rates =
        window-refused factors rates ∙ behind-check (buffers_check factors rates) days_checks (checks file) (sym file-refused)

    -- where the window is not refused it is not empty, so the case that is valued is the file's; a refusal gives nothing of the case
    same-given : {A : Type 0} (given : Option Refusal → FileCase → A) → ((r : Refusal) (k j : FileCase) → given (Some r) k ≡ given (Some r) j)
        → (factors rates : ℕ)
        → given (failing (rolling_checks w k factors rates)) valued ≡ given (failing (valuation_checks factors rates file)) (case_of file)
    same-given given none factors rates =
        go (failing (rolling_checks w k factors rates)) refl ∙ ap (λ o. given o (case_of file)) (same-refusal factors rates)
      where
        go : (o : Option Refusal) → failing (rolling_checks w k factors rates) ≡ o → given o valued ≡ given o (case_of file)
        go None e =
            let held = none-holds (buffers_check factors rates ∷ days_checks) (sym (window-refused factors rates) ∙ e) in
            ap (given None) (sym (file-case (ltb-true 0 w.count held.1.0)))
        go (Some r) e = none r valued (case_of file)

    pub window-values : (factors : List ℕ) (rates : List ℤ) → ValuedAsFile w k (file_of p (with_days 2 (days_held w) k)) factors rates
    unfolding rolling_valuation rolling_factors_after rolling_rates_after valuation_of Buffers.factors_after Buffers.rates_after
    window-values factors rates = record {
      answer = same-given answered (λ r k j. refl) (length factors) (length rates);
      factors_after = same-given (λ r j. written r (factor_entries j) factors) (λ r k j. refl) (length factors) (length rates);
      rates_after = same-given (λ r j. written r (rate_entries j) rates) (λ r k j. refl) (length factors) (length rates);
    }

-- ---- a valuation that is not refused: every check holds

module _ (w : RollingWindow) (k : FileCase) (factors rates : ℕ) (none : failing (rolling_checks w k factors rates) ≡ None) where
  abbrev last_checks : List Check
  last_checks = (ltb 0 w.count, DayCount) ∷ (forwards_right w.count (days_held w), Forward) ∷ []

  passed : Hold (rolling_checks w k factors rates)
  passed = none-holds (rolling_checks w k factors rates) none

  pub is_right : rolling_right w ≡ true
  is_right = passed.0

  pub long-factors : 240 ≤ factors
  long-factors = leb-true 240 factors (first_so (leb 240 factors) (leb 240 rates) passed.1.0)

  pub long-rates : 240 ≤ rates
  long-rates = leb-true 240 rates (second_so (leb 240 factors) (leb 240 rates) passed.1.0)

  pub within-limits : WithinLimits (with_days 2 (days_held w) k)
  unfolding case_refusal
  within-limits =
      let (own, days) = hold-parts (case_checks k) last_checks passed.1.1 in
      window-within w k is_right (hold-none (case_checks k) own) (ltb-true 0 w.count days.0) days.1.0
