-- A case file that is valued with a history: 13 and the file's own refusals come first, then the history's; and where neither refuses, the
-- answer and both buffers are those of the file with the UFR found in its field. Assumes nothing.
use Prim.Native.Nat.{ℕ}
use mathlib.Core.Path.{◌≡◌, ap₂, sym, ◌∙◌}
use mathlib.Core.List.{List, ◌∷◌, ◌++◌}
use lib.ListN.{length}
use lib.IntN.{ℤ}
use Rattle.std.specs.Prelude.{Option, None, Some}
use Rattle.refusal.specs.declared.Refusal.{Refusal}
use Rattle.model.specs.Numbers.{Bytes}
use Rattle.model.specs.Case.{FileCase}
use Rattle.model.specs.Limits.{WithinLimits}
use Rattle.model.specs.Fields.{Check}
use Rattle.model.specs.Layout.{case_of}
use Rattle.model.specs.Refusals.{failing, checks, refusal}
use Rattle.method.specs.Buffers as Buffers
use Rattle.method.specs.Buffers.{buffers_check, factor_entries, rate_entries, written, answered, valuation_of, valuation_checks}
use Rattle.monthsmodel.specs.Months.{history_checks, ufr_refusal, ufr_found, months_checks, months_case, months_valuation}
use Rattle.monthsmodel.specs.Months.{months_factors_after, months_rates_after, with_ufr_field, ValuedWithField}
use Rattle.theory.proofs.acceptance.Acceptance as Acceptance
use Rattle.theory.proofs.acceptance.Checks.{none-holds, first-fails, none-fails, hold-none, holds-first, fails-first, both-hold, behind-check}
use Rattle.theory.proofs.curve.Changed.{within-ufr}
use Rattle.theory.proofs.months.Field.{field-read}
use Rattle.theory.proofs.months.Found.{found-most}

-- ---- "all three after the file's own numbers"

module _ (file history : List ℕ) (start factors rates : ℕ) where
  abbrev first : List Check
  first = buffers_check factors rates ∷ checks file

  pub own_first : (r : Refusal) → failing (valuation_checks factors rates file) ≡ Some r
      → failing (months_checks file history start factors rates) ≡ Some r
  own_first r h = fails-first first (history_checks history start) r h

  pub history-after : failing (valuation_checks factors rates file) ≡ None
      → failing (months_checks file history start factors rates) ≡ failing (history_checks history start)
  history-after h = holds-first first (history_checks history start) h

-- ---- "The UFR found is used as if it stood in the file's UFR field."

module _ (file : List ℕ) (b : Bytes file) (accepted : refusal file ≡ 0) (history : List ℕ) (start : ℕ) (found : ufr_refusal history start ≡ 0) where
  abbrev named : List ℕ
  named = with_ufr_field (ufr_found history) file

  named-read : (refusal named ≡ 0) × (case_of named ≡ months_case file history)
  named-read = field-read file b accepted (ufr_found history) (found-most history start found)

  same-refusal : (factors rates : ℕ) → failing (months_checks file history start factors rates) ≡ failing (valuation_checks factors rates named)
  unfolding refusal ufr_refusal
  same-refusal factors rates =
      behind-check (buffers_check factors rates) (checks file ++ history_checks history start) (checks named)
      (holds-first (checks file) (history_checks history start) (none-fails (checks file) accepted)
      ∙ none-fails (history_checks history start) found
      ∙ sym (none-fails (checks named) named-read.0))

  -- whatever a valuation gives of its refusal and its case
  same-given : {A : Type 0} (given : Option Refusal → FileCase → A) (factors rates : ℕ)
      → given (failing (months_checks file history start factors rates)) (months_case file history)
      ≡ given (failing (valuation_checks factors rates named)) (case_of named)
  same-given given factors rates = ap₂ given (same-refusal factors rates) (sym named-read.1)

  pub as-if-field : (factors : List ℕ) (rates : List ℤ) → ValuedWithField file history start factors rates
  unfolding months_valuation months_factors_after months_rates_after valuation_of Buffers.factors_after Buffers.rates_after
  as-if-field factors rates = record {
    answer = same-given answered (length factors) (length rates);
    factors_after = same-given (λ r k. written r (factor_entries k) factors) (length factors) (length rates);
    rates_after = same-given (λ r k. written r (rate_entries k) rates) (length factors) (length rates);
  }

-- ---- a valuation that is not refused: every check holds

module _ (file history : List ℕ) (start factors rates : ℕ) (none : failing (months_checks file history start factors rates) ≡ None) where
  passed : (failing (valuation_checks factors rates file) ≡ None) × (failing (history_checks history start) ≡ None)
  passed = both-hold (first file history start factors rates) (history_checks history start) none

  pub is_found : ufr_refusal history start ≡ 0
  unfolding ufr_refusal
  is_found = first-fails (history_checks history start) None passed.1

  pub is-accepted : refusal file ≡ 0
  unfolding refusal
  is-accepted = hold-none (checks file) (none-holds (valuation_checks factors rates file) passed.0).1

  pub within-limits : WithinLimits (months_case file history)
  within-limits = within-ufr (case_of file) (Acceptance.within-limits file is-accepted) (ufr_found history) (found-most history start is_found)
