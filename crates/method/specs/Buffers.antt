-- What a valuation answers, and what the lent buffers hold after it (METHOD, Buffers, window, listing; METHOD, Refusals).
use Rattle.std.specs.Prelude.{ℕ, zero, suc, ◌+◌, ◌*◌, ◌-◌, ◌&&◌, List, [], ◌∷◌, ◌++◌, nat_le, length, slice_index_or, drop, ℤ, pos, Option, Some, None, Result, Ok, Err}
use Rattle.refusal.specs.Numbered.{refused_by}
use Rattle.refusal.specs.declared.Refusal.{Refusal}
use Rattle.refusal.specs.declared.Refusal.TheVariants.{Buffers}
use Rattle.arith.specs.Rounding.{End, low, high}
use Rattle.model.specs.Constants.{last_term}
use Rattle.model.specs.Case.{FileCase}
use Rattle.model.specs.Fields.{Check}
use Rattle.model.specs.Layout.{case_of}
use Rattle.model.specs.Refusals.{failing, first_of, checks}
use Rattle.method.specs.Curve.{base, curve}
use Rattle.method.specs.Rounded as Rounded
use Rattle.model.specs.declared.figures.Valuation.{Valuation}

-- "13: the lent buffer for factors or for rates has fewer than 240 entries.": by the lengths of the two buffers
abbrev pub buffers_check : ℕ → ℕ → Check
buffers_check factors rates = (nat_le 240 factors && nat_le 240 rates, Buffers)

-- "Order: 13; then ..": 13, then the file's own refusals
abbrev pub valuation_checks : ℕ → ℕ → List ℕ → List Check
valuation_checks factors rates file = buffers_check factors rates ∷ checks file

unfoldable pub valuation_refusal : ℕ → ℕ → List ℕ → ℕ
valuation_refusal factors rates file = first_of (valuation_checks factors rates file)

-- "lower, upper, term by term", of the terms 1 to t
unfoldable pub by_term : {A : Type 0} → (End → ℕ → A) → ℕ → List A
by_term figure zero = []
by_term figure (suc t) = by_term figure t ++ (figure low (suc t) ∷ figure high (suc t) ∷ [])

-- an end of the figure of a term, from 1, in such entries; `none` where they have no such entry
abbrev pub entry_or : {A : Type 0} → A → List A → End → ℕ → A
entry_or none entries low t = slice_index_or entries (2 * (t - 1)) none
entry_or none entries high t = slice_index_or entries (2 * (t - 1) + 1) none

-- of factors, and of zero rates
abbrev pub entry_of : List ℕ → End → ℕ → ℕ
entry_of = entry_or 0

abbrev pub rate_entry_of : List ℤ → End → ℕ → ℤ
rate_entry_of = entry_or (pos 0)

unfoldable pub factor_entries : FileCase → List ℕ
factor_entries k = by_term (Rounded.factor (curve k base)) last_term

unfoldable pub rate_entries : FileCase → List ℤ
rate_entries k = by_term (Rounded.zero_rate (curve k base)) last_term

-- "into entries 0 to 239; later entries keep their content"; "A refusal .. changes nothing lent."
abbrev pub written : {A : Type 0} → Option Refusal → List A → List A → List A
written None entries held = entries ++ drop 240 held
written (Some r) entries held = held

unfoldable pub factors_after : List ℕ → List ℕ → List ℤ → List ℕ
factors_after file factors rates =
    written (failing (valuation_checks (length factors) (length rates) file)) (factor_entries (case_of file)) factors

unfoldable pub rates_after : List ℕ → List ℕ → List ℤ → List ℤ
rates_after file factors rates =
    written (failing (valuation_checks (length factors) (length rates) file)) (rate_entries (case_of file)) rates

-- "A refusal returns only its number"
abbrev pub answered : Option Refusal → FileCase → Result Valuation Refusal
answered None k = Ok (record { figures = Rounded.figures k; verdict = Rounded.verdict k })
answered (Some r) k = Err r

unfoldable pub valuation_of : ℕ → ℕ → List ℕ → Result Valuation Refusal
valuation_of factors rates file = answered (failing (valuation_checks factors rates file)) (case_of file)

-- the number of an answer: that of a refusal, and 0 for a case that is valued
abbrev pub refusal_number : Result Valuation Refusal → ℕ
refusal_number = refused_by
