-- What a valuation gives is that of the rounded working, where its answer is that of a case and both buffers begin with the entries of that
-- case. Assumes nothing.
use mathlib.Core.Path.{◌≡◌, refl, ap}
use mathlib.Core.List.{List, ◌++◌}
use Prim.Native.Nat.{ℕ}
use lib.IntN.{ℤ, pos}
use Rattle.std.specs.Prelude.{Option, Some, None, Result, Ok, Err}
use Rattle.refusal.specs.declared.Refusal.{Refusal}
use Rattle.method.specs.Buffers.{answered, factor_entries, rate_entries, entry_of, rate_entry_of}
use Rattle.model.specs.Case.{FileCase}
use Rattle.method.specs.Curve.{base, curve}
use Rattle.method.specs.Rounded as Rounded
use Rattle.method.specs.Promises.{IsRounded}
use Rattle.model.specs.declared.figures.Figures.{Figures}
use Rattle.model.specs.declared.figures.Verdict.{Verdict}
use Rattle.model.specs.declared.figures.Valuation.{Valuation}
use Rattle.theory.proofs.general.Entries.{lower_in, upper_in, by-term}

-- an answer with figures is of no refusal
pub no-refusal : (o : Option Refusal) (k : FileCase) (v : Valuation) → answered o k ≡ Ok v → o ≡ None
no-refusal None k v e = refl
no-refusal (Some r) k v e = cc

-- the figures and the verdict of an answer that has them
abbrev pub figures_or : Figures → Result Valuation Refusal → Figures
figures_or none (Err r) = none
figures_or none (Ok v) = v.figures

abbrev pub verdict_or : Verdict → Result Valuation Refusal → Verdict
verdict_or none (Err r) = none
verdict_or none (Ok v) = v.verdict

pub written-rounded : (k : FileCase) (v : Valuation) (factors later : List ℕ) (rates later_rates : List ℤ)
    → Ok v ≡ answered None k
    → factors ≡ factor_entries k ++ later
    → rates ≡ rate_entries k ++ later_rates
    → IsRounded k (record { figures = v.figures; verdict = v.verdict; factor = entry_of factors; rate = rate_entry_of rates })
unfolding factor_entries rate_entries
written-rounded k v factors later rates later_rates e f z =
    let factor = Rounded.factor (curve k base) in
    let rate = Rounded.zero_rate (curve k base) in
    record {
      figures = ap (figures_or v.figures) e;
      verdict = ap (verdict_or v.verdict) e;
      factor = by-term 0 factors factor 120 (λ t l. rw f (lower_in factor 120 later 0 t l)) (λ t l. rw f (upper_in factor 120 later 0 t l));
      rate = by-term (pos 0) rates rate 120 (λ t l. rw z (lower_in rate 120 later_rates (pos 0) t l)) (λ t l. rw z (upper_in rate 120 later_rates (pos 0) t l));
    }
