-- Containment and width of a case file that is valued with a history, of the very figures and verdict that are answered and of the entries
-- that both buffers then hold: no check has failed, so the case with the UFR found is within the limits. Assumes nothing.
use mathlib.Core.Path.{◌≡◌, sym}
use mathlib.Core.List.{List}
use Prim.Native.Nat.{ℕ}
use lib.ListN.{length, drop}
use lib.IntN.{ℤ}
use Rattle.std.specs.Prelude.{None, Ok}
use Rattle.model.specs.Refusals.{failing}
use Rattle.method.specs.Buffers.{entry_of, rate_entry_of}
use Rattle.method.specs.Containment.{ContainmentAndWidth}
use Rattle.monthsmodel.specs.Months.{months_checks, months_case, months_valuation, months_factors_after, months_rates_after}
use Rattle.model.specs.declared.figures.Valuation.{Valuation}
use Rattle.theory.proofs.containment.Proved.{containment}
use Rattle.theory.proofs.containment.Written.{no-refusal, written-rounded}
use Rattle.theory.proofs.months.Valued.{within-limits}

module _ (file history : List ℕ) (start : ℕ) (factors : List ℕ) (rates : List ℤ) (v : Valuation)
    (e : months_valuation file history start (length factors) (length rates) ≡ Ok v) where
  none : failing (months_checks file history start (length factors) (length rates)) ≡ None
  unfolding months_valuation
  none = no-refusal (failing (months_checks file history start (length factors) (length rates))) (months_case file history) v e

  pub months-contained : ContainmentAndWidth (months_case file history) (record {
    figures = v.figures;
    verdict = v.verdict;
    factor = entry_of (months_factors_after file history start factors rates);
    rate = rate_entry_of (months_rates_after file history start factors rates);
  })
  unfolding months_valuation months_factors_after months_rates_after
  months-contained =
      containment (months_case file history) (within-limits file history start (length factors) (length rates) none) _
      (written-rounded (months_case file history) v (months_factors_after file history start factors rates) (drop 240 factors)
      (months_rates_after file history start factors rates) (drop 240 rates) (rw none at (sym e)) (rw none) (rw none))
