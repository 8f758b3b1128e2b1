-- Containment and width of a window that is valued, of the very figures and verdict that are answered and of the entries that both buffers
-- then hold: no check has failed, so the case with its days is within the limits, and both are proved of every such case. Assumes nothing.
use Prim.Native.Nat.{ℕ}
use mathlib.Core.Path.{◌≡◌, sym}
use mathlib.Core.List.{List}
use lib.ListN.{length, drop}
use lib.IntN.{ℤ}
use Rattle.std.specs.Prelude.{None, Ok}
use Rattle.model.specs.Refusals.{failing}
use Rattle.method.specs.Buffers.{entry_of, rate_entry_of}
use Rattle.model.specs.Case.{FileCase, with_days}
use Rattle.method.specs.Containment.{ContainmentAndWidth}
use Rattle.rollingmodel.specs.Rolling.{days_held, rolling_checks, rolling_valuation, rolling_factors_after, rolling_rates_after}
use Rattle.model.specs.declared.figures.Valuation.{Valuation}
use Rattle.rollingmodel.specs.declared.RollingWindow.{RollingWindow}
use Rattle.theory.proofs.containment.Proved.{containment}
use Rattle.theory.proofs.containment.Written.{no-refusal, written-rounded}
use Rattle.theory.proofs.rolling.Valued.{within-limits}

module _ (w : RollingWindow) (k : FileCase) (factors : List ℕ) (rates : List ℤ) (v : Valuation)
    (e : rolling_valuation w k (length factors) (length rates) ≡ Ok v) where
  none : failing (rolling_checks w k (length factors) (length rates)) ≡ None
  unfolding rolling_valuation
  none = no-refusal (failing (rolling_checks w k (length factors) (length rates))) (with_days 2 (days_held w) k) v e

  pub window-contained : ContainmentAndWidth (with_days 2 (days_held w) k) (record {
    figures = v.figures;
    verdict = v.verdict;
    factor = entry_of (rolling_factors_after w k factors rates);
    rate = rate_entry_of (rolling_rates_after w k factors rates);
  })
  unfolding rolling_valuation rolling_factors_after rolling_rates_after
  window-contained =
      containment (with_days 2 (days_held w) k) (within-limits w k (length factors) (length rates) none) _
      (written-rounded (with_days 2 (days_held w) k) v (rolling_factors_after w k factors rates) (drop 240 factors)
      (rolling_rates_after w k factors rates) (drop 240 rates) (rw none at (sym e)) (rw none) (rw none))
