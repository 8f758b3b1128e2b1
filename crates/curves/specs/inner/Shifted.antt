-- A curve as the code holds it, and the three curves of a case that the engine holds.
use Rattle.std.specs.Prelude.{ℕ, zero, suc, ◌+◌, ◌*◌, ◌-◌, slice_index, pos, ◌-ℤ◌}
use Rattle.model.specs.Constants.{steps_per_one}
use Rattle.model.specs.Numbers.{table}
use Rattle.method.specs.Curve.{Curve, Move}
use Rattle.method.specs.inner.Shifts.{added, taken}
use Rattle.heldcase.specs.declared.Case.{Case}
use Rattle.curves.specs.declared.sums.CurveSums.{CurveSums}

-- s(t) is P(t) - N
unfoldable pub curve_of : CurveSums → Curve
curve_of c = record { N = c.n; sum = λ t. pos (slice_index c.sums t) -ℤ pos c.n; ufr = c.ufr }

-- P(t) with `more` steps added to each mean rate and `less` steps taken, and P(0), which is N
unfoldable pub shifted_sum : ℕ → ℕ → Case → ℕ → ℕ
shifted_sum more less k zero = steps_per_one * k.per_step
shifted_sum more less k (suc i) = (slice_index k.sums i + k.per_step * more) - k.per_step * less

unfoldable pub shifted_sums : ℕ → ℕ → Case → CurveSums
shifted_sums more less k =
    record { n = steps_per_one * k.per_step; sums = table (shifted_sum more less k) 61; ufr = k.ufr }

-- the sums of the base, the up or the down curve
abbrev pub moved_sums : Move → Case → CurveSums
moved_sums m k = shifted_sums (added k.shocks m) (taken k.shocks m) k

-- that curve itself
abbrev pub curve_held : Case → Move → Curve
curve_held k m = curve_of (moved_sums m k)
