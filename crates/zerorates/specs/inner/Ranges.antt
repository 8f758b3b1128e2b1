-- What the functions of `zerorates` ask of their numbers, so that nothing on the way passes 64 bits and every rate is a step.
use Rattle.std.specs.Prelude.{ℕ, ◌+◌, ◌*◌, ◌/◌, ◌^◌, ◌≤◌, ◌<◌, List}
use Rattle.arith.specs.Rounding.{low, high}
use Rattle.arith.specs.declared.bracket.Bracket.{Bracket}
use Rattle.method.specs.Rounded.{tested}
use Rattle.searchmodel.specs.declared.StepsLeft.{StepsLeft}
use Rattle.curves.specs.inner.ByTerm.{factor_at}

-- of a test of the zero rate
pub record StepWithin (t i : ℕ) : Type 0 where
  pub term : t ≤ 120
  pub step : i ≤ 22000

-- of the steps that are left in a search
pub record LeftWithin (p : StepsLeft) : Type 0 where
  pub order : p.first ≤ p.last
  pub most : p.last ≤ 22000

-- of a guess of the rate of term t + 1: a divisor that is not 0, and what its products are at most
pub record GuessWithin (t step before factor : ℕ) : Type 0 where
  pub some : 0 < factor
  pub product : before * 100000 ≤ 12 * 10 ^ 17
  pub growth : before * 100000 / factor ≤ 12 * 10 ^ 17
  pub years : t * (98000 + step) ≤ 120 * 120000
  pub term : t < 120
  pub last : step ≤ 22000

-- of the factors of the terms 1 to 120: the first step passes the lower test, and the last one the upper test
pub record RatesWithin (factors : List Bracket) : Type 0 where
  pub lower : (t : ℕ) → 1 ≤ t → t ≤ 120 → factor_at factors high t ≤ tested low t 0
  pub upper : (t : ℕ) → 1 ≤ t → t ≤ 120 → tested high t 22000 ≤ factor_at factors low t
