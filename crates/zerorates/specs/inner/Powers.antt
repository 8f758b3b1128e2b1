-- Bounds of the power of t years at step i: 100,000 ÷ (98,000 + i), taken t times.
use Rattle.std.specs.Prelude.{ℕ, zero, suc, ◌+◌, ◌*◌, ◌^◌, ◌≤◌}
use Rattle.arith.specs.Rounding.{high, divide}
use Rattle.model.specs.Constants.{steps_per_one}
use Rattle.arith.specs.declared.bracket.Bracket.{Bracket}

-- the power, in units of 2^-30, is between the ends of x, which are at most m
pub record Encloses (x : Bracket) (t i m : ℕ) : Type 0 where
  pub lower : x.lower * (98000 + i) ^ t ≤ 2 ^ 30 * steps_per_one ^ t
  pub upper : 2 ^ 30 * steps_per_one ^ t ≤ x.upper * (98000 + i) ^ t
  pub most : x.upper ≤ m

-- What no upper bound passes, in units of 2^-30. At step 0 that of one year is 1,095,654,923. Each further year is counted as 77 more,
-- because a square carries the roundings of its half twice.
unfoldable pub power_most : ℕ → ℕ
power_most zero = 2 ^ 30
power_most (suc zero) = 1095654923
power_most (suc (suc t)) = divide high (power_most (suc t) * 1095655000) (2 ^ 30)
