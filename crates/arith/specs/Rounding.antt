-- Rounding of a quotient to a whole number: down at the lower end of a bracket, up at the upper. Assumes nothing.
use Rattle.std.specs.Prelude.{ℕ, ◌+◌, ◌-◌, ◌/◌}

-- The two ends of a bracket: a lower number rounds down at every step, an upper one up.
pub data End : Type 0 where
  low high : End

abbrev pub other : End → End
other low = high
other high = low

-- a ÷ b, for b above 0
unfoldable pub divide : End → ℕ → ℕ → ℕ
divide low a b = a / b
divide high a b = (a + (b - 1)) / b
