-- The shift of a curve as two natural numbers, for code that has no negative ones.
use Rattle.std.specs.Prelude.{ℕ}
use Rattle.method.specs.Curve.{Move, base, up, down}
use Rattle.model.specs.declared.case.Shocks.{Shocks}

-- the steps that a curve adds to every mean rate, and those that it takes from it
abbrev pub added : Shocks → Move → ℕ
added x base = 0
added x up = x.up_shift
added x down = 0

abbrev pub taken : Shocks → Move → ℕ
taken x base = 0
taken x up = 0
taken x down = x.down_shift
