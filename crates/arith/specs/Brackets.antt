-- A bracket by its two ends. Assumes nothing.
use Rattle.std.specs.Prelude.{ℕ}
use Rattle.arith.specs.Rounding.{End, low, high}
use Rattle.arith.specs.declared.bracket.Bracket.{Bracket}

-- a bracket from its ends, and an end of a bracket
abbrev pub bracket : (End → ℕ) → Bracket
bracket figure = record { lower = figure low; upper = figure high }

abbrev pub end_of : Bracket → End → ℕ
end_of b low = b.lower
end_of b high = b.upper
