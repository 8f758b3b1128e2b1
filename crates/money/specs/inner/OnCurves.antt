-- What flows are worth on the three curves, as the code holds it and as the model's figures take it.
use Rattle.std.specs.Prelude.{ℕ}
use Rattle.arith.specs.Rounding.{End}
use Rattle.arith.specs.Brackets.{bracket, end_of}
use Rattle.arith.specs.declared.bracket.Bracket.{Bracket}
use Rattle.method.specs.Curve.{Move, base, up, down}
use Rattle.curves.specs.declared.three.Three.{Three}

-- what the code holds, by curve and end; and back
abbrev pub ends : Three Bracket → Move → End → ℕ
ends w base = end_of w.base
ends w up = end_of w.up
ends w down = end_of w.down

abbrev pub worths : (Move → End → ℕ) → Three Bracket
worths f = record { base = bracket (f base); up = bracket (f up); down = bracket (f down) }
