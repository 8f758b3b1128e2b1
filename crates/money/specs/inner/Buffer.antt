-- S by the six losses together.
use Rattle.std.specs.Prelude.{ℕ}
use Rattle.arith.specs.Rounding.{End}
use Rattle.arith.specs.Brackets.{end_of}
use Rattle.method.specs.Rounded as Rounded
use Rattle.money.specs.declared.buffer.Losses.{Losses}

abbrev pub buffer_of : ℕ → Losses → End → ℕ
buffer_of c s e = Rounded.buffer e c (end_of s.s1 e) (end_of s.s2 e) (end_of s.s3 e) (end_of s.s4 e) (end_of s.s5 e) (end_of s.s6 e)
