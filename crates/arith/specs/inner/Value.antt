-- The number that a Wide holds. Assumes nothing.
use Rattle.std.specs.Prelude.{ℕ, ◌+◌, ◌*◌, ◌^◌}
use Rattle.arith.specs.declared.digits.Wide.{Wide}

-- six digits of base 2^32, the least first
abbrev pub value : (d0 d1 d2 d3 d4 d5 : ℕ) → ℕ
value d0 d1 d2 d3 d4 d5 = d0 + 2 ^ 32 * (d1 + 2 ^ 32 * (d2 + 2 ^ 32 * (d3 + 2 ^ 32 * (d4 + 2 ^ 32 * d5))))

unfoldable pub val : Wide → ℕ
val w = value w.d0 w.d1 w.d2 w.d3 w.d4 w.d5
