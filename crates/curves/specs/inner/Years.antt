-- Years taken from where a growth stands, in the order of the code: the first year first. From 10^12 it is `scaled` of the model.
use Rattle.std.specs.Prelude.{ℕ, zero, suc, ◌*◌}
use Rattle.arith.specs.Rounding.{End, divide}

-- from x, j times × a ÷ b
unfoldable pub scaled_from : End → ℕ → ℕ → ℕ → ℕ → ℕ
scaled_from e a b x zero = x
scaled_from e a b x (suc j) = scaled_from e a b (divide e (x * a) b) j
