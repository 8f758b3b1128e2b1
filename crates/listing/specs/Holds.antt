-- A double that holds a whole number. Assumes nothing.
use Rattle.std.specs.Prelude.{◌≡◌, ℕ, T, Float}
use Rattle.std.specs.Float.{binary64}
use Rattle.std.specs.Float.Ieee.{in_unsigned, to_unsigned}
use Rattle.method.specs.Window.{double}

-- x is the double of the whole number n, and read back as a number of 64 bits it is n again
pub record Holds (x : Float) (n : ℕ) : Type 0 where
  pub is : x ≡ double n
  pub exact : T (in_unsigned binary64 64 x)
  pub back : to_unsigned 64 x ≡ n
