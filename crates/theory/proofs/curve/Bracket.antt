-- A number that counts a fraction in units of 1 over u, at an end: what each step of the rounded working keeps.
-- Assumes nothing.
use Prim.Native.Nat.{ℕ, ◌*◌}
use Rattle.arith.specs.Rounding.{End}
use Rattle.arith.proofs.Ends.{◌≤⟨◌⟩◌}
use Rattle.method.specs.Fraction.{Fraction}

-- a record, so that the numbers are read off a proof
pub record Bounded (e : End) (u n : ℕ) (x : Fraction) : Type 0 where
  pub is : n * x.den ≤⟨ e ⟩ u * x.num
