-- What a way of dividing can do with a number, it can do with a smaller one. Assumes nothing.
use Prim.Native.Nat.{ℕ, ◌≤◌}
use native.Mathlib.Nat.{mul-le-mul_right, lt_of_le_of_lt}
use native.Mathlib.Omega.{arith}
use Rattle.arith.specs.inner.Range.{Small, InRange}

pub small-smaller : (x y a b : ℕ) → x ≤ y → Small y a b → Small x a b
small-smaller x y a b h w = record { some = w.some; fits = omega (arith, w.fits, mul-le-mul_right a h) }

pub range-smaller : (x y a b : ℕ) → x ≤ y → InRange y a b → InRange x a b
range-smaller x y a b h w = record {
  left = omega (arith, w.left);
  right = w.right;
  some = w.some;
  most = w.most;
  fits = lt_of_le_of_lt (mul-le-mul_right a h) w.fits;
}
