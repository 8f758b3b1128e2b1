-- The products under the root of S6: they fit the wide numbers, and the root is at most L. Assumes nothing.
use Prim.Native.Nat.{ℕ, ◌+◌, ◌*◌, ◌^◌, ◌≤◌, ◌<◌}
use mathlib.Core.Path.{◌≡◌}
use native.Mathlib.Omega.{arith}
use native.Mathlib.Nat.{mul-le-mul, mul-le-mul_left, le_trans, lt_of_le_of_lt, lt_of_lt_of_le}
use lib.Dec.{lit≤, lit<}
use Rattle.arith.specs.Rounding.{End}
use Rattle.arith.specs.Root.{root}
use Rattle.arith.proofs.Root.{root-le}

-- S6: by the head count h and the age gap d
module _ (h d : ℕ) (some : 1 ≤ h) (most : h ≤ 1000000) (gap : d ≤ 1200) where
  g : ℕ
  g = 320 + 3 * d

  pub gap-square : (320 + 3 * d) * (320 + 3 * d) ≤ 15366400
  gap-square = let l : 320 + 3 * d ≤ 3920 = omega arith in mul-le-mul l l

  pub heads-square : h * ((320 + 3 * d) * (320 + 3 * d)) ≤ 15366400000000
  heads-square = le_trans (mul-le-mul most gap-square) (lit≤ tt)

  module _ (l v k : ℕ) (hl : l ≤ 408 * 10 ^ 10) (ek : k ≡ h * ((320 + 3 * d) * (320 + 3 * d)) + 92160000) (e : v ≡ l * l * k) where
    pub margin-most : v < 2 ^ 128
    margin-most =
        let hk : k ≤ 15366492160000 = omega (arith, heads-square) in
        rw e (lt_of_le_of_lt (mul-le-mul (mul-le-mul hl hl) hk) (lit< {m = 408 * 10 ^ 10 * (408 * 10 ^ 10) * 15366492160000} {n = 2 ^ 128} tt))

    pub margin-fits : v < 2 ^ 112 * (256000000 * h)
    margin-fits =
        let hk : k ≤ 2 ^ 45 = omega (arith, heads-square) in
        let m : 256000000 ≤ 256000000 * h = omega arith in
        rw e
        (lt_of_le_of_lt (mul-le-mul (mul-le-mul hl hl) hk)
        (lt_of_lt_of_le (lit< {m = 408 * 10 ^ 10 * (408 * 10 ^ 10) * 2 ^ 45} {n = 2 ^ 112 * 256000000} tt) (mul-le-mul_left (2 ^ 112) m)))

    pub margin-end : (end : End) (r : ℕ) → r ≡ root end v (256000000 * h) → r ≤ 50 * 10 ^ 12
    margin-end end r p =
        let share : k ≤ 256000000 * h = omega (arith, mul-le-mul_left h gap-square) in
        let reached : v ≤ l * l * (256000000 * h) = rw e (mul-le-mul_left (l * l) share) in
        rw p (le_trans (root-le end v (256000000 * h) l (omega arith) reached) (omega arith))
