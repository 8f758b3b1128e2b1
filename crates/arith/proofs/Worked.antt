-- The rounded quotient and the rounded root at numbers, each computed. Assumes nothing.
use Prim.Native.Nat.{ℕ, zero, suc, ◌+◌, ◌*◌, ◌^◌, ◌≤◌}
use mathlib.Core.Path.{◌≡◌, refl}
use lib.Dec.{lit≤}
use native.Mathlib.Omega.{arith}
use Rattle.arith.specs.Rounding.{low, high, divide}
use Rattle.arith.specs.Root.{root, FloorRoot, CeilingRoot}

-- 7 ÷ 2 lies between 3 and 4
quotient-between : (divide low 7 2 ≡ 3) × (divide high 7 2 ≡ 4)
unfolding divide
quotient-between = (refl, refl)

-- the least remainder rounds up, and the largest down
quotient-near : (divide high 2001 1000 ≡ 3) × (divide low 2999 1000 ≡ 2)
unfolding divide
quotient-near = (refl, refl)

-- 6 ÷ 2 and 0 ÷ 2 are whole
quotient-whole : (divide low 6 2 ≡ 3) × (divide high 6 2 ≡ 3) × (divide low 0 2 ≡ 0) × (divide high 0 2 ≡ 0)
unfolding divide
quotient-whole = (refl, refl, refl, refl)

-- the root of 3,700,000,000 (the hand-worked case C9), as the fraction 3,700,000,000,000 ÷ 1000
root-c9 : (root low 3700000000000 1000 ≡ 60827) × (root high 3700000000000 1000 ≡ 60828)
unfolding root
root-c9 = (refl, refl)

-- squares: 49, 18 ÷ 2 and 0
root-whole : (root low 49 1 ≡ 7) × (root high 49 1 ≡ 7) × (root low 18 2 ≡ 3) × (root high 18 2 ≡ 3) × (root low 0 1 ≡ 0) × (root high 0 1 ≡ 0)
unfolding root
root-whole = (refl, refl, refl, refl, refl, refl)

-- one less and one more than a square
root-near : (root low 48 1 ≡ 6) × (root high 48 1 ≡ 7) × (root low 50 1 ≡ 7) × (root high 50 1 ≡ 8)
unfolding root
root-near = (refl, refl, refl, refl)

-- fractions that are no whole numbers: 1 ÷ 2, 9 ÷ 4 with the root 1.5, and 9 ÷ 2, which is just above the square 4
root-fraction : (root low 1 2 ≡ 0) × (root high 1 2 ≡ 1) × (root low 9 4 ≡ 1) × (root high 9 4 ≡ 2) × (root low 9 2 ≡ 2) × (root high 9 2 ≡ 3)
unfolding root
root-fraction = (refl, refl, refl, refl, refl, refl)

-- large numbers
root-large : (root low (10 ^ 60) 1 ≡ 10 ^ 30) × (root high (10 ^ 60 + 1) 1 ≡ 10 ^ 30 + 1)
unfolding root
root-large = (refl, refl)

-- what a root is, rounded down: of a square, of one less than the next, and of a fraction
floor-root : FloorRoot 9 1 3 × FloorRoot 15 1 3 × FloorRoot 18 2 3
floor-root = (
  record { reaches = lit≤ tt; last = lit≤ tt },
  record { reaches = lit≤ tt; last = lit≤ tt },
  record { reaches = lit≤ tt; last = lit≤ tt },
)

-- rounded up: of the same square, of one more, and of the same fraction
ceiling-root : CeilingRoot 9 1 3 × CeilingRoot 10 1 4 × CeilingRoot 18 2 3
ceiling-root = (
  record { covers = lit≤ tt; first = nine },
  record { covers = lit≤ tt; first = ten },
  record { covers = lit≤ tt; first = eighteen },
)
  where
    nine : (m : ℕ) → 9 ≤ m * m * 1 → 3 ≤ m
    nine zero h = omega (arith, h)
    nine (suc zero) h = omega (arith, h)
    nine (suc (suc zero)) h = omega (arith, h)
    nine (suc (suc (suc m))) h = omega arith

    ten : (m : ℕ) → 10 ≤ m * m * 1 → 4 ≤ m
    ten zero h = omega (arith, h)
    ten (suc zero) h = omega (arith, h)
    ten (suc (suc zero)) h = omega (arith, h)
    ten (suc (suc (suc zero))) h = omega (arith, h)
    ten (suc (suc (suc (suc m)))) h = omega arith

    eighteen : (m : ℕ) → 18 ≤ m * m * 2 → 3 ≤ m
    eighteen zero h = omega (arith, h)
    eighteen (suc zero) h = omega (arith, h)
    eighteen (suc (suc zero)) h = omega (arith, h)
    eighteen (suc (suc (suc m))) h = omega arith
