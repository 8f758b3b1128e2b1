-- Inequalities of powers of natural numbers. All follow from one: the mean of n + 1 numbers, of which n are equal, is at least their
-- geometric mean.
-- Assumes nothing.
use Prim.Native.Nat.{ℕ, zero, suc, ◌+◌, ◌*◌, ◌^◌, ◌≤◌}
use native.Mathlib.Omega.{arith}
use native.Mathlib.Nat.{mul-le-mul_left, mul-le-mul_right, pow-zero, pow-suc, le_dest}
use native.Mathlib.Decide.{dec_le}

-- the mean of two squares is at least the product
square : (a b : ℕ) → 2 * (a * b) ≤ a * a + b * b
square a b = go (dec_le a b)
  where
    go : Dec (a ≤ b) → 2 * (a * b) ≤ a * a + b * b
    go (yes h) = let (d, e) = le_dest h in rw (← e) (omega arith)
    go (no h) = let k : b ≤ a = omega arith in let (d, e) = le_dest k in rw (← e) (omega arith)

-- the mean of powers: (n + 1) × a × b^n is at most a^(n+1) + n × b^(n+1)
mean : (a b n : ℕ) → suc n * (a * b ^ n) ≤ a ^ suc n + n * b ^ suc n
mean a b zero = rw (pow-suc a 0, pow-suc b 0, pow-zero a, pow-zero b) (omega arith)
mean a b (suc n) =
    rw (pow-suc a (suc n), pow-suc b (suc n), pow-suc a n, pow-suc b n)
    (omega (arith, mul-le-mul_right a (rw (pow-suc a n, pow-suc b n) at (mean a b n)), mul-le-mul_right (suc n * b ^ n) (square a b)))

-- From it, with p^(j+1) ÷ q^j compared with (j + 1) × p - j × q, in hundredths: below, and with p and q exchanged above
pub forward : (p q r n j : ℕ) → 100 * (j * q) + r * n ≤ 100 * (suc j * p) → r * n * q ^ j ≤ 100 * p ^ suc j
forward p q r n j h = omega (arith, rw (pow-suc q j) at (mean p q j), mul-le-mul_right (q ^ j) h)

pub backward : (p q r j : ℕ) → r + 100 * (j * p) ≤ 100 * (suc j * q) → p ^ j * r ≤ 100 * q ^ suc j
backward p q r j h = omega (arith, rw (pow-suc p j) at (mean q p j), mul-le-mul_right (p ^ j) h)

-- (v + 1)^t is at least v^t (1 + t ÷ v)
pub bernoulli : (v t : ℕ) → v ^ t * (v + t) ≤ v * (v + 1) ^ t
bernoulli v zero = rw (pow-zero v, pow-zero (v + 1)) (omega arith)
bernoulli v (suc n) = rw (pow-suc v n) (omega (arith, mul-le-mul_left v (rw (pow-suc v n) at (mean (v + 1) v n))))
