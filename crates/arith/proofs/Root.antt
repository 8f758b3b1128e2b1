-- What the root of a fraction is, rounded down and rounded up: the number that its property names, and its upper bounds.
-- Assumes nothing.
use Prim.Native.Nat.{ℕ, zero, suc, ◌+◌, ◌*◌, ◌^◌, ◌≤◌, ◌<◌}
use mathlib.Core.Path.{◌≡◌, refl, sym, ap, ◌∙◌, subst}
use mathlib.Core.Bool.{cond}
use lib.Dec.{leb}
use lib.Ieee.{size}
use lib.Ieee.Digits.{size-lt}
use borrow.Author.Tests.{le-leb, lt-leb}
use native.Mathlib.Nat.{mul-le-mul, mul-le-mul_left, le_of_mul-le-mul_right, lt_of_mul-lt-mul_right, pow-zero, pow-suc}
use native.Mathlib.Nat.{le_trans, lt_of_lt_of_le, lt_of_le_of_lt}
use native.Mathlib.Decide.{dec_le}
use native.Mathlib.Omega.{arith}
use Rattle.arith.specs.Rounding.{End, low, high}
use Rattle.arith.specs.Root.{FloorRoot, CeilingRoot, root_of_digits, root}

-- a square is at most another only if the number is
pub unsquare : (a b : ℕ) → a * a ≤ b * b → a ≤ b
unsquare a b h = go (dec_le a b)
  where
    go : Dec (a ≤ b) → a ≤ b
    go (yes k) = k
    go (no k) = let l : b + 1 ≤ a = omega arith in omega (arith, mul-le-mul l l)

pub unsquare-lt : (a b : ℕ) → a * a < b * b → a < b
unsquare-lt a b h = go (dec_le b a)
  where
    go : Dec (b ≤ a) → a < b
    go (yes k) = omega (arith, mul-le-mul k k)
    go (no k) = omega arith

-- the same of squares times d
unsquare-by : (a b d : ℕ) → 0 < d → a * a * d ≤ b * b * d → a ≤ b
unsquare-by a b d pos h = unsquare a b (le_of_mul-le-mul_right h pos)

unsquare-lt-by : (a b d : ℕ) → a * a * d < b * b * d → a < b
unsquare-lt-by a b d h = unsquare-lt a b (lt_of_mul-lt-mul_right d h)

-- a number below a multiple of d: d is not 0
multiple-pos : (n m d : ℕ) → n < m * d → 0 < d
multiple-pos n m zero h = omega arith
multiple-pos n m (suc d) h = omega arith

-- one binary digit more: from the root r of n ÷ (4 × d) to that of n ÷ d
digit-more : (n d r : ℕ) → FloorRoot n (4 * d) r → FloorRoot n d (cond (leb ((2 * r + 1) * (2 * r + 1) * d) n) (2 * r + 1) (2 * r))
digit-more n d r h = go (dec_le ((2 * r + 1) * (2 * r + 1) * d) n)
  where
    go : Dec ((2 * r + 1) * (2 * r + 1) * d ≤ n) → FloorRoot n d (cond (leb ((2 * r + 1) * (2 * r + 1) * d) n) (2 * r + 1) (2 * r))
    go (yes l) = rw (le-leb ((2 * r + 1) * (2 * r + 1) * d) n l) (record { reaches = l; last = omega (arith, h.last) })
    go (no l) =
        let g : n < (2 * r + 1) * (2 * r + 1) * d = omega arith in
        rw (lt-leb ((2 * r + 1) * (2 * r + 1) * d) n g) (record { reaches = omega (arith, h.reaches); last = g })

-- k digits suffice where n is below 2^k × d
digits-suffice : (k n d : ℕ) → n < 2 ^ k * d → FloorRoot n d (root_of_digits k n d)
unfolding root_of_digits
digits-suffice zero n d h = record { reaches = omega arith; last = rw pow-zero at h }
digits-suffice (suc k) n d h =
    digit-more n d (root_of_digits k n (4 * d)) (digits-suffice k n (4 * d) (omega (arith, pow-suc 2 k, ap (λ (p : ℕ). p * d) (pow-suc 2 k))))

-- the root rounded down has its property: n is below 2 to the number of its binary digits
pub root-floor : (n d : ℕ) → 0 < d → FloorRoot n d (root low n d)
unfolding root
root-floor n d pos = digits-suffice (size n) n d (lt_of_lt_of_le (size-lt n) (omega (arith, mul-le-mul_left (2 ^ size n) pos)))

-- and it is the only number with it
pub root-low-is : (n d r : ℕ) → FloorRoot n d r → r ≡ root low n d
root-low-is n d r h =
    let pos : 0 < d = multiple-pos n ((r + 1) * (r + 1)) d h.last in
    let s : FloorRoot n d (root low n d) = root-floor n d pos in
    let l : r < root low n d + 1 = unsquare-lt-by r (root low n d + 1) d (lt_of_le_of_lt h.reaches s.last) in
    let m : root low n d < r + 1 = unsquare-lt-by (root low n d) (r + 1) d (lt_of_le_of_lt s.reaches h.last) in
    omega arith

-- rounded up it is the root rounded down where that is exact, and else one more
abbrev up : (n d r : ℕ) → ℕ
up n d r = cond (leb n (r * r * d)) r (r + 1)

up_is : (n d r : ℕ) → r ≡ root low n d → up n d r ≡ root high n d
unfolding root
up_is n d r e = ap (λ (s : ℕ). up n d s) e

pub root-high-exact : (n d r : ℕ) → r ≡ root low n d → n ≤ r * r * d → r ≡ root high n d
root-high-exact n d r e h = sym (rw (le-leb n (r * r * d) h)) ∙ up_is n d r e

pub root-high-more : (n d r : ℕ) → r ≡ root low n d → r * r * d < n → r + 1 ≡ root high n d
root-high-more n d r e h = sym (rw (lt-leb n (r * r * d) h)) ∙ up_is n d r e

-- so it is the first number that covers n
ceiling-exact : (n d r : ℕ) → 0 < d → FloorRoot n d r → n ≤ r * r * d → CeilingRoot n d r
ceiling-exact n d r pos f h = record { covers = h; first = λ m a. unsquare-by r m d pos (le_trans f.reaches a) }

ceiling-more : (n d r : ℕ) → FloorRoot n d r → r * r * d < n → CeilingRoot n d (r + 1)
ceiling-more n d r f h =
    record {
      covers = omega (arith, f.last);
      first = λ m a. omega (arith, unsquare-lt-by r m d (lt_of_lt_of_le h a));
    }

pub root-ceiling : (n d : ℕ) → 0 < d → CeilingRoot n d (root high n d)
root-ceiling n d pos = go (root low n d) refl (root-floor n d pos) (dec_le n _)
  where
    go : (r : ℕ) → r ≡ root low n d → FloorRoot n d r → Dec (n ≤ r * r * d) → CeilingRoot n d (root high n d)
    go r e f (yes h) = subst (λ (s : ℕ). CeilingRoot n d s) (root-high-exact n d r e h) (ceiling-exact n d r pos f h)
    go r e f (no h) =
        let l : r * r * d < n = omega arith in
        subst (λ (s : ℕ). CeilingRoot n d s) (root-high-more n d r e l) (ceiling-more n d r f l)

-- at most any whole number that is at least the root
pub root-le : (e : End) (n d k : ℕ) → 0 < d → n ≤ k * k * d → root e n d ≤ k
root-le low n d k pos h = unsquare-by (root low n d) k d pos (le_trans (root-floor n d pos).reaches h)
root-le high n d k pos h = (root-ceiling n d pos).first k h
