-- What rounding a quotient does, at each end: how near it is, and what it is at most and at least.
-- Assumes nothing.
use Prim.Native.Nat.{ℕ, ◌+◌, ◌-◌, ◌*◌, ◌/◌, ◌≤◌, ◌<◌}
use mathlib.Core.Path.{◌≡◌, sym, subst}
use native.Mathlib.Nat.{div-mul-le_self, lt-div-mul-add, div-lt_iff_lt-mul, le-div_iff_mul-le, div-eq_of_lt-le, mul-le-mul_left}
use native.Mathlib.Omega.{arith}
use Rattle.arith.specs.Rounding.{End, low, high, divide}

-- down loses less than one
pub divide-floor : (a b : ℕ) → 0 < b → (divide low a b * b ≤ a) × (a < divide low a b * b + b)
unfolding divide
divide-floor a b pos = (div-mul-le_self a b, lt-div-mul-add pos)

-- up adds less than one
pub divide-ceiling : (a b : ℕ) → 0 < b → (a ≤ divide high a b * b) × (divide high a b * b < a + b)
unfolding divide
divide-ceiling a b pos = omega (arith, div-mul-le_self (a + (b - 1)) b, lt-div-mul-add {a = a + (b - 1)} pos)

-- at most any whole number that is at least a ÷ b
pub divide-le : (e : End) (a b k : ℕ) → 0 < b → a ≤ k * b → divide e a b ≤ k
unfolding divide
divide-le low a b k pos h =
    let l : a / b < k + 1 = (div-lt_iff_lt-mul pos).1 (omega arith) in
    omega arith
divide-le high a b k pos h =
    let l : (a + (b - 1)) / b < k + 1 = (div-lt_iff_lt-mul pos).1 (omega arith) in
    omega arith

-- at least any whole number that is at most a ÷ b
pub le-divide : (e : End) (a b k : ℕ) → 0 < b → k * b ≤ a → k ≤ divide e a b
unfolding divide
le-divide low a b k pos h = (le-div_iff_mul-le pos).1 h
le-divide high a b k pos h = (le-div_iff_mul-le pos).1 (omega arith)

-- the two ends are at most one apart
pub divide-width : (a b : ℕ) → 0 < b → divide high a b ≤ divide low a b + 1
divide-width a b pos = divide-le high a b (divide low a b + 1) pos (omega (arith, divide-floor a b pos))

-- the only number that is as near as `divide-floor` and `divide-ceiling` say
pub divide-low-is : (a b k : ℕ) → k * b ≤ a → a < k * b + b → k ≡ divide low a b
unfolding divide
divide-low-is a b k l h = sym (div-eq_of_lt-le {k = k} b {m = a} l (omega arith))

pub divide-high-is : (a b k : ℕ) → a ≤ k * b → k * b < a + b → k ≡ divide high a b
unfolding divide
divide-high-is a b k l h = sym (div-eq_of_lt-le {k = k} b {m = a + (b - 1)} (omega arith) (omega arith))

-- up is down where that is exact, and else one more
module _ (a b k : ℕ) (pos : 0 < b) (e : k ≡ divide low a b) where
  near : (k * b ≤ a) × (a < k * b + b)
  near = subst (λ (m : ℕ). (m * b ≤ a) × (a < m * b + b)) (sym e) (divide-floor a b pos)

-- a common factor of the dividend and the divisor makes no difference
pub divide-common : (e : End) (c a b : ℕ) → 0 < c → 0 < b → divide e (c * a) (c * b) ≡ divide e a b
divide-common low c a b some pos =
    let (least, less) = divide-floor a b pos in
    let l = mul-le-mul_left c least in
    let m = mul-le-mul_left c less in
    sym (divide-low-is (c * a) (c * b) (divide low a b) (omega arith) (omega arith))
divide-common high c a b some pos =
    let (most, more) = divide-ceiling a b pos in
    let l = mul-le-mul_left c most in
    let m = mul-le-mul_left c more in
    sym (divide-high-is (c * a) (c * b) (divide high a b) (omega arith) (omega arith))
