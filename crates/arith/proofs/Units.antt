-- How many units a ratio is, rounded down, by a division in three digits; and a number times a ratio by these units: exact at either end,
-- where the number times the divisor is below the units of 1. Assumes nothing.
use Prim.Native.Nat.{ℕ, ◌+◌, ◌-◌, ◌*◌, ◌/◌, ◌%◌, ◌^◌, ◌≤◌, ◌<◌}
use mathlib.Core.Path.{◌≡◌, subst, sym, ap, ◌∙◌}
use native.Mathlib.Nat.{mul-le-mul, mul-le-mul_left, mul-le-mul_right, lt_of_mul-lt-mul_right, div-mul-le_self, lt-div-mul-add, div-add-mod', mod-lt}
use native.Mathlib.Omega.{arith}
use lib.Arith.{digits_div}
use Rattle.arith.specs.Rounding.{low, high, divide}
use Rattle.arith.proofs.Rounding.{divide-low-is, divide-high-is}

-- what each digit leaves is divided for the next: 2^28 units, and twice 2^26 for each of these
joined : (a b p q r s t u : ℕ)
    → p * b + s ≡ a * 268435456 → q * b + t ≡ s * 67108864 → r * b + u ≡ t * 67108864
    → ((p * 67108864 + q) * 67108864 + r) * b + u ≡ a * 2 ^ 80
joined a b p q r s t u e f g = omega arith

-- the numbers on the way
abbrev first : ℕ → ℕ
first a = a * 268435456

abbrev second : (a b : ℕ) → ℕ
second a b = first a % b * 67108864

abbrev third : (a b : ℕ) → ℕ
third a b = second a b % b * 67108864

abbrev units : (a b : ℕ) → ℕ
units a b = (first a / b * 67108864 + second a b / b) * 67108864 + third a b / b

pub three-digits : (a b : ℕ) → 0 < b → units a b ≡ a * 2 ^ 80 / b
three-digits a b some =
    let whole : units a b * b + third a b % b ≡ a * 2 ^ 80 =
    joined a b _ _ _ _ _ _ (div-add-mod' (first a) b) (div-add-mod' (second a b) b) (div-add-mod' (third a b) b) in
    sym (ap (λ (n : ℕ). n / b) (sym whole) ∙ digits_div (units a b) (mod-lt (third a b) some))

-- by the properties of the two quotients: v of the ratio, k of the product
module _ (x a b u v k : ℕ) (some : 0 < b) (fits : x * b < u) (least : v * b ≤ a * u) (last : a * u < v * b + b) where
  low-from : k * u ≤ x * (v + 1) → x * (v + 1) < k * u + u → k ≡ divide low (x * a) b
  low-from h m =
      let above : x * (a * u) ≤ x * (v * b + b) = mul-le-mul_left x (omega arith) in
      let below : x * (v * b) ≤ x * (a * u) = mul-le-mul_left x least in
      let reach : k * u * b ≤ x * (v + 1) * b = mul-le-mul_right b h in
      let next : (x * (v + 1) + 1) * b ≤ (k * u + u) * b = mul-le-mul_right b (omega arith) in
      let l : k * b < x * a + 1 = lt_of_mul-lt-mul_right u (omega arith) in
      let n : x * a < k * b + b = lt_of_mul-lt-mul_right u (omega arith) in
      divide-low-is (x * a) b k (omega arith) n

  high-from : k * u ≤ x * v + (u - 1) → x * v + (u - 1) < k * u + u → k ≡ divide high (x * a) b
  high-from h m =
      let above : x * (a * u) ≤ x * (v * b + b) = mul-le-mul_left x (omega arith) in
      let below : x * (v * b) ≤ x * (a * u) = mul-le-mul_left x least in
      let reach : x * v * b ≤ k * u * b = mul-le-mul_right b (omega arith) in
      let next : (k * u + 1) * b ≤ (x * v + u) * b = mul-le-mul_right b (omega arith) in
      let l : x * a < k * b + 1 = lt_of_mul-lt-mul_right u (omega arith) in
      let n : k * b < x * a + b = lt_of_mul-lt-mul_right u (omega arith) in
      divide-high-is (x * a) b k (omega arith) n

module _ (x a b u v : ℕ) (some : 0 < b) (fits : x * b < u) (is : v ≡ a * u / b) where
  least : v * b ≤ a * u
  least = subst (λ (w : ℕ). w * b ≤ a * u) (sym is) (div-mul-le_self (a * u) b)

  last : a * u < v * b + b
  last = subst (λ (w : ℕ). a * u < w * b + b) (sym is) (lt-div-mul-add some)

  units-some : 0 < u
  units-some = omega arith

  pub floor-is : x * (v + 1) / u ≡ divide low (x * a) b
  floor-is = low-from x a b u v (x * (v + 1) / u) some fits least last (div-mul-le_self (x * (v + 1)) u) (lt-div-mul-add units-some)

  pub ceiling-is : (x * v + (u - 1)) / u ≡ divide high (x * a) b
  ceiling-is = high-from x a b u v ((x * v + (u - 1)) / u) some fits least last (div-mul-le_self (x * v + (u - 1)) u) (lt-div-mul-add units-some)

-- in the range of the code
pub within : (x b : ℕ) → x < 2 ^ 46 → b ≤ 2 ^ 34 → x * b < 2 ^ 80
within x b h k = omega (arith, mul-le-mul {n₁ = x} {m₁ = b} {n₂ = 2 ^ 46 - 1} {m₂ = 2 ^ 34} (omega arith) k)
