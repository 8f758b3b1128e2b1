-- A product divided by hand, with two digits of base 2^21: what `scale::Long` works out, at either end. Assumes nothing.
use Prim.Native.Nat.{ℕ, ◌+◌, ◌-◌, ◌*◌, ◌/◌, ◌%◌, ◌^◌, ◌≤◌, ◌<◌}
use mathlib.Core.Path.{◌≡◌, ap, ◌∙◌}
use native.Mathlib.Nat.{div-add-mod', le_of_lt}
use native.Mathlib.Omega.{arith}
use Rattle.arith.specs.inner.Range.{InRange}
use Rattle.arith.specs.Rounding.{End, low, high, divide}
use Rattle.arith.proofs.Rounding.{divide-floor, divide-ceiling, divide-low-is, divide-high-is, divide-le}

-- a multiple of the divisor is taken out
divide-out : (e : End) (k m c : ℕ) → 0 < c → k + divide e m c ≡ divide e (k * c + m) c
divide-out low k m c h =
    let (least, less) = divide-floor m c h in
    divide-low-is (k * c + m) c (k + divide low m c) (omega arith) (omega arith)
divide-out high k m c h =
    let (most, more) = divide-ceiling m c h in
    divide-high-is (k * c + m) c (k + divide high m c) (omega arith) (omega arith)

-- the two divisions, put together: h and l are the digits of a
two_digits : (x a c h l q r : ℕ) → h * 2097152 + l ≡ a → q * c + r ≡ x * h → q * 2097152 * c + (r * 2097152 + x * l) ≡ x * a
two_digits x a c h l q r e f = omega (arith, ap (λ (y : ℕ). x * y) e)

-- the numbers on the way
abbrev pub upper : (x a : ℕ) → ℕ
upper x a = x * (a / 2097152)

abbrev pub lower : (x a b : ℕ) → ℕ
lower x a b = upper x a % b * 2097152 + x * (a % 2097152)

module _ {x a b : ℕ} (h : InRange x a b) where
  whole : upper x a / b * 2097152 * b + lower x a b ≡ x * a
  whole = two_digits x a b _ _ _ _ (div-add-mod' a 2097152) (div-add-mod' (upper x a) b)

  pub quotient_is : (e : End) → upper x a / b * 2097152 + divide e (lower x a b) b ≡ divide e (x * a) b
  quotient_is e = divide-out e (upper x a / b * 2097152) (lower x a b) b h.some ∙ ap (λ (n : ℕ). divide e n b) whole

  pub quotient_fits : (e : End) → divide e (x * a) b ≤ 2 ^ 64 - 1
  quotient_fits e = divide-le e (x * a) b (2 ^ 64 - 1) h.some (le_of_lt h.fits)
