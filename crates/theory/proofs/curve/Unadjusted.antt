-- The factor by the rule up to term 20, at every term to 60: the unadjusted growths 1 to t multiply out to (1 + R(t))^t, so it is 1 taken
-- t times × N ÷ P(t), and each time keeps the bracket. Its width is at most 4 × t × t units and it is at most 3.4: both are bounded by
-- recursions that read no file, with N ÷ P(t) at most 1 ÷ 0.98, and computed for each term.
-- Assumes nothing.
use Prim.Native.Nat.{ℕ, zero, suc, ◌+◌, ◌*◌, ◌^◌, ◌≤◌, ◌<◌}
use mathlib.Core.Path.{◌≡◌, refl, ap}
use native.Mathlib.Omega.{arith}
use native.Mathlib.Nat.{pow-zero, le_trans, mul-pos, one-le-pow}
use Rattle.arith.specs.Rounding.{End, low, high, divide}
use Rattle.model.specs.Constants.{unit}
use Rattle.method.specs.Fraction.{◌^ᶠ◌, ◌≈◌}
use Rattle.method.specs.Curve.{Curve, P}
use Rattle.method.specs.Exact as Exact
use Rattle.method.specs.Exact.{G, one_plus_r, product_of}
use Rattle.method.specs.Rounded as Rounded
use Rattle.method.specs.Rounded.{scaled}
use Rattle.model.specs.Numbers.{every}
use Rattle.method.specs.inner.CurveWithin.{CurveWithin}
use Rattle.theory.proofs.curve.Bracket.{Bounded}
use Rattle.theory.proofs.general.Lists.{every-le}
use Rattle.theory.proofs.curve.Steps.{same, scaled-in, scaled-ends, scaled-mono, width_after, scaled-wide}
use Rattle.theory.proofs.curve.Growth.{G-suc, G-pos, P_pos}

-- the product of the unadjusted growths is (1 + R(t))^t
pub product-unadjusted : (c : Curve) (t : ℕ) → product_of (G c) t ≈ one_plus_r c t ^ᶠ t
unfolding product_of
product-unadjusted c zero = rw (pow-zero (P c 0), pow-zero c.N)
product-unadjusted c (suc j) = rw (G-suc c j)
    (omega (arith, ap (λ m. m * (P c (suc j) ^ suc j * c.N ^ suc j)) (product-unadjusted c j)))

pub unadjusted-is : (c : Curve) (e : End) (t : ℕ) → Rounded.unadjusted c e t ≡ scaled e c.N (P c t) t
unfolding Rounded.unadjusted
unadjusted-is c e t = refl

-- ---- over closed numbers: the width after t years, and the largest upper end after i years
narrow : (t : ℕ) → t < 61 → width_after t ≤ 4 * t * t
unfolding every width_after divide
narrow t = every-le width_after (λ t. 4 * t * t) 61 t refl

small : (i : ℕ) → i < 61 → scaled high 100 98 i ≤ 34 * 10 ^ 11
unfolding every scaled divide
small i = every-le (λ i. scaled high 100 98 i) (λ _. 34 * 10 ^ 11) 61 i refl

-- ---- of a curve within the limits
module _ (c : Curve) (w : CurveWithin c) where
  product-some : (t : ℕ) → t ≤ 60 → 0 < (product_of (G c) t).num
  unfolding product_of
  product-some zero h = omega arith
  product-some (suc j) h = mul-pos (product-some j (omega arith)) (G-pos c w j h).0

  pub unadjusted-den : (t : ℕ) → t ≤ 60 → 0 < (Exact.unadjusted c t).den
  unfolding Exact.unadjusted
  unadjusted-den t h = omega (arith, product-some t h)

  pub unadjusted-in : (e : End) (t : ℕ) → t ≤ 60 → Bounded e unit (Rounded.unadjusted c e t) (Exact.unadjusted c t)
  unfolding Exact.unadjusted
  unadjusted-in e t h =
      let p : 0 < P c t = P_pos c w t h in
      rw (unadjusted-is c e t)
      (same (Exact.unadjusted c t) (one-le-pow t (P c t) p) (omega (arith, product-unadjusted c t)) (scaled-in e c.N (P c t) t p))

  -- N ÷ P(t), i times: what the code multiplies by on the way
  pub years-bound : (t i : ℕ) → t ≤ 60 → scaled high c.N (P c t) i ≤ scaled high 100 98 i
  years-bound t i h = scaled-mono high c.N (P c t) 100 98 i (P_pos c w t h) (omega arith) (omega (arith, w.least t h))

  pub years-size : (t i : ℕ) → t ≤ 60 → i ≤ 60 → scaled high c.N (P c t) i ≤ 34 * 10 ^ 11
  years-size t i h k = le_trans (years-bound t i h) (small i (omega arith))

  pub unadjusted-width : (t : ℕ) → t ≤ 60 → Rounded.unadjusted c high t ≤ Rounded.unadjusted c low t + 4 * t * t
  unadjusted-width t h =
      rw (unadjusted-is c high t, unadjusted-is c low t)
      (omega (arith, scaled-wide c.N (P c t) t (P_pos c w t h) (omega (arith, w.least t h)), narrow t (omega arith)))

  pub unadjusted-most : (e : End) (t : ℕ) → t ≤ 60 → Rounded.unadjusted c e t ≤ 34 * 10 ^ 11
  unadjusted-most high t h = rw (unadjusted-is c high t) (years-size t t h h)
  unadjusted-most low t h = rw (unadjusted-is c low t) (le_trans (scaled-ends c.N (P c t) t (P_pos c w t h)) (years-size t t h h))
