-- The adjusted factor of every term lies in its bracket. To 20 it is the unadjusted one (Unadjusted). From 21 it is the factor before it,
-- divided by the other end of the growth: a larger divisor gives a smaller quotient, so that keeps the bracket.
-- Assumes nothing.
use Prim.Native.Nat.{ℕ, zero, suc, ◌+◌, ◌*◌, ◌-◌, ◌^◌, ◌≤◌, ◌<◌}
use mathlib.Core.Path.{◌≡◌, refl, ◌∙◌}
use native.Mathlib.Omega.{arith}
use native.Mathlib.Nat.{mul-le-mul_left, mul-pos}
use native.Mathlib.Decide.{dec_le}
use Rattle.arith.specs.Rounding.{End, low, high, other, divide}
use Rattle.arith.proofs.Ends.{◌≤⟨◌⟩◌}
use Rattle.method.specs.Fraction.{◌÷ᶠ◌, ◌≈◌}
use Rattle.method.specs.Curve.{Curve, P, weight}
use Rattle.method.specs.Exact as Exact
use Rattle.method.specs.Exact.{G, one_plus_ufr, product_of}
use Rattle.model.specs.Constants.{unit}
use Rattle.method.specs.Rounded as Rounded
use Rattle.method.specs.Rounded.{scaled, ufr_growth}
use Rattle.method.specs.inner.CurveWithin.{CurveWithin}
use Rattle.theory.proofs.curve.Bracket.{Bounded}
use Rattle.theory.proofs.general.Conditions.{cond-le, cond-gt}
use Rattle.theory.proofs.curve.Steps.{same, cross, weigh, mixed, ends, across, exactly}
use Rattle.theory.proofs.curve.Growth.{growth-in, growth-width, growth-least, G-pos}
use Rattle.theory.proofs.curve.Unadjusted.{unadjusted-is, unadjusted-in}

-- which growth, by the term
pub growth-to-20 : (c : Curve) (t : ℕ) → t ≤ 20 → Exact.growth c t ≡ G c t
unfolding Exact.growth
growth-to-20 c t h = cond-le t 20 _ _ h

pub growth-to-60 : (c : Curve) (t : ℕ) → 20 < t → t ≤ 60 → Exact.growth c t ≡ Exact.weighed c t
unfolding Exact.growth
growth-to-60 c t h k = cond-gt t 20 _ _ h ∙ cond-le t 60 _ _ k

pub growth-from-61 : (c : Curve) (t : ℕ) → 60 < t → Exact.growth c t ≡ one_plus_ufr c
unfolding Exact.growth
growth-from-61 c t h = cond-gt t 20 _ _ (omega arith) ∙ cond-gt t 60 _ _ h

-- to 20 the factor is the unadjusted one, in both workings
product-to-20 : (c : Curve) (t : ℕ) → t ≤ 20 → Exact.product c t ≡ product_of (G c) t
unfolding product_of
product-to-20 c zero h = refl
product-to-20 c (suc j) h = rw (growth-to-20 c (suc j) h, product-to-20 c j (omega arith))

pub factor-to-20 : (c : Curve) (t : ℕ) → t ≤ 20 → Exact.factor c t ≡ Exact.unadjusted c t
unfolding Exact.factor Exact.unadjusted
factor-to-20 c t h = rw (product-to-20 c t h)

pub rounded-factor-to-20 : (c : Curve) (e : End) (t : ℕ) → t ≤ 20 → Rounded.factor c e t ≡ Rounded.unadjusted c e t
unfolding Rounded.factor Rounded.unadjusted scaled
rounded-factor-to-20 c e zero h = refl
rounded-factor-to-20 c e (suc j) h = cond-le (suc j) 20 _ _ h

-- the growth that a factor is divided by, from term 21
pub weighed-to-60 : (c : Curve) (e : End) (t : ℕ) → t ≤ 60 → Rounded.weighed c e t ≡ divide e ((1000 - weight t) * Rounded.growth c e t + weight t * ufr_growth c) 1000
unfolding Rounded.weighed
weighed-to-60 c e t h = cond-le t 60 _ _ h

pub weighed-from-61 : (c : Curve) (e : End) (t : ℕ) → 60 < t → Rounded.weighed c e t ≡ ufr_growth c
unfolding Rounded.weighed
weighed-from-61 c e t h = cond-gt t 60 _ _ h

ufr-in : (c : Curve) (e : End) → Bounded e unit (ufr_growth c) (one_plus_ufr c)
ufr-in c e = exactly (omega arith)

pub weighed-in : (c : Curve) → CurveWithin c → (e : End) (j : ℕ) → 20 < suc j → Bounded e unit (Rounded.weighed c e (suc j)) (Exact.growth c (suc j))
unfolding Exact.weighed
weighed-in c f e j h = go (dec_le (suc j) 60)
  where
    go : Dec (suc j ≤ 60) → Bounded e unit (Rounded.weighed c e (suc j)) (Exact.growth c (suc j))
    go (yes k) =
        rw (weighed-to-60 c e (suc j) k, growth-to-60 c (suc j) h k)
        (weigh (1000 - weight (suc j)) (weight (suc j)) (growth-in c f e j k) (ufr-in c e))
    go (no k) = rw (weighed-from-61 c e (suc j) (omega arith), growth-from-61 c (suc j) (omega arith)) (ufr-in c e)

-- the adjusted growth and the product are above zero
sum-pos : (k v a b u : ℕ) → 1000 ≤ k + v → 0 < a → 0 < b → 0 < k * a * (1000 * 100000) + v * (100000 + u) * (1000 * b)
sum-pos k v a b u h l m = omega (arith, mul-le-mul_left k l, mul-le-mul_left v m)

weighed-fraction-pos : (c : Curve) → CurveWithin c → (j : ℕ) → suc j ≤ 60 → (0 < (Exact.weighed c (suc j)).num) × (0 < (Exact.weighed c (suc j)).den)
unfolding Exact.weighed
weighed-fraction-pos c f j h =
    let p = G-pos c f j h in
    (sum-pos (1000 - weight (suc j)) (weight (suc j)) (G c (suc j)).num (G c (suc j)).den c.ufr (omega arith) p.0 p.1, omega (arith, p.1))

pub growth-fraction-pos : (c : Curve) → CurveWithin c → (j : ℕ) → (0 < (Exact.growth c (suc j)).num) × (0 < (Exact.growth c (suc j)).den)
growth-fraction-pos c f j = go (dec_le (suc j) 20) (dec_le (suc j) 60)
  where
    go : Dec (suc j ≤ 20) → Dec (suc j ≤ 60) → (0 < (Exact.growth c (suc j)).num) × (0 < (Exact.growth c (suc j)).den)
    go (yes h) k = rw (growth-to-20 c (suc j) h) (G-pos c f j (omega arith))
    go (no h) (yes k) = rw (growth-to-60 c (suc j) (omega arith) k) (weighed-fraction-pos c f j k)
    go (no h) (no k) = rw (growth-from-61 c (suc j) (omega arith)) (omega arith)

pub product-pos : (c : Curve) → CurveWithin c → (t : ℕ) → (0 < (Exact.product c t).num) × (0 < (Exact.product c t).den)
unfolding product_of
product-pos c f zero = (omega arith, omega arith)
product-pos c f (suc t) =
    (mul-pos (product-pos c f t).0 (growth-fraction-pos c f t).0, mul-pos (product-pos c f t).1 (growth-fraction-pos c f t).1)

pub factor-den : (c : Curve) → CurveWithin c → (t : ℕ) → 0 < (Exact.factor c t).den
unfolding Exact.factor
factor-den c f t = omega (arith, (product-pos c f t).0)

pub rounded-factor-first : (c : Curve) (e : End) (j : ℕ) → suc j ≤ 20 → Rounded.factor c e (suc j) ≡ scaled e c.N (P c (suc j)) (suc j)
rounded-factor-first c e j h = rounded-factor-to-20 c e (suc j) h ∙ unadjusted-is c e (suc j)

pub rounded-factor-next : (c : Curve) (e : End) (j : ℕ) → 20 < suc j → Rounded.factor c e (suc j) ≡ divide e (Rounded.factor c e j * unit) (Rounded.weighed c (other e) (suc j))
unfolding Rounded.factor
rounded-factor-next c e j h = cond-gt (suc j) 20 _ _ h

factor-next : (c : Curve) (t : ℕ) → Exact.factor c t ÷ᶠ Exact.growth c (suc t) ≈ Exact.factor c (suc t)
unfolding Exact.factor product_of
factor-next c t = omega arith

-- the lower end of a growth, and of a weighed growth from 21 on
growth-low : (c : Curve) → CurveWithin c → (j : ℕ) → suc j ≤ 60 → 1000 * (96 * 10 ^ 7) ≤⟨ low ⟩ Rounded.growth c low (suc j)
growth-low c f j h =
    omega (
      arith,
      growth-width c f j h,
      (across (G-pos c f j h).1 (growth-in c f high j h) (growth-least c f j h)).le,
    )

abbrev pub least : ℕ → ℕ
least t = (1000 - weight t) * (96 * 10 ^ 7) + weight t * 10 ^ 9

pub weighed-least : (c : Curve) → CurveWithin c → (j : ℕ) → suc j ≤ 60 → least (suc j) ≤ Rounded.weighed c low (suc j)
weighed-least c f j h =
    rw (weighed-to-60 c low (suc j) h)
    (mixed {v = ufr_growth c} (96 * 10 ^ 7) (10 ^ 9) (1000 - weight (suc j)) (weight (suc j)) (growth-low c f j h) (omega arith)).le

weighed-low-pos : (c : Curve) → CurveWithin c → (j : ℕ) → 0 < Rounded.weighed c low (suc j)
weighed-low-pos c f j = go (dec_le (suc j) 60)
  where
    go : Dec (suc j ≤ 60) → 0 < Rounded.weighed c low (suc j)
    go (yes h) = omega (arith, weighed-least c f j h)
    go (no h) = rw (weighed-from-61 c low (suc j) (omega arith)) (omega arith)

pub weighed-pos : (c : Curve) → CurveWithin c → (e : End) (j : ℕ) → 20 < suc j → 0 < Rounded.weighed c e (suc j)
weighed-pos c f low j h = weighed-low-pos c f j
weighed-pos c f high j h =
    omega (arith, weighed-low-pos c f j, ends (growth-fraction-pos c f j).1 (weighed-in c f low j h) (weighed-in c f high j h))

quotient-pos : (c : Curve) → CurveWithin c → (j : ℕ) → 0 < (Exact.factor c j ÷ᶠ Exact.growth c (suc j)).den
unfolding Exact.factor
quotient-pos c f j = mul-pos (mul-pos (omega arith) (product-pos c f j).0) (growth-fraction-pos c f j).0

pub factor-in : (c : Curve) → CurveWithin c → (e : End) (t : ℕ) → Bounded e unit (Rounded.factor c e t) (Exact.factor c t)
factor-in c f e zero = unfold Exact.factor product_of Rounded.factor in (exactly (omega arith))
factor-in c f e (suc j) = go (dec_le (suc j) 20) (factor-in c f e j)
  where
    go : Dec (suc j ≤ 20) → Bounded e unit (Rounded.factor c e j) (Exact.factor c j) → Bounded e unit (Rounded.factor c e (suc j)) (Exact.factor c (suc j))
    go (yes h) ih = rw (rounded-factor-to-20 c e (suc j) h, factor-to-20 c (suc j) h) (unadjusted-in c f e (suc j) (omega arith))
    go (no h) ih =
        rw (rounded-factor-next c e j (omega arith))
        (same (Exact.factor c (suc j)) (quotient-pos c f j) (factor-next c j)
        (cross e (omega arith)
        (weighed-pos c f (other e) j (omega arith)) ih (weighed-in c f (other e) j (omega arith))))

-- the ends of a factor are in order
pub factor-ends : (c : Curve) → CurveWithin c → (t : ℕ) → Rounded.factor c low t ≤ Rounded.factor c high t
factor-ends c f t = ends (factor-den c f t) (factor-in c f low t) (factor-in c f high t)
