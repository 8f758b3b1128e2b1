-- The bracket of factor t is at most 4 × t × t units wide. To 20 each of the t multiplications adds at most 3. From 21 to 60 a year
-- divides the width by the growth, and adds the growth's own width, which is at most linear in t (Growth), times the factor; such yearly
-- additions sum to a square. The recursion of these bounds (`width_most`) reads no file, so that it stays below 4 × t × t is computed for
-- each term. From 61 the growth is at least 1 and the same at both ends, so a year adds at most 1.
-- Assumes nothing.
use Prim.Native.Nat.{ℕ, zero, suc, ◌+◌, ◌*◌, ◌-◌, ◌^◌, ◌≤◌, ◌<◌}
use mathlib.Core.Path.{refl}
use native.Mathlib.Omega.{arith}
use native.Mathlib.Nat.{add-suc, le_dest, mul-le-mul, mul-le-mul_left, mul-le-mul_right, mul-lt-mul_of_pos_right, lt_of_mul-lt-mul_right}
use native.Mathlib.Decide.{dec_le}
use Rattle.arith.specs.Rounding.{low, high, divide}
use Rattle.arith.proofs.Rounding.{divide-floor, divide-ceiling, divide-le}
use Rattle.method.specs.Curve.{Curve, P, weight, weights}
use Rattle.model.specs.Constants.{unit}
use Rattle.method.specs.Rounded as Rounded
use Rattle.method.specs.Rounded.{scaled, ufr_growth}
use Rattle.model.specs.Numbers.{every}
use Rattle.method.specs.inner.CurveWithin.{CurveWithin}
use Rattle.theory.proofs.curve.Steps.{wider, scaled-width, scaled-mono, ends}
use Rattle.theory.proofs.curve.Growth.{growth-width, P_pos}
use Rattle.theory.proofs.curve.Factor.{least, weighed-least, weighed-to-60, weighed-from-61, weighed-in, growth-fraction-pos, rounded-factor-to-20, rounded-factor-first, rounded-factor-next}
use Rattle.theory.proofs.curve.Unadjusted.{unadjusted-width}
use Rattle.theory.proofs.general.Lists.{every-le}

-- One crosswise division, of a factor from lo to hi by a growth from gl to gh. A is at most the growth, H at least the factor, H' at
-- least the new factor; W and v are the widths of factor and growth. The new width is at most W ÷ A + H' × v ÷ A + 1; a and b are at
-- least the two quotients.
pub crosswise : (lo hi gl gh W v H A H' a b : ℕ) → 0 < A → A ≤ gl → gl ≤ gh → gh ≤ gl + v → hi ≤ lo + W → hi ≤ H
    → W * unit ≤ a * A → H * unit ≤ H' * A → H' * v ≤ b * A
    → (divide high (hi * unit) gl ≤ H') × (divide high (hi * unit) gl ≤ divide low (lo * unit) gh + (a + b + 1))
crosswise lo hi gl gh W v H A H' a b h_a k1 k2 k3 k4 k5 l1 l2 l3 =
    let p : ℕ = divide low (lo * unit) gh in
    let q : ℕ = divide high (hi * unit) gl in
    let hl : 0 < gl = omega arith in
    let hh : 0 < gh = omega arith in
    let f0 : hi * unit ≤ H' * gl = omega (arith, mul-le-mul_left H' k1) in
    let u : q * gl * gh < (hi * unit + gl) * gh = mul-lt-mul_of_pos_right (divide-ceiling (hi * unit) gl hl).1 hh in
    let f1 : hi * unit * gh ≤ hi * unit * (gl + v) = mul-le-mul_left (hi * unit) k3 in
    let f2 : hi * (unit * gl) ≤ (lo + W) * (unit * gl) = mul-le-mul_right (unit * gl) k4 in
    let f3 : lo * unit * gl ≤ (p * gh + gh) * gl = mul-le-mul_right gl (omega (arith, divide-floor (lo * unit) gh hh)) in
    let f4 : W * unit * gl ≤ a * gh * gl = mul-le-mul_right gl (omega (arith, mul-le-mul_left a k1, mul-le-mul_left a k2)) in
    let g1 : hi * unit * v ≤ H' * A * v = mul-le-mul_right v (omega arith) in
    let g2 : A * (H' * v) ≤ A * (b * A) = mul-le-mul_left A l3 in
    let g3 : b * (A * A) ≤ b * (gl * gh) = mul-le-mul_left b (mul-le-mul k1 (omega arith)) in
    let m : q < p + (a + b + 2) = lt_of_mul-lt-mul_right (gl * gh) (omega (arith, u, f1, f2, f3, f4, g1, g2, g3)) in
    (divide-le high (hi * unit) gl H' hl f0, omega arith)

-- Numbers that no file passes: the width of the weighed growth of term t; the upper factor of term 20 + j, and the width of its bracket.
unfoldable pub growth_most : ℕ → ℕ
growth_most t = divide high ((1000 - weight t) * (4 * t)) 1000 + 1

unfoldable pub factor_most : ℕ → ℕ
factor_most zero = scaled high 100 98 20
factor_most (suc j) = divide high (factor_most j * unit) (least (suc (20 + j)))

unfoldable pub width_most : ℕ → ℕ
width_most zero = 60
width_most (suc j) =
    divide high (width_most j * unit) (least (suc (20 + j)))
    + divide high (factor_most (suc j) * growth_most (suc (20 + j))) (least (suc (20 + j))) + 1

-- computed of each
narrow : (j : ℕ) → j < 41 → width_most j ≤ 4 * (20 + j) * (20 + j)
unfolding every width_most factor_most growth_most divide scaled weight weights
narrow j = every-le width_most (λ j. 4 * (20 + j) * (20 + j)) 41 j refl

pub weighed-width : (c : Curve) → CurveWithin c → (j : ℕ) → suc j ≤ 60 → Rounded.weighed c high (suc j) ≤ Rounded.weighed c low (suc j) + growth_most (suc j)
unfolding growth_most
weighed-width c f j h = rw (weighed-to-60 c high (suc j) h, weighed-to-60 c low (suc j) h)
    (mix (1000 - weight (suc j)) (weight (suc j)) (Rounded.growth c low (suc j)) (Rounded.growth c high (suc j)) c.ufr (omega (arith, growth-width c f j h)))
  where
    mix : (k l x y u : ℕ) → y ≤ x + 4 * suc j
        → divide high (k * y + l * (unit + u * 10 ^ 7)) 1000 ≤ divide low (k * x + l * (unit + u * 10 ^ 7)) 1000 + (divide high (k * (4 * suc j)) 1000 + 1)
    mix k l x y u m =
        omega (
          arith,
          mul-le-mul_left k m,
          divide-ceiling (k * y + l * (unit + u * 10 ^ 7)) 1000 (omega arith),
          divide-floor (k * x + l * (unit + u * 10 ^ 7)) 1000 (omega arith),
          divide-ceiling (k * (4 * suc j)) 1000 (omega arith),
        )

pub middle : (c : Curve) → CurveWithin c → (j : ℕ) → j ≤ 40
    → (Rounded.factor c high (20 + j) ≤ factor_most j) × (Rounded.factor c high (20 + j) ≤ Rounded.factor c low (20 + j) + width_most j)
unfolding factor_most width_most
middle c f zero h =
    rw (rounded-factor-first c high 19 (omega arith), rounded-factor-first c low 19 (omega arith)) (
      scaled-mono high c.N (P c 20) 100 98 20 hp (omega arith) (omega (arith, hl)),
      scaled-width c.N (P c 20) 20 hp (omega (arith, hl)) 20 (omega arith),
    )
  where
    hl : 98 * c.N ≤ 100 * P c 20
    hl = f.least 20 (omega arith)

    hp : 0 < P c 20
    hp = P_pos c f 20 (omega arith)
middle c f (suc j) h =
    let i : ℕ = 20 + j in
    let ih = middle c f j (omega arith) in
    let m : 20 < suc i = omega arith in
    let k : suc i ≤ 60 = omega arith in
    let A : ℕ = least (suc i) in
    let h_a : 0 < A = omega arith in
    rw (add-suc 20 j, rounded-factor-next c high i m, rounded-factor-next c low i m)
    (crosswise (Rounded.factor c low i) (Rounded.factor c high i) (Rounded.weighed c low (suc i)) (Rounded.weighed c high (suc i))
    (width_most j) (growth_most (suc i)) (factor_most j) A
    (divide high (factor_most j * unit) A)
    (divide high (width_most j * unit) A)
    (divide high (divide high (factor_most j * unit) A * growth_most (suc i)) A)
    h_a (weighed-least c f i k)
    (ends (growth-fraction-pos c f i).1 (weighed-in c f low i m) (weighed-in c f high i m))
    (weighed-width c f i k) ih.1 ih.0
    (divide-ceiling (width_most j * unit) A h_a).0 (divide-ceiling (factor_most j * unit) A h_a).0
    (divide-ceiling (divide high (factor_most j * unit) A * growth_most (suc i)) A h_a).0)

-- from 61 the width grows by at most one a year
late : (c : Curve) → CurveWithin c → (i : ℕ) → Rounded.factor c high (60 + i) ≤ Rounded.factor c low (60 + i) + (14400 + i)
late c f zero = omega (arith, (middle c f 40 (omega arith)).1, narrow 40 (omega arith))
late c f (suc i) =
    let m : 20 < suc (60 + i) = omega arith in
    let k : 60 < suc (60 + i) = omega arith in
    rw (add-suc 60 i, rounded-factor-next c high (60 + i) m, rounded-factor-next c low (60 + i) m, weighed-from-61 c low (suc (60 + i)) k, weighed-from-61 c high (suc (60 + i)) k)
    (omega (
      arith,
      wider (Rounded.factor c low (60 + i)) (Rounded.factor c high (60 + i)) unit (ufr_growth c) (14400 + i) (14400 + i) (omega arith) (late c f i)
          (mul-le-mul_left (14400 + i) (omega arith)),
    ))

pub factor-width : (c : Curve) → CurveWithin c → (t : ℕ) → Rounded.factor c high t ≤ Rounded.factor c low t + 4 * t * t
factor-width c f t = go (dec_le t 20) (dec_le t 60)
  where
    go : Dec (t ≤ 20) → Dec (t ≤ 60) → Rounded.factor c high t ≤ Rounded.factor c low t + 4 * t * t
    go (yes h) k = rw (rounded-factor-to-20 c high t h, rounded-factor-to-20 c low t h) (unadjusted-width c f t (omega arith))
    go (no h) (yes k) =
        let l : 20 ≤ t = omega arith in
        let (j, e) = le_dest l in
        rw (← e) (omega (arith, (middle c f j (omega arith)).1, narrow j (omega arith)))
    go (no h) (no k) =
        let l : 60 ≤ t = omega arith in
        let (i, e) = le_dest l in
        rw (← e) (omega (arith, late c f i))
