-- How large the rounded numbers become on each of the three curves: what the code needs so that its products fit. The lower end of a
-- growth over i years is at most the exact power, which the forward rate bounds (Powers), and the upper end is that and the width more.
-- A factor is at most `factor_most`, a recursion that reads no file and is computed for each term.
-- Assumes nothing.
use Prim.Native.Nat.{ℕ, zero, suc, ◌+◌, ◌*◌, ◌^◌, ◌≤◌, ◌<◌}
use mathlib.Core.Path.{refl, ap}
use native.Mathlib.Omega.{arith}
use native.Mathlib.Nat.{mul-le-mul_left, mul-le-mul_right, le_of_mul-le-mul_right, pow-suc, le_dest, le_trans, add-suc, one-le-pow}
use native.Mathlib.Decide.{dec_le}
use Rattle.arith.specs.Rounding.{low, high, divide}
use Rattle.arith.proofs.Rounding.{divide-le}
use Rattle.model.specs.Constants.{unit}
use Rattle.method.specs.Curve.{Curve, P, weight, weights}
use Rattle.method.specs.Rounded as Rounded
use Rattle.method.specs.Rounded.{scaled, ufr_growth}
use Rattle.model.specs.Numbers.{every}
use Rattle.method.specs.inner.CurveWithin.{CurveWithin}
use Rattle.theory.proofs.general.Lists.{every-le}
use Rattle.theory.proofs.general.Powers.{backward}
use Rattle.theory.proofs.curve.Steps.{scaled-in, scaled-width}
use Rattle.theory.proofs.curve.Growth.{growth-suc, P_pos, N-pos}
use Rattle.theory.proofs.curve.Factor.{rounded-factor-first, rounded-factor-next, weighed-from-61}
use Rattle.theory.proofs.curve.Unadjusted.{years-bound}
use Rattle.theory.proofs.curve.Width.{factor_most, middle}

-- r + i p is at most (i + 1) q for each i up to j, if it is so at j
earlier : (p q r j i : ℕ) → i ≤ j → r ≤ q → r + j * p ≤ suc j * q → r + i * p ≤ suc i * q
earlier p q r j i h k l = go (dec_le p q)
  where
    go : Dec (p ≤ q) → r + i * p ≤ suc i * q
    go (yes m) = omega (arith, mul-le-mul_left i m)
    go (no m) =
        let m' : q ≤ p = omega arith in
        let (d, e) = le_dest m' in
        omega (arith, mul-le-mul_right d h, ap (λ z. j * z) e, ap (λ z. i * z) e)

-- r counts in hundredths
years-low : (p q r i : ℕ) → 0 < q → r + 100 * (i * p) ≤ 100 * (suc i * q) → scaled low p q i * r ≤ unit * (100 * q)
years-low p q r i hq h =
    let f : p ^ i * r ≤ 100 * (q ^ i * q) = rw (pow-suc q i) at (backward p q r i h) in
    le_of_mul-le-mul_right {m = scaled low p q i * r} {n = unit * (100 * q)} {k = q ^ i}
    (omega (arith, mul-le-mul_right r (scaled-in low p q i hq).is.le, mul-le-mul_left unit f)) (one-le-pow i q hq)

-- the growth over i years, i up to t - 1
pub years-most : (c : Curve) → CurveWithin c → (j i : ℕ) → suc j ≤ 60 → i ≤ j → scaled high (P c (suc j)) (P c j) i ≤ 12 * 10 ^ 11
years-most c f j i h k =
    let p : ℕ = P c (suc j) in
    let q : ℕ = P c j in
    let n : ℕ = c.N in
    let p1 : 98 * n ≤ 100 * p = f.least (suc j) h in
    let p2 : 100 * p ≤ 111 * n = f.most (suc j) h in
    let q1 : 98 * n ≤ 100 * q = f.least j (omega arith) in
    let hq : 0 < q = P_pos c f j (omega arith) in
    let m : 113 * n ≤ 100 * p + 100 * q = omega arith in
    let (r, e) = le_dest m in
    let near : 3 * j * p ≤ (3 * j + 2) * q = omega (arith, f.forward_most j h) in
    let at_i : r + i * (100 * p) ≤ suc i * (100 * q) = earlier (100 * p) (100 * q) r j i k (omega arith) (omega (arith, f.forward_most j h)) in
    let lo : scaled low p q i * r ≤ unit * (100 * q) = years-low p q r i hq (omega (arith, at_i)) in
    let big : 100 * (100 * q) ≤ 119 * r = omega arith in
    let fits : scaled low p q i * 100 ≤ 119 * unit = le_of_mul-le-mul_right {k = r} (omega (arith, lo, mul-le-mul_left unit big)) (omega (arith, big)) in
    omega (arith, fits, scaled-width p q j hq near i k)

pub growth-size : (c : Curve) → CurveWithin c → (j : ℕ) → suc j ≤ 60 → Rounded.growth c high (suc j) ≤ 1332 * 10 ^ 9
growth-size c f j h =
    let x : ℕ = scaled high (P c (suc j)) (P c j) j in
    rw (growth-suc c high j)
    (divide-le high (x * P c (suc j)) c.N (1332 * 10 ^ 9) (N-pos c f)
    (omega (arith, mul-le-mul_right (P c (suc j)) (years-most c f j j h (omega arith)), f.most (suc j) h)))

-- the factor, to 20 and at every term
firsts : (i : ℕ) → i < 21 → scaled high 100 98 i ≤ 22 * 10 ^ 11
unfolding every scaled divide
firsts i = every-le (λ i. scaled high 100 98 i) (λ _. 22 * 10 ^ 11) 21 i refl

middles : (j : ℕ) → j < 41 → factor_most j ≤ 22 * 10 ^ 11
unfolding every factor_most scaled divide weight weights
middles j = every-le factor_most (λ _. 22 * 10 ^ 11) 41 j refl

late-size : (c : Curve) → CurveWithin c → (i : ℕ) → Rounded.factor c high (60 + i) ≤ 22 * 10 ^ 11
late-size c f zero = le_trans (middle c f 40 (omega arith)).0 (middles 40 (omega arith))
late-size c f (suc i) =
    rw (add-suc 60 i, rounded-factor-next c high (60 + i) (omega arith), weighed-from-61 c low (suc (60 + i)) (omega arith))
    (divide-le high (Rounded.factor c high (60 + i) * unit) (ufr_growth c) (22 * 10 ^ 11) (omega arith) (omega (arith, late-size c f i)))

pub factor-size : (c : Curve) → CurveWithin c → (t : ℕ) → Rounded.factor c high t ≤ 22 * 10 ^ 11
factor-size c f t = go (dec_le t 20) (dec_le t 60)
  where
    first : (t : ℕ) → t ≤ 20 → Rounded.factor c high t ≤ 22 * 10 ^ 11
    first zero h = unfold Rounded.factor in (omega arith)
    first (suc j) h = rw (rounded-factor-first c high j h) (le_trans (years-bound c f (suc j) (suc j) (omega arith)) (firsts (suc j) (omega arith)))

    go : Dec (t ≤ 20) → Dec (t ≤ 60) → Rounded.factor c high t ≤ 22 * 10 ^ 11
    go (yes h) k = first t h
    go (no h) (yes k) =
        let l : 20 ≤ t = omega arith in
        let (j, e) = le_dest l in
        rw (← e) (le_trans (middle c f j (omega arith)).0 (middles j (omega arith)))
    go (no h) (no k) =
        let l : 60 ≤ t = omega arith in
        let (i, e) = le_dest l in
        rw (← e) (late-size c f i)
