-- The two tests of a zero rate: monotone in the step, small enough for 64 bits, and never both failed by neighbouring steps
-- (`one_passes`). One step lowers the power (100,000 ÷ v)^t, with v for 100,000 + z, by a share t ÷ (v + t) of itself or more
-- (`steps_apart`). If a step failed the lower test and the next one the upper, the power would fall by no more than the factor and two
-- results are wide, which is less (`sharp`): even the smallest factor of a base curve is large beside these widths.
-- Assumes nothing.
use Prim.Native.Nat.{ℕ, zero, suc, ◌+◌, ◌*◌, ◌^◌, ◌≤◌, ◌<◌}
use mathlib.Core.Path.{◌≡◌, refl}
use native.Mathlib.Omega.{arith}
use native.Mathlib.Nat.{mul-le-mul_left, mul-le-mul_right, le_of_mul-le-mul_right, le_trans, one-le-pow}
use Rattle.arith.specs.Rounding.{End, low, high, divide}
use Rattle.method.specs.Curve.{weight, weights}
use Rattle.model.specs.Constants.{unit, steps_per_one}
use Rattle.method.specs.Rounded.{scaled, tested}
use Rattle.model.specs.Numbers.{every}
use Rattle.theory.proofs.curve.Steps.{width_after, scaled-wide, scaled-in, scaled-mono, scaled-ends}
use Rattle.theory.proofs.general.Lists.{every-le}
use Rattle.theory.proofs.general.Powers.{bernoulli}
use Rattle.theory.proofs.curve.BaseCurve.{weighed_bound, factor_bound}

-- a larger step gives no larger result
pub tested-anti : (e : End) (t i j : ℕ) → i ≤ j → tested e t j ≤ tested e t i
tested-anti e t i j h = scaled-mono e steps_per_one (98000 + j) steps_per_one (98000 + i) t (omega arith) (omega arith) (omega arith)

-- no result passes 1.2 × 10^13, so that × 100,000 fits 64 bits
first_small : (t : ℕ) → t < 121 → tested high t 0 ≤ 12 * 10 ^ 12
unfolding every scaled divide
first_small t = every-le (λ t. tested high t 0) (λ _. 12 * 10 ^ 12) 121 t refl

high_small : (t i : ℕ) → t ≤ 120 → tested high t i ≤ 12 * 10 ^ 12
high_small t i h = le_trans (tested-anti high t 0 i (omega arith)) (first_small t (omega arith))

pub tested-small : (e : End) (t i : ℕ) → t ≤ 120 → tested e t i ≤ 12 * 10 ^ 12
tested-small high t i h = high_small t i h
tested-small low t i h = le_trans (scaled-ends steps_per_one (98000 + i) t (omega arith)) (high_small t i h)

-- ---- the ends of a result
pub tested-width : (t i : ℕ) → tested high t i ≤ tested low t i + width_after t
tested-width t i = scaled-wide steps_per_one (98000 + i) t (omega arith) (omega arith)

-- ---- one step further on, the power is smaller by t ÷ (v + t) of itself or more, where v is 100,000 + z
steps_apart : (t i : ℕ) → tested low t (i + 1) * (98000 + i + t) ≤ (98000 + i) * tested high t i
steps_apart t i =
    let v : ℕ = 98000 + i in
    let x : ℕ = tested high t i in
    let y : ℕ = scaled low steps_per_one (v + 1) t in
    let q : 98000 + (i + 1) ≡ v + 1 = omega arith in
    let f1 : y * (v + 1) ^ t ≤ unit * steps_per_one ^ t = (scaled-in low steps_per_one (v + 1) t (omega arith)).is.le in
    let f2 : unit * steps_per_one ^ t ≤ x * v ^ t = (scaled-in high steps_per_one v t (omega arith)).is.le in
    let f3 : y * (v + 1) ^ t ≤ x * v ^ t = le_trans f1 f2 in
    rw q
    (le_of_mul-le-mul_right {m = y * (v + t)} {n = v * x} {k = v ^ t}
    (omega (arith, mul-le-mul_left y (bernoulli v t), mul-le-mul_left v f3)) (one-le-pow t v (omega arith)))

-- ---- that is more than all the widths together, of every term from 1 to 120: even the smallest factor is large beside them
sharp : (s : ℕ) → s < 120
    → suc (120000 * (2 * width_after (suc s) + 4 * suc s * suc s) + width_after (suc s) * suc s) ≤ factor_bound low (suc s) * suc s
unfolding every factor_bound weighed_bound divide scaled weight weights width_after
sharp s =
    every-le (λ s. suc (120000 * (2 * width_after (suc s) + 4 * suc s * suc s) + width_after (suc s) * suc s)) (λ s. factor_bound low (suc s) * suc s) 120 s refl

sharp-at : (t : ℕ) → 1 ≤ t → t ≤ 120 → 120000 * (2 * width_after t + 4 * t * t) + width_after t * t < factor_bound low t * t
sharp-at zero h k = omega arith
sharp-at (suc s) h k = sharp s (omega arith)

-- So no step fails the lower test whose next one fails the upper test, where l and u are the ends of a factor.
pub one_passes : (t i l u : ℕ) → 1 ≤ t → t ≤ 120 → i ≤ 22000 → factor_bound low t ≤ l → u ≤ l + 4 * t * t
    → tested low t i < u → l < tested high t (i + 1) → ⊥
one_passes t i l u t1 t2 hi least wide lower-fails upper-fails =
    let v : ℕ = 98000 + i in
    let w : ℕ = 2 * width_after t + 4 * t * t in
    let x : ℕ = tested high t i in
    let y : ℕ = tested low t (i + 1) in
    let near : x ≤ y + w = omega (arith, tested-width t i, tested-width t (i + 1)) in
    let large : factor_bound low t * t ≤ (y + width_after t) * t = mul-le-mul_right t (omega (arith, tested-width t (i + 1))) in
    let most : v * w ≤ 120000 * w = mul-le-mul_right w (omega arith) in
    let apart : y * (v + t) ≤ v * x = steps_apart t i in
    omega (arith, mul-le-mul_left v near, most, large, apart, sharp-at t t1 t2)
