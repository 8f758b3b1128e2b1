-- The growth of term j + 1: in its bracket, which is at most 4 × j + 1 units wide, and at least 0.97. The width of j times × P(j+1) ÷
-- P(j) is at most 3 × j (`scaled-width`), because the limit of the forward rates keeps the quotient at most 1 + 2 ÷ 3j; the last factor
-- P(j+1) ÷ N, at most 1.11, makes that at most 4 × j, and its two roundings add at most 1.
-- Assumes nothing.
use Prim.Native.Nat.{ℕ, suc, ◌+◌, ◌*◌, ◌^◌, ◌≤◌, ◌<◌}
use mathlib.Core.Path.{◌≡◌}
use native.Mathlib.Numerals.{sub-one}
use native.Mathlib.Omega.{arith}
use native.Mathlib.Nat.{mul-le-mul_left, mul-le-mul_right, pow-suc, mul-pos, one-le-pow}
use Rattle.arith.specs.Rounding.{End, low, high, divide}
use Rattle.method.specs.Fraction.{◌//◌, ◌*ᶠ◌, ◌÷ᶠ◌, ◌^ᶠ◌, ◌≈◌}
use Rattle.method.specs.Curve.{Curve, P}
use Rattle.method.specs.Exact.{G, one_plus_r}
use Rattle.model.specs.Constants.{unit}
use Rattle.method.specs.Rounded as Rounded
use Rattle.method.specs.Rounded.{scaled}
use Rattle.method.specs.inner.CurveWithin.{CurveWithin}
use Rattle.theory.proofs.curve.Bracket.{Bounded}
use Rattle.theory.proofs.general.Powers.{forward}
use Rattle.theory.proofs.curve.Steps.{step, same, scaled-in, scaled-width, wider}

pub G-suc : (c : Curve) (j : ℕ) → G c (suc j) ≡ (one_plus_r c (suc j) ^ᶠ suc j) ÷ᶠ (one_plus_r c j ^ᶠ j)
unfolding G
G-suc c j = rw (sub-one (suc j))

pub growth-suc : (c : Curve) (e : End) (j : ℕ)
    → Rounded.growth c e (suc j) ≡ divide e (scaled e (P c (suc j)) (P c j) j * P c (suc j)) c.N
unfolding Rounded.growth
growth-suc c e j = rw (sub-one (suc j))

-- (P ÷ P')^j × P ÷ N is G
telescope : (p q n j : ℕ) → ((p // q) ^ᶠ j) *ᶠ (p // n) ≈ ((p // n) ^ᶠ suc j) ÷ᶠ ((q // n) ^ᶠ j)
telescope p q n j = rw (pow-suc p j, pow-suc n j) (omega arith)

pub N-pos : (c : Curve) → CurveWithin c → 0 < c.N
N-pos c f = omega (arith, f.some)

pub P_pos : (c : Curve) → CurveWithin c → (t : ℕ) → t ≤ 60 → 0 < P c t
P_pos c f t h = omega (arith, f.some, f.least t h)

pub growth-in : (c : Curve) → CurveWithin c → (e : End) (j : ℕ) → suc j ≤ 60 → Bounded e unit (Rounded.growth c e (suc j)) (G c (suc j))
growth-in c f e j h =
    let p : ℕ = P c (suc j) in
    let q : ℕ = P c j in
    let hq : 0 < q = P_pos c f j (omega arith) in
    rw (growth-suc c e j, G-suc c j)
    (same ((one_plus_r c (suc j) ^ᶠ suc j) ÷ᶠ (one_plus_r c j ^ᶠ j)) (mul-pos (one-le-pow j q hq) (N-pos c f)) (telescope p q c.N j)
    (step p c.N (N-pos c f) (scaled-in e p q j hq)))

pub growth-width : (c : Curve) → CurveWithin c → (j : ℕ) → suc j ≤ 60 → Rounded.growth c high (suc j) ≤ Rounded.growth c low (suc j) + (4 * j + 1)
growth-width c f j h =
    let p : ℕ = P c (suc j) in
    let q : ℕ = P c j in
    let hq : 0 < q = P_pos c f j (omega arith) in
    let near : 3 * j * p ≤ (3 * j + 2) * q = omega (arith, f.forward_most j h, f.least (suc j) h, f.least j (omega arith)) in
    rw (growth-suc c high j, growth-suc c low j)
    (wider (scaled low p q j) (scaled high p q j) p c.N (3 * j) (4 * j) (N-pos c f)
    (scaled-width p q j hq near j (omega arith))
    (omega (arith, mul-le-mul_left j (f.most (suc j) h))))

pub growth-least : (c : Curve) → CurveWithin c → (j : ℕ) → suc j ≤ 60 → Bounded low 100 97 (G c (suc j))
growth-least c f j h =
    rw (G-suc c j, pow-suc c.N j)
    (omega (arith, mul-le-mul_right (c.N ^ j) (forward (P c (suc j)) (P c j) 97 c.N j (f.forward_least j h))))

pub G-pos : (c : Curve) → CurveWithin c → (j : ℕ) → suc j ≤ 60 → (0 < (G c (suc j)).num) × (0 < (G c (suc j)).den)
G-pos c f j h =
    rw (G-suc c j) (
      mul-pos (one-le-pow (suc j) (P c (suc j)) (P_pos c f (suc j) h)) (one-le-pow j c.N (N-pos c f)),
      mul-pos (one-le-pow (suc j) c.N (N-pos c f)) (one-le-pow j (P c j) (P_pos c f j (omega arith))),
    )
