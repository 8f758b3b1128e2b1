-- How large the growths and the factors of a base curve are: each lies between two numbers that depend on the term alone. A growth is a
-- quotient of powers, which the mean rates and the forward rate bound (Powers), and refusals 5 and 6 limit these. The bounds of the
-- factors are the rounded working's own recursion with the bounds of the growths in it, because each step keeps the order
-- (`divide-order`).
-- Assumes nothing.
use Prim.Native.Nat.{ℕ, zero, suc, ◌+◌, ◌*◌, ◌-◌, ◌^◌, ◌≤◌, ◌<◌}
use mathlib.Core.Path.{◌≡◌, refl, ap}
use mathlib.Core.Bool.{cond}
use lib.Dec.{leb}
use native.Mathlib.Omega.{arith}
use native.Mathlib.Nat.{mul-le-mul, mul-le-mul_left, mul-le-mul_right, le_of_mul-le-mul_right, pow-suc, le_dest}
use native.Mathlib.Decide.{dec_le}
use Rattle.arith.specs.Rounding.{End, low, high, other, divide}
use Rattle.arith.proofs.Ends.{◌≤⟨◌⟩◌, ◌and◌, ◌times◌, from, reverse, equal, divide-order}
use Rattle.method.specs.Curve.{Curve, P, weight}
use Rattle.method.specs.Exact.{G}
use Rattle.model.specs.Constants.{unit}
use Rattle.method.specs.Rounded as Rounded
use Rattle.method.specs.Rounded.{scaled, ufr_growth}
use Rattle.method.specs.inner.CurveWithin.{BaseWithin}
use Rattle.theory.proofs.curve.Bracket.{Bounded}
use Rattle.theory.proofs.curve.Steps.{across, mixed, scaled-order}
use Rattle.theory.proofs.curve.Growth.{growth-in, growth-width, G-pos, G-suc, P_pos}
use Rattle.theory.proofs.general.Conditions.{cond-le, cond-gt}
use Rattle.theory.proofs.curve.Factor.{weighed-to-60, weighed-from-61, weighed-pos, rounded-factor-first, rounded-factor-next}
use Rattle.theory.proofs.general.Powers.{forward, backward}

-- ---- the growths of a base curve: from 0.98 to 1.15
base-least : (c : Curve) → BaseWithin c → (j : ℕ) → suc j ≤ 60 → Bounded low 100 98 (G c (suc j))
base-least c b j h =
    rw (G-suc c j, pow-suc c.N j)
    (omega (arith, mul-le-mul_right (c.N ^ j) (forward (P c (suc j)) (P c j) 98 c.N j (b.base_forward_least j h))))

-- p q is at most 1.15 N (p + q - 1.12 N), in hundredths
corner : (p q n : ℕ) → 99 * n ≤ p → p ≤ 110 * n → 99 * n ≤ q → q ≤ 110 * n → p * q + 115 * n * (112 * n) ≤ 115 * n * (p + q)
corner p q n h1 h2 h3 h4 =
    let k1 : p ≤ 115 * n = omega arith in
    let k2 : q ≤ 115 * n = omega arith in
    let (x, ex) = le_dest k1 in
    let (y, ey) = le_dest k2 in
    let hx : x ≤ 16 * n = omega arith in
    let hy : y ≤ 16 * n = omega arith in
    let e1 : (p + x) * (q + y) ≡ 115 * n * (115 * n) = rw (ex, ey) in
    let e2 : (p + x) * q ≡ 115 * n * q = rw ex in
    let e3 : p * (q + y) ≡ p * (115 * n) = rw ey in
    omega (arith, mul-le-mul hx hy, e1, e2, e3)

at_most : (p q n j : ℕ) → 0 < n → 99 * n ≤ 100 * p → 100 * p ≤ 110 * n → 99 * n ≤ 100 * q → 100 * q ≤ 110 * n
    → 100 * (suc j * p) ≤ 100 * (j * q) + 112 * n → 100 * (p ^ j * p) ≤ 115 * n * q ^ j
at_most p q n j hn h1 h2 h3 h4 h5 =
    let k : 112 * n ≤ 100 * p + 100 * q = omega arith in
    let (r, e) = le_dest k in
    let f1 : 100 * p * (100 * q) ≤ 115 * n * r = omega (arith, corner (100 * p) (100 * q) n h1 h2 h3 h4, ap (λ z. 115 * n * z) e) in
    let f2 : p ^ j * r ≤ 100 * (q ^ j * q) = rw (pow-suc q j) at (backward p q r j (omega arith)) in
    le_of_mul-le-mul_right {m = 100 * (p ^ j * p)} {n = 115 * n * q ^ j} {k = 100 * q}
    (omega (arith, mul-le-mul_left (p ^ j) f1, mul-le-mul_left (115 * n) f2)) (omega arith)

base-most : (c : Curve) → BaseWithin c → (j : ℕ) → suc j ≤ 60 → Bounded high 100 115 (G c (suc j))
base-most c b j h =
    rw (G-suc c j, pow-suc c.N j, pow-suc (P c (suc j)) j)
    (omega (
      arith,
      mul-le-mul_right (c.N ^ j)
          (at_most (P c (suc j)) (P c j) c.N j b.within.some (b.base_least (suc j) h) (b.base_most (suc j) h)
          (b.base_least j (omega arith)) (b.base_most j (omega arith)) (b.base_forward_most j h)),
    ))

-- ---- the rounded growth that a factor is divided by, between closed numbers: in thousandths of a unit, below and above
abbrev pub growth_bound : End → ℕ
growth_bound low = 979 * 10 ^ 6
growth_bound high = 1151 * 10 ^ 6

abbrev pub ufr_bound : End → ℕ
ufr_bound low = 10 ^ 9
ufr_bound high = 105 * 10 ^ 7

growth-bound : (c : Curve) → BaseWithin c → (e : End) (j : ℕ) → suc j ≤ 60 → 1000 * growth_bound e ≤⟨ e ⟩ Rounded.growth c e (suc j)
growth-bound c b low j h =
    omega (arith, growth-width c b.within j h, (across (G-pos c b.within j h).1 (growth-in c b.within high j h) (base-least c b j h)).le)
growth-bound c b high j h =
    omega (arith, growth-width c b.within j h, (across (G-pos c b.within j h).1 (growth-in c b.within low j h) (base-most c b j h)).le)

ufr-bound : (c : Curve) → BaseWithin c → (e : End) → 1000 * ufr_bound e ≤⟨ e ⟩ ufr_growth c
ufr-bound c b low = omega arith
ufr-bound c b high = omega (arith, b.within.ufr_most)

unfoldable pub weighed_bound : End → ℕ → ℕ
weighed_bound e t = cond (leb t 60) ((1000 - weight t) * growth_bound e + weight t * ufr_bound e) (1000 * ufr_bound e)

bound-to-60 : (e : End) (t : ℕ) → t ≤ 60 → weighed_bound e t ≡ (1000 - weight t) * growth_bound e + weight t * ufr_bound e
unfolding weighed_bound
bound-to-60 e t h = cond-le t 60 _ _ h

bound-from-61 : (e : End) (t : ℕ) → 60 < t → weighed_bound e t ≡ 1000 * ufr_bound e
unfolding weighed_bound
bound-from-61 e t h = cond-gt t 60 _ _ h

weighed-bound : (c : Curve) → BaseWithin c → (e : End) (j : ℕ) → weighed_bound e (suc j) ≤⟨ e ⟩ Rounded.weighed c e (suc j)
weighed-bound c b e j = go (dec_le (suc j) 60)
  where
    go : Dec (suc j ≤ 60) → weighed_bound e (suc j) ≤⟨ e ⟩ Rounded.weighed c e (suc j)
    go (yes h) =
        rw (bound-to-60 e (suc j) h, weighed-to-60 c e (suc j) h)
        (mixed (growth_bound e) (ufr_bound e) (1000 - weight (suc j)) (weight (suc j)) (growth-bound c b e j h) (ufr-bound c b e))
    go (no h) = rw (bound-from-61 e (suc j) (omega arith), weighed-from-61 c e (suc j) (omega arith)) (ufr-bound c b e)

weighed_bound-pos : (e : End) (t : ℕ) → 0 < weighed_bound e t
weighed_bound-pos e t = go (dec_le t 60)
  where
    some : (e : End) (k v : ℕ) → 1000 ≤ k + v → 0 < k * growth_bound e + v * ufr_bound e
    some low k v h = omega arith
    some high k v h = omega arith

    go : Dec (t ≤ 60) → 0 < weighed_bound e t
    go (yes h) = rw (bound-to-60 e t h) (some e (1000 - weight t) (weight t) (omega arith))
    go (no h) = rw (bound-from-61 e t (omega arith)) (omega (arith, some e 0 1000 (omega arith)))

-- ---- the factor between closed numbers
abbrev pub mean_bound : End → ℕ
mean_bound low = 110
mean_bound high = 99

mean-bound : (c : Curve) → BaseWithin c → (e : End) (t : ℕ) → t ≤ 60 → 100 * P c t ≤⟨ e ⟩ c.N * mean_bound e
mean-bound c b low t h = omega (arith, b.base_most t h)
mean-bound c b high t h = omega (arith, b.base_least t h)

mean_bound-pos : (e : End) → 0 < mean_bound e
mean_bound-pos low = omega arith
mean_bound-pos high = omega arith

unfoldable pub factor_bound : End → ℕ → ℕ
factor_bound e zero = unit
factor_bound e (suc t) =
    cond (leb (suc t) 20) (scaled e 100 (mean_bound e) (suc t)) (divide e (factor_bound e t * unit) (weighed_bound (other e) (suc t)))

pub factor-bound : (c : Curve) → BaseWithin c → (e : End) (t : ℕ) → factor_bound e t ≤⟨ e ⟩ Rounded.factor c e t
unfolding factor_bound
factor-bound c b e zero = unfold Rounded.factor in (equal e refl)
factor-bound c b e (suc j) = go (dec_le (suc j) 20) (factor-bound c b e j)
  where
    first : ℕ
    first = scaled e 100 (mean_bound e) (suc j)

    next : ℕ
    next = divide e (factor_bound e j * unit) (weighed_bound (other e) (suc j))

    go : Dec (suc j ≤ 20) → factor_bound e j ≤⟨ e ⟩ Rounded.factor c e j → cond (leb (suc j) 20) first next ≤⟨ e ⟩ Rounded.factor c e (suc j)
    go (yes h) ih =
        rw (rounded-factor-first c e j h, cond-le (suc j) 20 first next h)
        (scaled-order 100 c.N (suc j) (mean_bound-pos e) (P_pos c b.within (suc j) (omega arith)) (mean-bound c b e (suc j) (omega arith)))
    go (no h) ih =
        let g : ℕ = Rounded.weighed c (other e) (suc j) in
        rw (rounded-factor-next c e j (omega arith), cond-gt (suc j) 20 first next (omega arith))
        (divide-order (factor_bound e j * unit) (Rounded.factor c e j * unit) (weighed_bound-pos (other e) (suc j)) (weighed-pos c b.within (other e) j (omega arith))
        (from (ih times (unit * g) and reverse (weighed-bound c b (other e) j) times (Rounded.factor c e j * unit)) (omega arith)))
