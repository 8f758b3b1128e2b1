-- A number that holds a root, plain + factor × the root of under, beside fractions: what its comparisons by squaring twice follow from, and
-- what follows from them. Where x is p - plain, or 0, `p ≤ʳ r` says x² ≤ (factor × root)², and so x ≤ factor × root; the other way round
-- `r ʳ≤ p` says factor × root ≤ x, where p is not below plain.
-- Assumes nothing.
use Prim.Native.Nat.{ℕ, ◌+◌, ◌*◌, ◌-◌, ◌≤◌, ◌<◌}
use mathlib.Core.Path.{◌≡◌, refl, ap}
use mathlib.Core.Bool.{Bool, true, false, ◌&&◌}
use native.Mathlib.Omega.{arith}
use native.Mathlib.Nat.{mul-le-mul, mul-le-mul_left, mul-le-mul_right, le_of_mul-le-mul_left, le_of_mul-le-mul_right, mul-lt-mul_of_pos_right, mul-pos, mul-sub, mul_comm}
use borrow.Author.Tests.{le-leb, leb-true}
use Rattle.std.proofs.lemmas.Bool.{and_from}
use Rattle.arith.specs.Rounding.{End, low, high}
use Rattle.arith.proofs.Ends.{◌≤⟨◌⟩◌}
use Rattle.arith.proofs.Root.{unsquare}
use Rattle.method.specs.Fraction.{Fraction, ◌+ᶠ◌, ◌∸ᶠ◌, ◌*ᶠ◌, square, whole, ◌≈◌, ◌≤ᶠ◌, at_most, Rooted, rooted_part², RealRooted, ◌≤ʳ◌, ◌ʳ≤◌, rooted_at_most}
use Rattle.method.specs.Containment.{RootedOrdered}
use Rattle.theory.proofs.curve.Bracket.{Bounded}

-- ---- a number that counts it: p counts the plain part, y² the square of the other in units of 1 over 1,000², and n × 1,000 is on their side

low_part : (m k d y x : ℕ) → 1000 * x ≤ y * d → y * y * k ≤ 1000 * 1000 * m → x * x * k ≤ m * (1 * d * (1 * d))
low_part m k d y x f h =
    le_of_mul-le-mul_left {k = 1000 * 1000} (omega (arith, mul-le-mul_right k (mul-le-mul f f), mul-le-mul_right (d * d) h)) (omega arith)

high_part : (m k d y x : ℕ) → y * d ≤ 1000 * x → 1000 * 1000 * m ≤ y * y * k → m * (1 * d * (1 * d)) ≤ x * x * k
high_part m k d y x f h =
    le_of_mul-le-mul_left {k = 1000 * 1000} (omega (arith, mul-le-mul_right k (mul-le-mul f f), mul-le-mul_right (d * d) h)) (omega arith)

pub rooted-in : (e : End) (r : Rooted) (p y n : ℕ) → Bounded e 1 p r.plain → Bounded e (1000 * 1000) (y * y) (rooted_part² r)
    → n * 1000 ≤⟨ e ⟩ 1000 * p + y → RootedOrdered e n r
rooted-in low r p y n hp hy h =
    let N : ℕ = r.plain.num in
    let d : ℕ = r.plain.den in
    let f : 1000 * (n * d - N * 1) ≤ y * d = omega (arith, mul-le-mul_right d h.le, hp.is.le) in
    low_part (rooted_part² r).num (rooted_part² r).den d y (n * d - N * 1) f hy.is.le
rooted-in high r p y n hp hy h =
    let N : ℕ = r.plain.num in
    let d : ℕ = r.plain.den in
    let least : N * 1 ≤ n * d = omega (arith, mul-le-mul_right d h.le, hp.is.le) in
    let f : y * d ≤ 1000 * (n * d - N * 1) = omega (arith, mul-le-mul_right d h.le, hp.is.le) in
    (least, high_part (rooted_part² r).num (rooted_part² r).den d y (n * d - N * 1) f hy.is.le)

-- ---- what it is to be a number, and the test

pub rooted-real : (r : Rooted) → RealRooted r → 0 < (rooted_part² r).den
rooted-real r (p, f, u) = mul-pos (mul-pos f f) u

pub rooted-within : (r : Rooted) (q : Fraction) → r ʳ≤ q → rooted_at_most r q ≡ true
rooted-within r q (p, l) = and_from (at_most r.plain q) (at_most (rooted_part² r) (square (q ∸ᶠ r.plain))) (le-leb _ _ p) (le-leb _ _ l)

pub rooted-beyond : (r : Rooted) (q : Fraction) → (r ʳ≤ q → ⊥) → rooted_at_most r q ≡ false
rooted-beyond r q never = go (at_most r.plain q) (at_most (rooted_part² r) (square (q ∸ᶠ r.plain))) refl refl
  where
    go : (a b : Bool) → at_most r.plain q ≡ a → at_most (rooted_part² r) (square (q ∸ᶠ r.plain)) ≡ b → (a && b) ≡ false
    go true true p l = absurd (never (leb-true _ _ p, leb-true _ _ l))
    go true false p l = refl
    go false b p l = refl

-- ---- beside a whole number p: what is at most p, or at least p, is on the same side of r

module _ (r : Rooted) (q : Fraction) (p : ℕ) where
  abbrev n : ℕ
  n = r.plain.num

  abbrev d : ℕ
  d = r.plain.den

  abbrev m : ℕ
  m = (rooted_part² r).num

  abbrev k : ℕ
  k = (rooted_part² r).den

  abbrev a : ℕ
  a = q.num

  abbrev b : ℕ
  b = q.den

  -- what q exceeds the plain part by, and b times what p exceeds it by
  less-over : a ≤ p * b → a * d - n * b ≤ b * (p * d - n * 1)
  less-over h = omega (arith, mul-le-mul_right d h, mul-sub b (p * d) (n * 1))

  more-over : p * b ≤ a → n * 1 ≤ p * d → b * (p * d - n * 1) ≤ a * d - n * b
  more-over h l = omega (arith, mul-le-mul_right d h, mul-sub b (p * d) (n * 1))

  scale-low : (x y : ℕ) → x ≤ b * y → y * y * k ≤ m * (1 * d * (1 * d)) → x * x * k ≤ m * (b * d * (b * d))
  scale-low x y h l = omega (arith, mul-le-mul_right k (mul-le-mul h h), mul-le-mul_left (b * b) l)

  scale-high : (x y : ℕ) → b * y ≤ x → m * (1 * d * (1 * d)) ≤ y * y * k → m * (b * d * (b * d)) ≤ x * x * k
  scale-high x y h l = omega (arith, mul-le-mul_right k (mul-le-mul h h), mul-le-mul_left (b * b) l)

  pub at-most-below : q ≤ᶠ whole p → whole p ≤ʳ r → q ≤ʳ r
  at-most-below h l = scale-low (a * d - n * b) (p * d - n * 1) (less-over (omega (arith, h))) l

  pub at-most-above : r ʳ≤ whole p → whole p ≤ᶠ q → r ʳ≤ q
  at-most-above (l, t) h =
      let o : p * b ≤ a = omega (arith, h) in
      (omega (arith, mul-le-mul_right b l, mul-le-mul_right d o), scale-high (a * d - n * b) (p * d - n * 1) (more-over o l) t)

  -- above q, which r is not at most then: a × d - n × b is less than b times p × d - n, and the roots cannot lie between
  pub not-between : 0 < d → 0 < k → a < p * b → whole p ≤ʳ r → r ʳ≤ q → ⊥
  not-between hd hk h l (o, t) =
      let x : ℕ = a * d - n * b in
      let y : ℕ = p * d - n * 1 in
      let squares : b * y * (b * y) ≤ x * x =
      le_of_mul-le-mul_right {m = b * y * (b * y)} {n = x * x} {k = k} (omega (arith, mul-le-mul_left (b * b) l, t)) hk in
      let over : b * y ≤ x = unsquare (b * y) x squares in
      omega (arith, over, o, mul-lt-mul_of_pos_right h hd, mul-sub b (p * d) (n * 1))

-- ---- where under is the square of a fraction y, the comparisons say what those of plain + factor × y say. Nothing else rests on this. It is
-- here so that a comparison that said less, or more, would not give it.

module _ (s t v w : ℕ) (is : s * (w * w) ≡ v * v * t) (ht : 0 < t) (hw : 0 < w) (x g f c : ℕ) where
  root-less : x * x * (g * g * t) ≤ f * f * s * (c * c) → x * (g * w) ≤ f * v * c
  root-less h =
      unsquare (x * (g * w)) (f * v * c)
      (le_of_mul-le-mul_right {k = t} (omega (arith, mul-le-mul_right (w * w) h, ap (λ (z : ℕ). f * f * (c * c) * z) is)) ht)

  less-root : x * (g * w) ≤ f * v * c → x * x * (g * g * t) ≤ f * f * s * (c * c)
  less-root h =
      le_of_mul-le-mul_right {k = w * w}
      (omega (arith, mul-le-mul_right t (mul-le-mul h h), ap (λ (z : ℕ). f * f * (c * c) * z) is)) (mul-pos hw hw)

  root-more : f * f * s * (c * c) ≤ x * x * (g * g * t) → f * v * c ≤ x * (g * w)
  root-more h =
      unsquare (f * v * c) (x * (g * w))
      (le_of_mul-le-mul_right {k = t} (omega (arith, mul-le-mul_right (w * w) h, ap (λ (z : ℕ). f * f * (c * c) * z) is)) ht)

  more-root : f * v * c ≤ x * (g * w) → f * f * s * (c * c) ≤ x * x * (g * g * t)
  more-root h =
      le_of_mul-le-mul_right {k = w * w}
      (omega (arith, mul-le-mul_right t (mul-le-mul h h), ap (λ (z : ℕ). f * f * (c * c) * z) is)) (mul-pos hw hw)

module _ (r : Rooted) (y : Fraction) (real : RealRooted r) (hy : 0 < y.den) (is : r.under ≈ square y) (q : Fraction) where
  abbrev plain_sum : Fraction
  plain_sum = r.plain +ᶠ r.factor *ᶠ y

  abbrev over : ℕ
  over = q.num * r.plain.den - r.plain.num * q.den

  abbrev gw : ℕ
  gw = r.factor.den * y.den

  taken : over * gw ≡ q.num * r.plain.den * gw - r.plain.num * q.den * gw
  taken = omega (arith, mul-sub gw (q.num * r.plain.den) (r.plain.num * q.den), mul_comm over gw)

  pub below-sum : q ≤ʳ r → q ≤ᶠ plain_sum
  below-sum h =
      omega (
        arith,
        root-less r.under.num r.under.den y.num y.den is real.2 hy over r.factor.den r.factor.num (q.den * r.plain.den) h,
        taken,
      )

  pub sum_below : q ≤ᶠ plain_sum → q ≤ʳ r
  sum_below h =
      less-root r.under.num r.under.den y.num y.den is real.2 hy over r.factor.den r.factor.num (q.den * r.plain.den)
      (omega (arith, h, taken))

  pub above-sum : r ʳ≤ q → plain_sum ≤ᶠ q
  above-sum (o, h) =
      omega (
        arith,
        root-more r.under.num r.under.den y.num y.den is real.2 hy over r.factor.den r.factor.num (q.den * r.plain.den) h,
        mul-le-mul_right gw o,
        taken,
      )

  pub sum-above : plain_sum ≤ᶠ q → r ʳ≤ q
  sum-above h = (
    le_of_mul-le-mul_right {k = gw} (omega (arith, h)) (mul-pos real.1 hy),
    more-root r.under.num r.under.den y.num y.den is real.2 hy over r.factor.den r.factor.num (q.den * r.plain.den)
        (omega (arith, h, taken)),
  )
