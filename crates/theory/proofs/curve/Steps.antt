-- One step of the rounded working, at either end: it keeps the bracket, and it widens it by little. The bracket is kept because a step
-- rounds to its own end: the result is `≤⟨ e ⟩` the step done exactly on a number that is itself `≤⟨ e ⟩` the exact one. j times × a ÷ b
-- gives a width of at most 3 × j (`scaled-width`), where a ÷ b is at most 1 + 2 ÷ 3k and j at most k: one time more adds at most 2 to
-- the width 3 × j, and its two roundings, of less than 1 each, add at most 1.
-- Assumes nothing.
use Prim.Native.Nat.{ℕ, zero, suc, ◌+◌, ◌*◌, ◌-◌, ◌≤◌, ◌<◌}
use mathlib.Core.Path.{◌≡◌, refl, ap}
use native.Mathlib.Omega.{arith}
use native.Mathlib.Nat.{mul-le-mul_left, mul-le-mul_right, le_of_mul-le-mul_right, lt_of_mul-lt-mul_right, pow-zero, pow-suc, le_dest, mul-sub, mul_comm, one-le-pow}
use native.Mathlib.Decide.{dec_le}
use Rattle.arith.specs.Rounding.{End, low, high, other, divide}
use Rattle.arith.proofs.Rounding.{divide-floor, divide-ceiling}
use Rattle.arith.proofs.Ends.{◌≤⟨◌⟩◌, ◌and◌, ◌less◌, ◌times◌, from, cancel, reverse, equal, divide-end, divide-best, divide-order}
use Rattle.method.specs.Fraction.{Fraction, ◌//◌, ◌+ᶠ◌, ◌∸ᶠ◌, ◌*ᶠ◌, ◌÷ᶠ◌, ◌^ᶠ◌, ◌≈◌}
use Rattle.model.specs.Constants.{unit}
use Rattle.method.specs.Rounded.{scaled}
use Rattle.theory.proofs.curve.Bracket.{Bounded}

-- × a ÷ b keeps the bracket
pub step : {e : End} {u n : ℕ} {x : Fraction} (a b : ℕ) → 0 < b → Bounded e u n x → Bounded e u (divide e (n * a) b) (x *ᶠ (a // b))
step {e} {n = n} {x = x} a b h k = record { is = from (divide-end e (n * a) b h times x.den and k.is times a) (omega arith) }

-- crosswise division keeps the bracket
pub cross : (e : End) {u n g : ℕ} {x y : Fraction} → 0 < u → 0 < g → Bounded e u n x → Bounded (other e) u g y → Bounded e u (divide e (n * u) g) (x ÷ᶠ y)
cross e {u} {n} {g} {x} {y} hu h k l =
    let q : ℕ = divide e (n * u) g in
    record {
      is = cancel hu
          (from (divide-end e (n * u) g h times (x.den * y.den) and k.is times (u * y.den) and reverse l.is times (q * x.den)) (omega arith));
    }

-- the bracket of a number is the bracket of the same number
pub same : {e : End} {u n : ℕ} {x : Fraction} (y : Fraction) → 0 < x.den → x ≈ y → Bounded e u n x → Bounded e u n y
same {u = u} y h q k = record { is = cancel h (from (k.is times y.den) (omega (arith, ap (λ m. u * m) q))) }

-- sums, differences, products, whole multiples
pub sum : {e : End} {u n m : ℕ} {x y : Fraction} → Bounded e u n x → Bounded e u m y → Bounded e u (n + m) (x +ᶠ y)
sum {x = x} {y = y} h k = record { is = from (h.is times y.den and k.is times x.den) (omega arith) }

pub minus : (e : End) {u n m : ℕ} {x y : Fraction} → Bounded e u n x → Bounded (other e) u m y → Bounded e u (n - m) (x ∸ᶠ y)
minus e {u} {n} {m} {x} {y} h l =
    record {
      is = from (h.is times y.den less l.is times x.den)
          (omega (
            arith,
            mul-sub u (x.num * y.den) (y.num * x.den),
            mul-sub (x.den * y.den) n m,
            mul_comm (n - m) (x.den * y.den),
          ));
    }

pub prod : {e : End} {u v n m : ℕ} {x y : Fraction} → Bounded e u n x → Bounded e v m y → Bounded e (u * v) (n * m) (x *ᶠ y)
prod {u = u} {m = m} {x = x} {y = y} h k = record { is = from (h.is times (m * y.den) and k.is times (u * x.num)) (omega arith) }

pub multiple : {e : End} {u n : ℕ} {x : Fraction} (c : ℕ) → Bounded e u n x → Bounded e u (c * n) ((c // 1) *ᶠ x)
multiple c h = record { is = from (h.is times c) (omega arith) }

-- weighing keeps the bracket
pub weigh : {e : End} {u g v : ℕ} {x y : Fraction} (k w : ℕ) → Bounded e u g x → Bounded e u v y
    → Bounded e u (divide e (k * g + w * v) 1000) ((k // 1000) *ᶠ x +ᶠ (w // 1000) *ᶠ y)
weigh {e} {g = g} {v} {x} {y} k w h l =
    record {
      is = from
          (divide-end e (k * g + w * v) 1000 (omega arith) times (1000 * (x.den * y.den)) and h.is times (1000 * (k * y.den)) and l.is times (1000 * (w * x.den)))
          (omega arith);
    }

-- weighing numbers that are bounded in thousandths
pub mixed : {e : End} {g v : ℕ} (a b k w : ℕ) → 1000 * a ≤⟨ e ⟩ g → 1000 * b ≤⟨ e ⟩ v → k * a + w * b ≤⟨ e ⟩ divide e (k * g + w * v) 1000
mixed a b k w h l = divide-best (omega arith) (from (h times k and l times w) (omega arith))

-- the lower end is at most the upper
pub ends : {u n m : ℕ} {x : Fraction} → 0 < x.den → Bounded low u n x → Bounded high u m x → n ≤ m
ends h k l = le_of_mul-le-mul_right (omega (arith, k.is.le, l.is.le)) h

-- the same of numbers that count in different units, from either end
pub across : {e : End} {u n v m : ℕ} {x : Fraction} → 0 < x.den → Bounded e u n x → Bounded (other e) v m x → n * v ≤⟨ e ⟩ m * u
across {u = u} {v = v} h k l = cancel h (from (k.is times v and reverse l.is times u) (omega arith))

-- a number that counts the fraction exactly is both ends of its bracket
pub exactly : {e : End} {u n : ℕ} {x : Fraction} → n * x.den ≡ u * x.num → Bounded e u n x
exactly {e} q = record { is = equal e q }

-- j times × a ÷ b, from 10^12
pub scaled-in : (e : End) (a b j : ℕ) → 0 < b → Bounded e unit (scaled e a b j) ((a // b) ^ᶠ j)
unfolding scaled
scaled-in e a b zero h = rw (pow-zero a, pow-zero b) (exactly (omega arith))
scaled-in e a b (suc j) h = rw (pow-suc a j, pow-suc b j) (step a b h (scaled-in e a b j h))

pub scaled-ends : (a b j : ℕ) → 0 < b → scaled low a b j ≤ scaled high a b j
scaled-ends a b j h = ends (one-le-pow j b h) (scaled-in low a b j h) (scaled-in high a b j h)

-- j times × a smaller quotient is no larger
pub scaled-order : {e : End} {b q : ℕ} (a p j : ℕ) → 0 < b → 0 < q → a * q ≤⟨ e ⟩ p * b → scaled e a b j ≤⟨ e ⟩ scaled e p q j
unfolding scaled
scaled-order {e} a p zero hb hq h = equal e refl
scaled-order {e} {b} {q} a p (suc j) hb hq h =
    divide-order (scaled e a b j * a) (scaled e p q j * p) hb hq (from (scaled-order a p j hb hq h times (a * q) and h times scaled e p q j) (omega arith))

pub scaled-mono : (e : End) (a b p q j : ℕ) → 0 < b → 0 < q → a * q ≤ p * b → scaled e a b j ≤ scaled e p q j
scaled-mono low a b p q j hb hq h = (scaled-order {e = low} a p j hb hq record { le = h }).le
scaled-mono high a b p q j hb hq h = (scaled-order {e = high} p a j hq hb record { le = h }).le

-- the widths: × a ÷ b takes a width w to at most v + 1, where w × a is at most v × b
pub wider : (lo hi a b w v : ℕ) → 0 < b → hi ≤ lo + w → w * a ≤ v * b → divide high (hi * a) b ≤ divide low (lo * a) b + (v + 1)
wider lo hi a b w v h k l =
    let p : ℕ = divide low (lo * a) b in
    let q : ℕ = divide high (hi * a) b in
    let m : q < p + (v + 2) = lt_of_mul-lt-mul_right b (omega (arith, divide-floor (lo * a) b h, divide-ceiling (hi * a) b h, mul-le-mul_right a k)) in
    omega arith

ratio : (a b k j : ℕ) → j ≤ k → 3 * k * a ≤ (3 * k + 2) * b → 3 * j * a ≤ (3 * j + 2) * b
ratio a b k j h l = go (dec_le a b)
  where
    go : Dec (a ≤ b) → 3 * j * a ≤ (3 * j + 2) * b
    go (yes m) = omega (arith, mul-le-mul_left (3 * j) m)
    go (no m) =
        let p : b ≤ a = omega arith in
        let (d, e) = le_dest p in
        omega (arith, mul-le-mul_right d h, ap (λ z. k * z) e, ap (λ z. j * z) e)

-- j times × a ÷ b: at most 3 units for each time, where a ÷ b is at most 1 + 2 ÷ 3k and j at most k
pub scaled-width : (a b k : ℕ) → 0 < b → 3 * k * a ≤ (3 * k + 2) * b → (j : ℕ) → j ≤ k → scaled high a b j ≤ scaled low a b j + 3 * j
unfolding scaled
scaled-width a b k h l zero m = omega arith
scaled-width a b k h l (suc j) m =
    let ih : scaled high a b j ≤ scaled low a b j + 3 * j = scaled-width a b k h l j (omega arith) in
    omega (arith, wider (scaled low a b j) (scaled high a b j) a b (3 * j) (3 * j + 2) h ih (ratio a b k j (omega arith) l))

-- The same with a ÷ b up to 1 ÷ 0.98, for any number of times: each takes a width w to at most w × 100 ÷ 98, and its two roundings add at
-- most one. The recursion reads no file, so that its numbers can be computed.
unfoldable pub width_after : ℕ → ℕ
width_after zero = 0
width_after (suc j) = divide high (width_after j * 100) 98 + 1

pub scaled-wide : (a b j : ℕ) → 0 < b → 98 * a ≤ 100 * b → scaled high a b j ≤ scaled low a b j + width_after j
unfolding scaled width_after
scaled-wide a b zero h l = omega arith
scaled-wide a b (suc j) h l =
    let w : ℕ = width_after j in
    let v : ℕ = divide high (w * 100) 98 in
    let k : w * 100 ≤ v * 98 = (divide-ceiling (w * 100) 98 (omega arith)).0 in
    let r : w * a ≤ v * b = le_of_mul-le-mul_right {k = 98} (omega (arith, mul-le-mul_left w l, mul-le-mul_right b k)) (omega arith) in
    wider (scaled low a b j) (scaled high a b j) a b w v h (scaled-wide a b j h l) r
