-- Bounds of a power by squaring: they enclose it, and no product of two of them passes 64 bits. Assumes nothing.
use Prim.Native.Nat.{ℕ, suc, ◌+◌, ◌*◌, ◌/◌, ◌%◌, ◌-◌, ◌^◌, ◌≤◌, ◌<◌}
use mathlib.Core.Path.{◌≡◌, refl, sym, ap, subst, ◌∙◌}
use native.Mathlib.Omega.{arith}
use native.Mathlib.Nat.{le_trans, mul-le-mul, mul-le-mul_left, pow-zero, pow-suc, div-div-eq-div-mul, div-le_self, one-le-pow}
use lib.Pow.{pow-add}
use Rattle.arith.specs.inner.Range.{Small, BothIn, Pairwise}
use Rattle.arith.specs.Rounding.{End, low, high, divide}
use Rattle.arith.proofs.Ends.{◌and◌, ◌times◌, from, cancel, divide-end}
use Rattle.arith.proofs.Rounding.{divide-floor, divide-le}
use Rattle.arith.specs.Brackets.{bracket, end_of}
use Rattle.model.specs.Constants.{unit, steps_per_one}
use Rattle.method.specs.Fraction.{Fraction, ◌//◌, ◌^ᶠ◌}
use Rattle.model.specs.Numbers.{every}
use Rattle.arith.specs.declared.bracket.Bracket.{Bracket}
use Rattle.theory.proofs.curve.Bracket.{Bounded}
use Rattle.theory.proofs.curve.Steps.{prod, ends}
use Rattle.theory.proofs.general.Lists.{every-le}
use Rattle.zerorates.specs.inner.Powers.{Encloses, power_most}
use Rattle.zerorates.specs.inner.Ranges.{StepWithin}

-- ---- a count in other units: v times as large, and 1 over c of what they were
coarser : {e : End} {u n : ℕ} {x : Fraction} (v : ℕ) → 0 < v → Bounded e (u * v) n x → Bounded e u (divide e n v) x
coarser {e} {n = n} {x = x} v h k = record { is = cancel h (from (divide-end e n v h times x.den and k.is) (omega arith)) }

finer : {e : End} {u n : ℕ} {x : Fraction} (c : ℕ) → Bounded e u n x → Bounded e (u * c) (n * c) x
finer c k = record { is = from (k.is times c) (omega arith) }

-- ---- the power of t years at step i
abbrev power : ℕ → ℕ → Fraction
power i t = (steps_per_one // (98000 + i)) ^ᶠ t

module _ {x : Bracket} {t i m : ℕ} where
  bounded : Encloses x t i m → (e : End) → Bounded e (2 ^ 30) (end_of x e) (power i t)
  bounded k low = record { is = record { le = k.lower } }
  bounded k high = record { is = record { le = k.upper } }

  enclosed : (f : End → ℕ) → x ≡ bracket f → ((e : End) → Bounded e (2 ^ 30) (f e) (power i t)) → f high ≤ m → Encloses x t i m
  enclosed f e k most = rw e (record { lower = (k low).is.le; upper = (k high).is.le; most = most })

  lower-most : Encloses x t i m → x.lower ≤ m
  lower-most k = le_trans (ends (one-le-pow t (98000 + i) (omega arith)) (bounded k low) (bounded k high)) k.most

-- ---- products, in units of 2^-30
abbrev product : Bracket → Bracket → End → ℕ
product x y e = divide e (end_of x e * end_of y e) (2 ^ 30)

product-within : {x y : Bracket} {j k i m n : ℕ} → Encloses x j i m → Encloses y k i n → m * n + 2 ^ 30 ≤ 2 ^ 64 → Pairwise Small x y (2 ^ 30)
product-within {x} {y} {m = m} {n = n} p q fits = record {
  lower = record {
    some = omega arith;
    fits = omega (arith, mul-le-mul {n₁ = x.lower} {m₁ = y.lower} {n₂ = m} {m₂ = n} (lower-most p) (lower-most q));
  };
  upper = record { some = omega arith; fits = omega (arith, mul-le-mul {n₁ = x.upper} {m₁ = y.upper} {n₂ = m} {m₂ = n} p.most q.most) };
}

product-encloses : {x y r : Bracket} {j k i m n l : ℕ} → Encloses x j i m → Encloses y k i n → r ≡ bracket (product x y)
    → m * n ≤ l * 2 ^ 30 → Encloses r (j + k) i l
product-encloses {x} {y} {r} {j} {k} {i} {m} {n} {l} p q is c =
    enclosed (product x y) is
    (λ e. rw (pow-add steps_per_one j k, pow-add (98000 + i) j k) (coarser (2 ^ 30) (omega arith) (prod (bounded p e) (bounded q e))))
    (divide-le high (x.upper * y.upper) (2 ^ 30) l (omega arith)
    (le_trans (mul-le-mul {n₁ = x.upper} {m₁ = y.upper} {n₂ = m} {m₂ = n} p.most q.most) c))

-- ---- what no upper bound passes, computed of each term: a square, a year more, and that the products fit 64 bits
square-kept : (k : ℕ) → k < 61 → power_most k * power_most k ≤ power_most (k + k) * 2 ^ 30
unfolding every power_most divide
square-kept k = every-le (λ k. power_most k * power_most k) (λ k. power_most (k + k) * 2 ^ 30) 61 k refl

year-kept : (k : ℕ) → k < 120 → power_most k * power_most 1 ≤ power_most (k + 1) * 2 ^ 30
unfolding every power_most divide
year-kept k = every-le (λ k. power_most k * power_most 1) (λ k. power_most (k + 1) * 2 ^ 30) 120 k refl

square-fits : (k : ℕ) → k < 61 → power_most k * power_most k + 2 ^ 30 ≤ 2 ^ 64
unfolding every power_most divide
square-fits k = every-le (λ k. power_most k * power_most k + 2 ^ 30) (λ _. 2 ^ 64) 61 k refl

year-fits : (k : ℕ) → k < 120 → power_most k * power_most 1 + 2 ^ 30 ≤ 2 ^ 64
unfolding every power_most divide
year-fits k = every-le (λ k. power_most k * power_most 1 + 2 ^ 30) (λ _. 2 ^ 64) 120 k refl

power-most : (t : ℕ) → t < 121 → power_most t ≤ 13 * 10 ^ 9
unfolding every power_most divide
power-most t = every-le power_most (λ _. 13 * 10 ^ 9) 121 t refl

-- ---- of t years, from the half of them: the bits of t but the last
pub of-half : {x : Bracket} {i : ℕ} (t k : ℕ) → 0 < k → Encloses x (t / 2 ^ k) i (power_most (t / 2 ^ k))
    → Encloses x (t / 2 ^ (k - 1) / 2) i (power_most (t / 2 ^ (k - 1) / 2))
of-half {x} {i} t k h p =
    let e : suc (k - 1) ≡ k = omega arith in
    subst (λ (n : ℕ). Encloses x n i (power_most n))
    (ap (λ (j : ℕ). t / 2 ^ j) (sym e) ∙ ap (λ (d : ℕ). t / d) (pow-suc 2 (k - 1)) ∙ sym (div-div-eq-div-mul t (2 ^ (k - 1)) 2)) p

pub bits_most : (t k : ℕ) → t ≤ 120 → t / 2 ^ k ≤ 120
bits_most t k h = le_trans (div-le_self t (2 ^ k)) h

module _ {half year : Bracket} {t i : ℕ} (term : t ≤ 120) (p : Encloses half (t / 2) i (power_most (t / 2)))
    (one : Encloses year 1 i (power_most 1)) where
  pub square-within : Pairwise Small half half (2 ^ 30)
  square-within = product-within p p (square-fits (t / 2) (omega arith))

  module _ {square : Bracket} (s : square ≡ bracket (product half half)) where
    squared : Encloses square (t / 2 + t / 2) i (power_most (t / 2 + t / 2))
    squared = product-encloses p p s (square-kept (t / 2) (omega arith))

    pub even-encloses : t % 2 < 1 → Encloses square t i (power_most t)
    even-encloses h = subst (λ (k : ℕ). Encloses square k i (power_most k)) (let z : t / 2 + t / 2 ≡ t = omega arith in z) squared

    pub year-within : t % 2 ≡ 1 → Pairwise Small square year (2 ^ 30)
    year-within h = product-within squared one (year-fits (t / 2 + t / 2) (omega arith))

    pub odd-encloses : {r : Bracket} → t % 2 ≡ 1 → r ≡ bracket (product square year) → Encloses r t i (power_most t)
    odd-encloses {r} h e =
        subst (λ (k : ℕ). Encloses r k i (power_most k)) (let z : t / 2 + t / 2 + 1 ≡ t = omega arith in z)
        (product-encloses squared one e (year-kept (t / 2 + t / 2) (omega arith)))

-- ---- of no year and of one
pub no-year : (i : ℕ) → Encloses (record { lower = 2 ^ 30; upper = 2 ^ 30 }) 0 i (power_most 0)
unfolding power_most
no-year i = record { lower = rw (pow-zero (98000 + i)) (omega arith); upper = rw (pow-zero (98000 + i)) (omega arith); most = omega arith }

module _ (q i : ℕ) (e : q ≡ divide low (2 ^ 30 * steps_per_one) (98000 + i)) where
  near : (q * (98000 + i) ≤ 2 ^ 30 * steps_per_one) × (2 ^ 30 * steps_per_one < q * (98000 + i) + (98000 + i))
  near = rw e (divide-floor (2 ^ 30 * steps_per_one) (98000 + i) (omega arith))

  pub year-most : q + 1 ≤ power_most 1
  unfolding power_most
  year-most = omega (arith, near, mul-le-mul_left q (let z : 98000 ≤ 98000 + i = omega arith in z))

  pub one-year : Encloses (record { lower = q; upper = q + 1 }) 1 i (power_most 1)
  one-year = record { lower = rw (pow-one (98000 + i)) (omega (arith, near)); upper = rw (pow-one (98000 + i)) (omega (arith, near)); most = year-most }
    where
      pow-one : (a : ℕ) → a ^ 1 ≡ a
      pow-one a = rw (pow-suc a 0, pow-zero a) (omega arith)

-- ---- in units of 10^-12: 10^12 ÷ 2^30 is 5^12 ÷ 2^18
module _ {x : Bracket} {t i : ℕ} (w : StepWithin t i) (p : Encloses x t i (power_most t)) where
  most : power_most t ≤ 13 * 10 ^ 9
  most = power-most t (omega (arith, w.term))

  pub both-fit : BothIn Small x (5 ^ 12) (2 ^ 18)
  both-fit = record {
    lower = record { some = omega arith; fits = omega (arith, lower-most p, most) };
    upper = record { some = omega arith; fits = omega (arith, p.most, most) };
  }

  pub in-units : (e : End) → Bounded e unit (divide e (end_of x e * 5 ^ 12) (2 ^ 18)) (power i t)
  in-units e = coarser (2 ^ 18) (omega arith) (finer (5 ^ 12) (bounded p e))

  pub in-units-most : divide high (x.upper * 5 ^ 12) (2 ^ 18) ≤ 2 ^ 46
  in-units-most = divide-le high (x.upper * 5 ^ 12) (2 ^ 18) (2 ^ 46) (omega arith) (omega (arith, p.most, most))
