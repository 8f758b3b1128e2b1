-- The zero rate of every term from 1 to 120 lies in its bracket, which is at most two steps wide. It lies there because a test compares
-- the power of a step, rounded to one end, with the factor at the other end: where the rounded numbers pass, the exact ones are in that
-- order. Two steps suffice because, were the upper rate further above the lower, the step after the lower rate would fail the lower test
-- and the one after that the upper test, which no two neighbouring steps do (`one_passes`).
-- Assumes nothing.
use Prim.Native.Nat.{ℕ, ◌+◌, ◌*◌, ◌^◌, ◌≤◌, ◌<◌}
use mathlib.Core.Path.{◌≡◌, refl, ◌∙◌}
use lib.Dec.{T, leb→le, le→leb}
use native.Mathlib.Omega.{arith}
use native.Mathlib.Nat.{le_trans}
use borrow.Author.Tests.{lt-leb, leb-false}
use native.Mathlib.Decide.{dec_le}
use lib.IntN.{ℤ, pos, neg_ℤ, ◌+ℤ◌}
use lib.Signed.{◌≤ℤ◌, ◌<ℤ◌}
use Rattle.arith.specs.Rounding.{End, low, high, other, divide}
use Rattle.arith.proofs.Ends.{◌≤⟨◌⟩◌, ◌and◌, ◌times◌, from, cancel, reverse}
use Rattle.method.specs.Curve.{Curve, natural, weight, weights}
use Rattle.method.specs.Exact as Exact
use Rattle.model.specs.Constants.{unit, steps_per_one}
use Rattle.method.specs.Rounded as Rounded
use Rattle.method.specs.Rounded.{scaled, tested, step_at, lower_test, upper_test}
use Rattle.method.specs.Fraction.{Fraction}
use Rattle.method.specs.inner.CurveWithin.{BaseWithin}
use Rattle.model.specs.Limits.{Between}
use Rattle.method.specs.Containment.{RateOrdered, RateBounds}
use Rattle.theory.proofs.general.Differences.{Diff, again, diff-pos, diff-sum, diff-neg, diff-minus, le-diff, lt-diff, natural-is}
use Rattle.model.specs.Numbers.{every}
use Rattle.theory.proofs.curve.Steps.{scaled-in}
use Rattle.theory.proofs.curve.Factor.{factor-in, product-pos}
use Rattle.theory.proofs.curve.Width.{factor-width}
use Rattle.theory.proofs.general.Lists.{every-le}
use Rattle.theory.proofs.curve.BaseCurve.{weighed_bound, factor_bound, factor-bound}
use Rattle.theory.proofs.curve.RateTests.{one_passes}
use Rattle.theory.proofs.curve.Bisection as Bisection
use Rattle.theory.proofs.curve.Bisection.{RateExists, found-passes, splits}

-- ---- step i as an integer
step-diff : (i : ℕ) → Diff (step_at i) i 2000
step-diff i = again (step_at i) (i + 0) (0 + 2000) i 2000 (diff-minus (pos i) (pos 2000) i 0 2000 0 (diff-pos i) (diff-pos 2000)) (omega arith)

step-natural : (i : ℕ) → natural (pos steps_per_one +ℤ step_at i) ≡ 98000 + i
step-natural i =
    natural-is (pos steps_per_one +ℤ step_at i) (100000 + i) (0 + 2000) (98000 + i)
    (diff-sum (pos steps_per_one) (step_at i) 100000 0 i 2000 (diff-pos 100000) (step-diff i)) (omega arith)

above_minus_one : (n : ℕ) → neg_ℤ (pos steps_per_one) <ℤ step_at n
above_minus_one n =
    lt-diff (neg_ℤ (pos steps_per_one)) (step_at n) 0 100000 n 2000 (diff-neg (pos 100000) 100000 0 (diff-pos 100000)) (step-diff n) (omega arith)

step-within : (n : ℕ) → n ≤ 22000 → Between (neg_ℤ (pos 2000)) (pos 20000) (step_at n)
step-within n h = record {
  least = le-diff (neg_ℤ (pos 2000)) (step_at n) 0 2000 n 2000 (diff-neg (pos 2000) 2000 0 (diff-pos 2000)) (step-diff n) (omega arith);
  most = le-diff (step_at n) (pos 20000) n 2000 20000 0 (step-diff n) (diff-pos 20000) (omega arith);
}

-- ---- a test that passes, as the order of the exact product and the power of the step
power-order : {e : End} {f x : ℕ} (p q pn pd : ℕ) → f * (1 * pn) ≤⟨ other e ⟩ unit * (1 * pd) → f ≤⟨ e ⟩ x → x * p ≤⟨ e ⟩ unit * q → p * pd ≤⟨ e ⟩ pn * q
power-order p q pn pd h k l = cancel {c = unit} (omega arith) (from (reverse h times p and k times (pn * p) and l times pn) (omega arith))

rate-order : (e : End) (z : ℤ) (t : ℕ) (x : Fraction) → natural (pos steps_per_one +ℤ z) ^ t * x.den ≤⟨ e ⟩ x.num * steps_per_one ^ t → RateOrdered e z t x
rate-order low z t x h = h.le
rate-order high z t x h = h.le

-- ---- the first step passes the lower test and the last one the upper test, whatever the file: computed of the factors' bounds
starts : (t : ℕ) → t < 121 → factor_bound high t ≤ tested low t 0
unfolding every factor_bound weighed_bound divide scaled weight weights
starts t = every-le (factor_bound high) (λ t. tested low t 0) 121 t refl

stops : (t : ℕ) → t < 121 → tested high t 22000 ≤ factor_bound low t
unfolding every factor_bound weighed_bound divide scaled weight weights
stops t = every-le (λ t. tested high t 22000) (factor_bound low) 121 t refl

-- ---- the rates of a base curve: the steps found, in their bounds and at most two apart
module _ (c : Curve) (b : BaseWithin c) (t : ℕ) (within : t ≤ 120) where
  pub first_passes : T (lower_test (Rounded.factor c) t 0)
  first_passes =
      le→leb (Rounded.factor c high t) (tested low t 0)
      (le_trans (factor-bound c b high t).le (starts t (omega arith)))

  pub last-passes : T (upper_test (Rounded.factor c) t 22000)
  last-passes =
      le→leb (tested high t 22000) (Rounded.factor c low t)
      (le_trans (stops t (omega arith)) (factor-bound c b low t).le)

  pub rate-exists : (e : End) → RateExists (Rounded.factor c) e t
  rate-exists low = first_passes
  rate-exists high = last-passes

  -- the step of the rate
  abbrev found : End → ℕ
  found e = Bisection.found (Rounded.factor c) t e

  rate-is : (e : End) → Rounded.zero_rate c e t ≡ step_at (found e)
  rate-is e = Bisection.rate-is (Rounded.factor c) t e

  step-most : (e : End) → found e ≤ 22000
  step-most e = (found-passes (Rounded.factor c) t e (rate-exists e)).1

  factor-order : (e : End) → Rounded.factor c (other e) t ≤⟨ e ⟩ tested e t (found e)
  factor-order low =
      record { le = leb→le (Rounded.factor c high t) (tested low t (found low)) (found-passes (Rounded.factor c) t low (rate-exists low)).0 }
  factor-order high =
      record { le = leb→le (tested high t (found high)) (Rounded.factor c low t) (found-passes (Rounded.factor c) t high (rate-exists high)).0 }

  pub rate-found : (e : End) → Between (neg_ℤ (pos 2000)) (pos 20000) (Rounded.zero_rate c e t)
  rate-found e = rw (rate-is e) (step-within (found e) (step-most e))

  pub rate-in : (e : End) → RateBounds e (Rounded.zero_rate c e t) t (Exact.product c t)
  unfolding Exact.factor
  rate-in e =
      let x = Exact.product c t in
      let v : ℕ = 98000 + found e in
      rw (rate-is e) record {
        real = (product-pos c b.within t).1;
        above_minus_one = above_minus_one (found e);
        order = rate-order e (step_at (found e)) t x
            (rw (step-natural (found e))
            (power-order (v ^ t) (steps_per_one ^ t) x.num x.den (factor-in c b.within (other e) t).is (factor-order e)
            (scaled-in e steps_per_one v t (omega arith)).is));
      }

  narrow : 1 ≤ t → found high ≤ found low + 2
  narrow h = go (dec_le (found high) (found low + 2))
    where
      i : ℕ
      i = found low + 1

      go : Dec (found high ≤ found low + 2) → found high ≤ found low + 2
      go (yes k) = k
      go (no k) =
          let few : i + 1 < 22001 = omega (arith, step-most high) in
          absurd (one_passes t i (Rounded.factor c low t) (Rounded.factor c high t) h within (omega arith) (factor-bound c b low t).le (factor-width c b.within t)
          (leb-false (Rounded.factor c high t) (tested low t i)
          (splits (Rounded.factor c) t low (rate-exists low) i (omega arith) ∙ lt-leb i (found low) (omega arith)))
          (leb-false (tested high t (i + 1)) (Rounded.factor c low t)
          (splits (Rounded.factor c) t high (rate-exists high) (i + 1) few ∙ lt-leb (found high) (i + 1) (omega arith))))

  pub rate-width : 1 ≤ t → Rounded.zero_rate c high t ≤ℤ (Rounded.zero_rate c low t +ℤ pos 2)
  rate-width h =
      rw (rate-is low, rate-is high)
      (le-diff (step_at (found high)) (step_at (found low) +ℤ pos 2) (found high) 2000 (found low + 2) (2000 + 0) (step-diff (found high))
      (diff-sum (step_at (found low)) (pos 2) (found low) 2000 2 0 (step-diff (found low)) (diff-pos 2)) (omega (arith, narrow h)))
