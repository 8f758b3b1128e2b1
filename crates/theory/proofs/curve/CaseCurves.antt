-- The three curves of a case within the limits: rates as integers come down to P(t) as a natural number here, once, and refusals 5 and 6
-- to bounds on P(t) relative to N, for any number of rate units in a step. Each rate is at least -1,000 steps, so with 100,000 added to
-- each the sums are natural; a shift is at most 1,000 steps, so it moves every bound by 0.01 × N at most.
-- Assumes nothing.
use Prim.Native.Nat.{ℕ, zero, suc, ◌+◌, ◌*◌, ◌-◌, ◌≤◌, ◌<◌}
use mathlib.Core.Path.{◌≡◌, refl, ap, sym, ◌∙◌, subst}
use mathlib.Core.List.{List, [], ◌∷◌}
use native.Mathlib.Numerals.{sub-one}
use native.Mathlib.Omega.{arith}
use native.Mathlib.Nat.{mul-le-mul, mul-le-mul_left, mul-pos}
use mathlib.Core.Bool.{Bool, true, false, cond}
use lib.Dec.{eqb, lit<, lit≤}
use lib.ListN.{length, get_or}
use lib.IntN.{ℤ, pos, negsuc, neg_ℤ, ◌+ℤ◌, ◌-ℤ◌, ◌*ℤ◌, +ℤ_idr, *ℤ-zero}
use lib.Signed.{◌≤ℤ◌}
use Rattle.model.specs.Constants.{steps_per_one}
use Rattle.model.specs.Case.{FileCase, units_per_step, per_step, s}
use Rattle.model.specs.Limits.{Between, DayWithin, DaysWithin, WithinLimits, forward}
use Rattle.method.specs.Curve.{Move, base, up, down, shift, moved_sum, curve, natural, P}
use Rattle.method.specs.inner.Shifts.{added, taken}
use Rattle.theory.proofs.general.Differences.{Diff, again, diff-pos, diff-sum, diff-neg, diff-minus, diff-times, diff-le, le-diff, natural-is}
use Rattle.method.specs.inner.CurveWithin.{CurveWithin, BaseWithin}

diff-minus-pos : (n : ℕ) → Diff (neg_ℤ (pos n)) 0 n
diff-minus-pos n = diff-neg (pos n) n 0 (diff-pos n)

-- n + z as a natural number, where z is not below -n
raised : (n : ℕ) (z : ℤ) → neg_ℤ (pos n) ≤ℤ z → Diff z (natural (pos n +ℤ z)) n
raised n (pos m) h = omega arith
raised n (negsuc m) h =
    let l : suc m ≤ n = omega (arith, diff-le {y = neg_ℤ (pos n)} {z = negsuc m} 0 n 0 (suc m) (diff-minus-pos n) (omega arith) h) in
    let e : natural (pos n +ℤ negsuc m) ≡ n - suc m =
    natural-is (pos n +ℤ negsuc m) (n + 0) (0 + suc m) (n - suc m) (diff-sum (pos n) (negsuc m) n 0 0 (suc m) (diff-pos n) (omega arith)) (omega arith)
    in
    rw e (omega arith)

-- P(t) of the base curve: no shift is added
pub base_sum : (k : FileCase) (t : ℕ)
    → natural (pos (steps_per_one * per_step k) +ℤ s k.days (suc t)) ≡ P (curve k base) (suc t)
unfolding P curve moved_sum
base_sum k t =
    let none = ap (λ z. s k.days (suc t) +ℤ z) (*ℤ-zero (pos (per_step k))) ∙ +ℤ_idr (s k.days (suc t)) in
    ap (λ z. natural (pos (steps_per_one * per_step k) +ℤ z)) (sym none)

-- ---- the sum of a term over the days, to which a step adds u: with 100,000 steps for each day, refusal 5 in natural numbers
record Raised (z : ℤ) (u : ℕ) : Type 0 where
  sum : ℕ
  is : Diff z sum (steps_per_one * u)
  least : 99000 * u ≤ sum
  most : sum ≤ 110000 * u

raised-rate : (units : ℕ) (r : ℤ) → Between (neg_ℤ (pos (1000 * units))) (pos (10000 * units)) r → Raised r units
raised-rate units r b =
    let N = 100000 * units in
    let least = 1000 * units in
    let most = 10000 * units in
    let d : Diff r (natural (pos N +ℤ r)) N = raised N r (far r b.least) in
    record {
      sum = natural (pos N +ℤ r);
      is = d;
      least = omega (arith, diff-le {y = neg_ℤ (pos least)} {z = r} 0 least (natural (pos N +ℤ r)) N (diff-minus-pos least) d b.least);
      most = omega (arith, diff-le {y = r} {z = pos most} (natural (pos N +ℤ r)) N most 0 d (diff-pos most) b.most);
    }
  where
    far : (r : ℤ) → neg_ℤ (pos (1000 * units)) ≤ℤ r → neg_ℤ (pos (100000 * units)) ≤ℤ r
    far (pos m) h =
        le-diff (neg_ℤ (pos (100000 * units))) (pos m) 0 (100000 * units) m 0 (diff-minus-pos (100000 * units)) (diff-pos m) (omega arith)
    far (negsuc m) h =
        le-diff (neg_ℤ (pos (100000 * units))) (negsuc m) 0 (100000 * units) 0 (suc m) (diff-minus-pos (100000 * units)) (omega arith)
        (omega (arith, diff-le {y = neg_ℤ (pos (1000 * units))} {z = negsuc m} 0 (1000 * units) 0 (suc m) (diff-minus-pos (1000 * units)) (omega arith) h))

raised-sum : (units : ℕ) (days : List (List ℤ)) (t : ℕ) → t < 60 → ((d : ℕ) → d < length days → DayWithin units (get_or days d []))
    → Raised (s days (suc t)) (units * length days)
unfolding s
raised-sum units [] t h each = record { sum = 0; is = omega arith; least = omega arith; most = omega arith }
raised-sum units (day ∷ days) t h each =
    let r = raised-rate units (get_or day t (pos 0)) ((each 0 (omega arith)).each t h) in
    let q = raised-sum units days t h (λ d l. each (suc d) (omega arith)) in
    let u = units * length days in
    record {
      sum = r.sum + q.sum;
      is = again (get_or day t (pos 0) +ℤ s days (suc t)) (r.sum + q.sum) (100000 * units + 100000 * u) (r.sum + q.sum) (100000 * (units * suc (length days)))
          (diff-sum (get_or day t (pos 0)) (s days (suc t)) r.sum (100000 * units) q.sum (100000 * u) r.is q.is) (omega arith);
      least = omega (arith, r.least, q.least);
      most = omega (arith, r.most, q.most);
    }

-- the same, and refusal 6 in natural numbers
module _ (units : ℕ) (days : List (List ℤ)) (w : DaysWithin units days) where
  -- P(t) of the base curve, from 0 to 60
  sum_of : ℕ → ℕ
  sum_of t = natural (pos (100000 * (units * length days)) +ℤ s days t)

  sum_is : (t : ℕ) → t ≤ 60 → Diff (s days t) (sum_of t) (100000 * (units * length days)) × (99000 * (units * length days) ≤ sum_of t) × (sum_of t ≤ 110000 * (units * length days))
  unfolding s sum_of
  sum_is zero h = (omega arith, omega arith, omega arith)
  sum_is (suc t) h =
      let r = raised-sum units days t h w.each in
      let e : sum_of (suc t) ≡ r.sum =
      natural-is (pos (100000 * (units * length days)) +ℤ s days (suc t)) (100000 * (units * length days) + r.sum) (0 + 100000 * (units * length days)) r.sum
      (diff-sum (pos (100000 * (units * length days))) (s days (suc t)) (100000 * (units * length days)) 0 r.sum (100000 * (units * length days)) (diff-pos (100000 * (units * length days))) r.is)
      (omega arith)
      in
      rw e (r.is, r.least, r.most)

  forward-is : (t : ℕ) → suc t ≤ 60
      → Diff (forward days (suc t)) (suc t * sum_of (suc t) + t * (100000 * (units * length days))) (suc t * (100000 * (units * length days)) + t * sum_of t)
  forward-is t h =
      subst (λ (i : ℕ). Diff (pos (suc t) *ℤ s days (suc t) -ℤ pos i *ℤ s days i) (suc t * sum_of (suc t) + t * (100000 * (units * length days))) (suc t * (100000 * (units * length days)) + t * sum_of t))
      (sym (sub-one (suc t)))
      (diff-minus (pos (suc t) *ℤ s days (suc t)) (pos t *ℤ s days t) (suc t * sum_of (suc t)) (suc t * (100000 * (units * length days))) (t * sum_of t) (t * (100000 * (units * length days)))
      (diff-times (suc t) (s days (suc t)) (sum_of (suc t)) (100000 * (units * length days)) (sum_is (suc t) h).0)
      (diff-times t (s days t) (sum_of t) (100000 * (units * length days)) (sum_is t (omega arith)).0))

  forward-least : (t : ℕ) → suc t ≤ 60 → t * sum_of t + 98000 * (units * length days) ≤ suc t * sum_of (suc t)
  forward-least t h =
      omega (
        arith,
        diff-le {y = neg_ℤ (pos (2000 * (units * length days)))} {z = forward days (suc t)} 0 (2000 * (units * length days)) (suc t * sum_of (suc t) + t * (100000 * (units * length days))) (suc t * (100000 * (units * length days)) + t * sum_of t)
            (diff-minus-pos (2000 * (units * length days))) (forward-is t h) (w.forwards (suc t) (omega arith) h).least,
      )

  forward-most : (t : ℕ) → suc t ≤ 60 → suc t * sum_of (suc t) ≤ t * sum_of t + 112000 * (units * length days)
  forward-most t h =
      omega (
        arith,
        diff-le {y = forward days (suc t)} {z = pos (12000 * (units * length days))} (suc t * sum_of (suc t) + t * (100000 * (units * length days))) (suc t * (100000 * (units * length days)) + t * sum_of t) (12000 * (units * length days)) 0
            (forward-is t h) (diff-pos (12000 * (units * length days))) (w.forwards (suc t) (omega arith) h).most,
      )

-- ---- the curves of a case: a shift adds to P(t), or takes from it, what one step adds to a sum times the shift
module _ (k : FileCase) (w : WithinLimits k) where
  q : ℕ → ℕ
  q t = sum_of (units_per_step k.rate_bytes) k.days w.days t

  shift_is : (m : Move) → Diff (shift k m) (added k.shocks m) (taken k.shocks m)
  shift_is base = refl
  shift_is up = diff-pos k.shocks.up_shift
  shift_is down = diff-minus-pos k.shocks.down_shift

  more-most : (m : Move) → per_step k * added k.shocks m ≤ per_step k * 1000
  more-most base = omega arith
  more-most up = mul-le-mul_left (per_step k) w.shocks.up_shift
  more-most down = omega arith

  less-most : (m : Move) → per_step k * taken k.shocks m ≤ per_step k * 1000
  less-most base = omega arith
  less-most up = omega arith
  less-most down = mul-le-mul_left (per_step k) w.shocks.down_shift

  q-is : (t : ℕ) → t ≤ 60 → Diff (s k.days t) (q t) (100000 * per_step k) × (99000 * per_step k ≤ q t) × (q t ≤ 110000 * per_step k)
  unfolding q per_step
  q-is t h = sum_is (units_per_step k.rate_bytes) k.days w.days t h

  pub P-zero : (m : Move) → P (curve k m) 0 ≡ 100000 * per_step k
  unfolding P curve moved_sum
  P-zero m = omega arith

  P-moved : (m : Move) (t : ℕ) → suc t ≤ 60 → P (curve k m) (suc t) + per_step k * taken k.shocks m ≡ q (suc t) + per_step k * added k.shocks m
  unfolding P curve moved_sum
  P-moved m t h =
      let n : ℕ = per_step k in
      let x = q-is (suc t) h in
      let r : ℕ = (q (suc t) + n * added k.shocks m) - n * taken k.shocks m in
      let fits : n * taken k.shocks m ≤ q (suc t) + n * added k.shocks m = omega (arith, x.1, less-most m) in
      let e : natural (pos (100000 * n) +ℤ (s k.days (suc t) +ℤ pos n *ℤ shift k m)) ≡ r =
      natural-is (pos (100000 * n) +ℤ (s k.days (suc t) +ℤ pos n *ℤ shift k m)) (100000 * n + (q (suc t) + n * added k.shocks m)) (0 + (100000 * n + n * taken k.shocks m)) r
      (diff-sum (pos (100000 * n)) (s k.days (suc t) +ℤ pos n *ℤ shift k m) (100000 * n) 0 (q (suc t) + n * added k.shocks m) (100000 * n + n * taken k.shocks m) (diff-pos (100000 * n))
      (diff-sum (s k.days (suc t)) (pos n *ℤ shift k m) (q (suc t)) (100000 * n) (n * added k.shocks m) (n * taken k.shocks m) x.0
      (diff-times n (shift k m) (added k.shocks m) (taken k.shocks m) (shift_is m))))
      (omega arith)
      in
      rw e (omega arith)

  -- what holds of P(t) of each curve
  module _ (m : Move) where
    p : ℕ → ℕ
    p t = P (curve k m) t

    least : (t : ℕ) → t ≤ 60 → 98000 * per_step k ≤ p t
    unfolding p
    least zero h = omega (arith, P-zero m)
    least (suc t) h = omega (arith, P-moved m t h, (q-is (suc t) h).1, less-most m)

    most : (t : ℕ) → t ≤ 60 → p t ≤ 111000 * per_step k
    unfolding p
    most zero h = omega (arith, P-zero m)
    most (suc t) h = omega (arith, P-moved m t h, (q-is (suc t) h).2, more-most m)

    forward_least : (t : ℕ) → suc t ≤ 60 → t * p t + 97000 * per_step k ≤ suc t * p (suc t)
    unfolding p q per_step
    forward_least zero h = omega (arith, least 1 h)
    forward_least (suc t) h =
        let n : ℕ = per_step k in
        omega (
          arith,
          ap (λ x. suc t * x) (P-moved m t (omega arith)),
          ap (λ x. suc (suc t) * x) (P-moved m (suc t) h),
          forward-least (units_per_step k.rate_bytes) k.days w.days (suc t) h,
          less-most m,
        )

    forward_most : (t : ℕ) → suc t ≤ 60 → suc t * p (suc t) ≤ t * p t + 113000 * per_step k
    unfolding p q per_step
    forward_most zero h = omega (arith, most 1 h)
    forward_most (suc t) h =
        omega (
          arith,
          ap (λ x. suc t * x) (P-moved m t (omega arith)),
          ap (λ x. suc (suc t) * x) (P-moved m (suc t) h),
          forward-most (units_per_step k.rate_bytes) k.days w.days (suc t) h,
          more-most m,
        )

  -- what a step adds to a sum: from 1 of one day to 100 times 70
  units-within : (b : Bool) → (0 < cond b 100 1) × (cond b 100 1 ≤ 100)
  units-within true = (lit< tt, lit≤ tt)
  units-within false = (lit< tt, lit≤ tt)

  per-step-pos : 0 < per_step k
  unfolding per_step
  per-step-pos = mul-pos (units-within (eqb k.rate_bytes 4)).0 w.days.some

  pub per-step-most : per_step k ≤ 7000
  unfolding per_step
  per-step-most =
      mul-le-mul {n₁ = units_per_step k.rate_bytes} {m₁ = length k.days} {n₂ = 100} {m₂ = 70} (units-within (eqb k.rate_bytes 4)).1 w.days.most

  pub N-is : (m : Move) → (curve k m).N ≡ 100000 * per_step k
  unfolding curve
  N-is m = refl

  pub ufr-is : (m : Move) → (curve k m).ufr ≡ k.ufr
  unfolding curve
  ufr-is m = refl

  pub curve-within : (m : Move) → CurveWithin (curve k m)
  unfolding p
  curve-within m = record {
    some = omega (arith, N-is m, per-step-pos);
    least = λ t h. omega (arith, N-is m, least m t h);
    most = λ t h. omega (arith, N-is m, most m t h);
    forward_least = λ t h. omega (arith, N-is m, forward_least m t h);
    forward_most = λ t h. omega (arith, N-is m, forward_most m t h);
    ufr_most = omega (arith, ufr-is m, w.ufr);
  }

  -- the base curve is not shifted
  P-base : (t : ℕ) → t ≤ 60 → P (curve k base) t ≡ q t
  P-base zero h = unfold q sum_of s per_step in (omega (arith, P-zero base))
  P-base (suc t) h = omega (arith, P-moved base t h)

  pub base-within : BaseWithin (curve k base)
  unfolding q per_step
  base-within = record {
    within = curve-within base;
    base_least = λ t h. omega (arith, N-is base, P-base t h, (q-is t h).1);
    base_most = λ t h. omega (arith, N-is base, P-base t h, (q-is t h).2);
    base_forward_least = λ t h. rw (P-base t (omega arith), P-base (suc t) h) (omega (arith, N-is base, forward-least (units_per_step k.rate_bytes) k.days w.days t h));
    base_forward_most = λ t h. rw (P-base t (omega arith), P-base (suc t) h) (omega (arith, N-is base, forward-most (units_per_step k.rate_bytes) k.days w.days t h));
  }

  -- every curve from the base curve
  pub P-shifted : (m : Move) (t : ℕ) → suc t ≤ 60
      → P (curve k m) (suc t) ≡ (P (curve k base) (suc t) + per_step k * added k.shocks m) - per_step k * taken k.shocks m
  P-shifted m t h = omega (arith, P-moved m t h, P-base (suc t) h)
