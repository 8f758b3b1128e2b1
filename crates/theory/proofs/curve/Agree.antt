-- The rounded working depends on a curve only through the ratios of N and P(0) to P(60), and the UFR: a curve whose N and P(t) are each the
-- same multiple of another's has its growths and factors. Assumes nothing.
use Prim.Native.Nat.{ℕ, zero, suc, ◌*◌, ◌≤◌, ◌<◌}
use mathlib.Core.Path.{◌≡◌, refl, ap, ap₂, sym, ◌∙◌, fun_ext}
use native.Mathlib.Omega.{arith}
use native.Mathlib.Decide.{dec_le}
use native.Mathlib.Nat.{mul-le-mul_left, mul-lt-mul_of_pos_right, mul-pos}
use Rattle.arith.specs.Rounding.{End, low, high, other, divide}
use Rattle.arith.proofs.Rounding.{divide-floor, divide-ceiling, divide-low-is, divide-high-is}
use Rattle.method.specs.Curve.{Curve, P}
use Rattle.method.specs.Rounded as Rounded
use Rattle.method.specs.Rounded.{scaled}
use Rattle.method.specs.inner.CurveWithin.{CurveWithin, BaseWithin}
use Rattle.theory.proofs.curve.Growth.{growth-suc, P_pos}
use Rattle.theory.proofs.curve.Unadjusted.{unadjusted-is}
use Rattle.theory.proofs.curve.Factor.{weighed-to-60, weighed-from-61, rounded-factor-first, rounded-factor-next}

-- ---- a quotient of multiples

divide-same : (e : End) (g n b : ℕ) → 0 < g → 0 < b → divide e (g * n) (g * b) ≡ divide e n b
divide-same low g n b hg hb =
    let k : ℕ = divide low n b in
    let d = divide-floor n b hb in
    sym (divide-low-is (g * n) (g * b) k (omega (arith, mul-le-mul_left g d.0)) (omega (arith, mul-lt-mul_of_pos_right d.1 hg)))
divide-same high g n b hg hb =
    let k : ℕ = divide high n b in
    let d = divide-ceiling n b hb in
    sym (divide-high-is (g * n) (g * b) k (omega (arith, mul-le-mul_left g d.0)) (omega (arith, mul-lt-mul_of_pos_right d.1 hg)))

times-same : (e : End) (g x a b : ℕ) → 0 < g → 0 < b → divide e (x * (g * a)) (g * b) ≡ divide e (x * a) b
times-same e g x a b hg hb =
    let q : x * (g * a) ≡ g * (x * a) = omega arith in
    ap (λ y. divide e y (g * b)) q ∙ divide-same e g (x * a) b hg hb

scaled-same : (e : End) (g a b j : ℕ) → 0 < g → 0 < b → scaled e (g * a) (g * b) j ≡ scaled e a b j
unfolding scaled
scaled-same e g a b zero hg hb = refl
scaled-same e g a b (suc j) hg hb =
    ap (λ y. divide e (y * (g * a)) (g * b)) (scaled-same e g a b j hg hb) ∙ times-same e g (scaled e a b j) a b hg hb

-- ---- c is d with N and P(t) taken g times
pub record Agree (g : ℕ) (c d : Curve) : Type 0 where
  pub some : 0 < g
  pub same_n : c.N ≡ g * d.N
  pub same_p : (t : ℕ) → t ≤ 60 → P c t ≡ g * P d t
  pub same_ufr : c.ufr ≡ d.ufr

module _ (g : ℕ) (c d : Curve) (a : Agree g c d) (w : CurveWithin d) where
  -- N and P(t) in a product and a quotient, and over j years
  same-scaled : (e : End) (t j : ℕ) → t ≤ 60 → scaled e c.N (P c t) j ≡ scaled e d.N (P d t) j
  same-scaled e t j h = ap₂ (λ n p. scaled e n p j) a.same_n (a.same_p t h) ∙ scaled-same e g d.N (P d t) j a.some (P_pos d w t h)

  same-growth : (e : End) (j : ℕ) → suc j ≤ 60 → Rounded.growth c e (suc j) ≡ Rounded.growth d e (suc j)
  same-growth e j h =
      let p = P d (suc j) in
      let q = P d j in
      growth-suc c e j
      ∙ rw (a.same_p (suc j) h, a.same_p j (omega arith), a.same_n, scaled-same e g p q j a.some (P_pos d w j (omega arith)))
      (times-same e g (scaled e p q j) p d.N a.some w.some)
      ∙ sym (growth-suc d e j)

  same-weighed : (e : End) (j : ℕ) → Rounded.weighed c e (suc j) ≡ Rounded.weighed d e (suc j)
  same-weighed e j = go (dec_le (suc j) 60)
    where
      go : Dec (suc j ≤ 60) → Rounded.weighed c e (suc j) ≡ Rounded.weighed d e (suc j)
      go (yes h) = rw (weighed-to-60 c e (suc j) h, weighed-to-60 d e (suc j) h, same-growth e j h, a.same_ufr)
      go (no h) = rw (weighed-from-61 c e (suc j) (omega arith), weighed-from-61 d e (suc j) (omega arith), a.same_ufr)

  factor-at : (e : End) (t : ℕ) → Rounded.factor c e t ≡ Rounded.factor d e t
  factor-at e zero = unfold Rounded.factor in refl
  factor-at e (suc j) = go (dec_le (suc j) 20) (factor-at e j)
    where
      go : Dec (suc j ≤ 20) → Rounded.factor c e j ≡ Rounded.factor d e j → Rounded.factor c e (suc j) ≡ Rounded.factor d e (suc j)
      go (yes h) ih =
          rounded-factor-first c e j h ∙ same-scaled e (suc j) (suc j) (omega arith) ∙ sym (rounded-factor-first d e j h)
      go (no h) ih = rw (rounded-factor-next c e j (omega arith), rounded-factor-next d e j (omega arith), ih, same-weighed (other e) j)

  pub same-factors : Rounded.factor c ≡ Rounded.factor d
  same-factors = fun_ext (λ e. fun_ext (λ t. factor-at e t))

  -- bond flows have no term past 60, and P(t) agrees to there
  pub same-unadjusted : (e : End) (t : ℕ) → t ≤ 60 → Rounded.unadjusted c e t ≡ Rounded.unadjusted d e t
  same-unadjusted e t h = unadjusted-is c e t ∙ same-scaled e t t h ∙ sym (unadjusted-is d e t)

  -- the limits carry over
  pub same-within : CurveWithin c
  same-within = record {
    some = rw a.same_n (mul-pos a.some w.some);
    least = λ t h. omega (arith, mul-le-mul_left g (w.least t h), a.same_n, a.same_p t h);
    most = λ t h. omega (arith, mul-le-mul_left g (w.most t h), a.same_n, a.same_p t h);
    forward_least = λ t h. rw (a.same_p t (omega arith), a.same_p (suc t) h, a.same_n) (omega (arith, mul-le-mul_left g (w.forward_least t h)));
    forward_most = λ t h. rw (a.same_p t (omega arith), a.same_p (suc t) h, a.same_n) (omega (arith, mul-le-mul_left g (w.forward_most t h)));
    ufr_most = omega (arith, w.ufr_most, a.same_ufr);
  }

pub same_base : (g : ℕ) (c d : Curve) → Agree g c d → BaseWithin d → BaseWithin c
same_base g c d a w = record {
  within = same-within g c d a w.within;
  base_least = λ t h. omega (arith, mul-le-mul_left g (w.base_least t h), a.same_n, a.same_p t h);
  base_most = λ t h. omega (arith, mul-le-mul_left g (w.base_most t h), a.same_n, a.same_p t h);
  base_forward_least = λ t h.
      rw (a.same_p t (omega arith), a.same_p (suc t) h, a.same_n) (omega (arith, mul-le-mul_left g (w.base_forward_least t h)));
  base_forward_most = λ t h.
      rw (a.same_p t (omega arith), a.same_p (suc t) h, a.same_n) (omega (arith, mul-le-mul_left g (w.base_forward_most t h)));
}
