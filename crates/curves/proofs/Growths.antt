-- The growth of a term that the code weighs, from the sums of a curve: in range, and what the definition has. Assumes nothing.
use Prim.Native.Nat.{ℕ, zero, suc, ◌+◌, ◌*◌, ◌-◌, ◌^◌, ◌≤◌, ◌<◌}
use mathlib.Core.Path.{◌≡◌, ◌∙◌}
use native.Mathlib.Omega.{arith}
use native.Mathlib.Nat.{mul-le-mul_left, le_trans}
use lib.ListN.{get_or}
use Rattle.arith.specs.Rounding.{End, low, high, divide}
use Rattle.arith.proofs.Rounding.{divide-le}
use Rattle.model.specs.Constants.{unit}
use Rattle.method.specs.Curve.{Curve, weight}
use Rattle.method.specs.Rounded as Rounded
use Rattle.method.specs.Rounded.{scaled}
use Rattle.arith.specs.Brackets.{bracket, end_of}
use Rattle.arith.specs.declared.bracket.Bracket.{Bracket}
use Rattle.method.specs.inner.CurveWithin.{CurveWithin}
use Rattle.theory.proofs.curve.Steps.{ends}
use Rattle.theory.proofs.curve.Growth.{growth-suc, growth-in, G-pos, P_pos, N-pos}
use Rattle.theory.proofs.curve.Factor.{weighed-to-60, weighed-in, weighed-least, growth-fraction-pos}
use Rattle.theory.proofs.curve.Sizes.{years-most, growth-size}
use Rattle.curves.specs.declared.sums.CurveSums.{CurveSums}
use Rattle.curves.specs.inner.Shifted.{curve_of}
use Rattle.curves.specs.inner.Ranges.{GrowthWithin, WeighWithin, FactorsWithin}
use Rattle.theory.proofs.general.ByEnds.{by-ends, end_is}
use Rattle.curves.proofs.Curves.{N-of, ufr-of, P-of, ufr-most, sum-most}

-- ---- over any curve within the limits
growth-most : (c : Curve) → CurveWithin c → (e : End) (j : ℕ) → suc j ≤ 60 → Rounded.growth c e (suc j) ≤ 1332 * 10 ^ 9
growth-most c f high j h = growth-size c f j h
growth-most c f low j h = le_trans (ends (G-pos c f j h).1 (growth-in c f low j h) (growth-in c f high j h)) (growth-size c f j h)

mix-most : (e : End) (k v g u : ℕ) → k + v ≤ 1000 → g ≤ 1332 * 10 ^ 9 → u ≤ 5000 → divide e (k * g + v * (unit + u * 10 ^ 7)) 1000 ≤ 1332 * 10 ^ 9
mix-most e k v g u h l m =
    divide-le e (k * g + v * (unit + u * 10 ^ 7)) 1000 (1332 * 10 ^ 9) (omega arith)
    (omega (arith, mul-le-mul_left k l, mul-le-mul_left v m))

weights-sum : (w : ℕ) → w ≤ 1000 → (1000 - w) + w ≤ 1000
weights-sum w h = omega arith

pub weighed-most : (c : Curve) → CurveWithin c → (e : End) (j : ℕ) → suc j ≤ 60 → weight (suc j) ≤ 1000 → Rounded.weighed c e (suc j) ≤ 1332 * 10 ^ 9
weighed-most c f e j h v =
    rw (weighed-to-60 c e (suc j) h)
    (mix-most e (1000 - weight (suc j)) (weight (suc j)) (Rounded.growth c e (suc j)) c.ufr (weights-sum (weight (suc j)) v) (growth-most c f e j h) f.ufr_most)

weighed-low : (c : Curve) → CurveWithin c → (j : ℕ) → suc j ≤ 60 → 96 * 10 ^ 10 ≤ Rounded.weighed c low (suc j)
weighed-low c f j h = omega (arith, weighed-least c f j h)

pub weighed-some : (c : Curve) → CurveWithin c → (e : End) (j : ℕ) → 20 < suc j → suc j ≤ 60 → 96 * 10 ^ 10 ≤ Rounded.weighed c e (suc j)
weighed-some c f low j h l = weighed-low c f j l
weighed-some c f high j h l =
    le_trans (weighed-low c f j l) (ends (growth-fraction-pos c f j).1 (weighed-in c f low j h) (weighed-in c f high j h))

-- ---- over the code's sums
module _ (c : CurveSums) (w : FactorsWithin c) where
  -- the numbers of the growth of term t
  growth-within-suc : (j : ℕ) → suc j ≤ 60 → GrowthWithin c.n (get_or c.sums (suc j) 0) (get_or c.sums j 0) j
  growth-within-suc j h = record {
    years = record {
      few = omega arith;
      some = rw (← P-of c j) (P_pos (curve_of c) w.within j (omega arith));
      most = omega (arith, sum-most c w j (omega arith));
      ratio = omega (arith, P-of c j, P-of c (suc j), w.within.least j (omega arith), w.within.most (suc j) h);
      years = λ i l. rw (← P-of c j, ← P-of c (suc j)) (omega (arith, years-most (curve_of c) w.within j i h l));
    };
    some = rw (← N-of c) (N-pos (curve_of c) w.within);
    most = omega (arith, w.most);
    ratio = omega (arith, N-of c, P-of c (suc j), w.within.most (suc j) h);
  }

  pub growth-within : (t : ℕ) → 20 < t → t ≤ 60 → GrowthWithin c.n (get_or c.sums t 0) (get_or c.sums (t - 1) 0) (t - 1)
  growth-within zero h l = absurd (let z : ⊥ = omega arith in z)
  growth-within (suc j) h l = let e : suc j - 1 ≡ j = omega arith in rw e (growth-within-suc j l)

  -- what the code computes is the growth of the definition
  growth-end : (e : End) (j : ℕ) → divide e (scaled e (get_or c.sums (suc j) 0) (get_or c.sums j 0) j * get_or c.sums (suc j) 0) c.n ≡ Rounded.growth (curve_of c) e (suc j)
  growth-end e j = rw (growth-suc (curve_of c) e j, P-of c (suc j), P-of c j, N-of c)

  pub growth-is : (r : Bracket) (t : ℕ) → 20 < t → r ≡ bracket (λ e. divide e (scaled e (get_or c.sums t 0) (get_or c.sums (t - 1) 0) (t - 1) * get_or c.sums t 0) c.n)
      → r ≡ bracket (λ e. Rounded.growth (curve_of c) e t)
  growth-is r zero h l = absurd (let z : ⊥ = omega arith in z)
  growth-is r (suc j) h l =
      let k : suc j - 1 ≡ j = omega arith in
      let p = get_or c.sums (suc j) 0 in
      rw k at l ∙ by-ends (λ e. divide e (scaled e p (get_or c.sums j 0) j * p) c.n) (λ e. Rounded.growth (curve_of c) e (suc j)) (λ e. growth-end e j)

  pub weigh-within : (r : Bracket) (t v : ℕ) → 20 < t → t ≤ 60 → r ≡ bracket (λ e. Rounded.growth (curve_of c) e t) → v ≤ 1000 → WeighWithin r v (unit + c.ufr * 10 ^ 7)
  weigh-within r zero v h l k m = absurd (let z : ⊥ = omega arith in z)
  weigh-within r (suc j) v h l k m = record {
    lower = omega (arith, end_is r (λ e. Rounded.growth (curve_of c) e (suc j)) k low, growth-most (curve_of c) w.within low j l);
    upper = omega (arith, end_is r (λ e. Rounded.growth (curve_of c) e (suc j)) k high, growth-most (curve_of c) w.within high j l);
    weight = m;
    ufr = omega (arith, ufr-most c w);
  }

  pub weighed-is : (g r : Bracket) (t v : ℕ) → t ≤ 60 → g ≡ bracket (λ e. Rounded.growth (curve_of c) e t) → v ≡ weight t
      → r ≡ bracket (λ e. divide e ((1000 - v) * end_of g e + v * (unit + c.ufr * 10 ^ 7)) 1000)
      → r ≡ bracket (λ e. Rounded.weighed (curve_of c) e t)
  weighed-is g r t v h k m l =
      l ∙ by-ends (λ e. divide e ((1000 - v) * end_of g e + v * (unit + c.ufr * 10 ^ 7)) 1000) (λ e. Rounded.weighed (curve_of c) e t)
      (λ e. rw (weighed-to-60 (curve_of c) e t h, end_is g (λ e. Rounded.growth (curve_of c) e t) k e, m, ufr-of c))
