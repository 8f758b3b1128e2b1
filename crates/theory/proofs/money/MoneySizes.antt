-- How large the money figures become: every end lies below 2^53, so that a double holds it. Each limit of a file bounds one number of a
-- product, no adjusted factor passes 2.2 and no unadjusted one 3.4, and a root of squares with a correlation of at most 1 is at most the sum of its parts.
-- Assumes nothing.
use Prim.Native.Nat.{ℕ, ◌+◌, ◌*◌, ◌^◌, ◌≤◌, max}
use native.Mathlib.Omega.{arith}
use native.Mathlib.Nat.{mul-le-mul, mul-le-mul_left, mul-le-mul_right, le_trans, le_refl}
use Rattle.std.proofs.lemmas.Nat.{mul-le}
use lib.Dec.{lit<, lit≤}
use Rattle.arith.specs.Rounding.{End, low, high}
use Rattle.arith.specs.Root.{root}
use Rattle.arith.proofs.Rounding.{divide-le}
use Rattle.arith.proofs.Root.{root-le}
use Rattle.model.specs.Case.{FileCase, age_gap}
use Rattle.model.specs.Limits.{WithinLimits}
use Rattle.method.specs.Curve.{Curve, Move, base, up, down, curve}
use Rattle.method.specs.Rounded as Rounded
use Rattle.method.specs.Rounded.{class_squares, mortality, buffer}
use Rattle.method.specs.inner.CurveWithin.{CurveWithin}
use Rattle.theory.proofs.curve.CaseCurves.{curve-within}
use Rattle.theory.proofs.curve.Factor.{factor-ends}
use Rattle.theory.proofs.curve.Sizes.{factor-size}
use Rattle.theory.proofs.curve.Unadjusted.{unadjusted-most}
use Rattle.theory.proofs.money.Worth.{worth-most}
use Rattle.theory.proofs.money.MoneyWidth.{share}

-- at both ends
pub factor-most : (c : Curve) → CurveWithin c → (e : End) (t : ℕ) → Rounded.factor c e t ≤ 22 * 10 ^ 11
factor-most c f high t = factor-size c f t
factor-most c f low t = le_trans (factor-ends c f t) (factor-size c f t)

-- the root of a sum of squares, with a correlation of at most 1, is at most the sum
buffer-most : (e : End) (c a1 a2 a3 a4 a5 a6 : ℕ) → c ≤ 1000 → buffer e c a1 a2 a3 a4 a5 a6 ≤ a1 + a2 + a3 + a4 + a5 + a6
buffer-most e c a1 a2 a3 a4 a5 a6 h =
    root-le e (1000 * (a1 * a1 + a2 * a2 + a3 * a3 + a4 * a4 + a5 * a5 + a6 * a6) + 2 * c * (a1 * a2)) 1000 (a1 + a2 + a3 + a4 + a5 + a6) (omega arith)
    (omega (arith, mul-le-mul_right (a1 * a2) h))

-- four losses of at most 10^14 tenths of a cent each, with a correlation of at most 1: the root of their squares is at most their sum, and
-- so at most 4 × 10^13 cents
pub classes-sum : (c m e v p : ℕ) → c ≤ 1000 → class_squares c m e v p ≤ 1000 * ((m + e + v + p) * (m + e + v + p))
classes-sum c m e v p h = omega (arith, mul-le-mul_right (m * e + m * v + m * p + e * v + e * p + v * p) h)

pub classes-most : (end : End) (c m e v p : ℕ) → c ≤ 1000 → m ≤ 10 ^ 14 → e ≤ 10 ^ 14 → v ≤ 10 ^ 14 → p ≤ 10 ^ 14
    → root end (class_squares c m e v p) 100000 ≤ 40 * 10 ^ 12
classes-most end c m e v p hc hm he hv hp =
    let s : m + e + v + p ≤ 4 * 10 ^ 14 = omega arith in
    root-le end (class_squares c m e v p) 100000 (40 * 10 ^ 12) (lit< tt)
    (le_trans (classes-sum c m e v p hc) (le_trans (mul-le-mul_left 1000 (mul-le-mul s s)) (lit≤ tt)))

module _ (k : FileCase) (w : WithinLimits k) where
  pub L-most : (m : Move) (e : End) → Rounded.L k m e ≤ 264 * 10 ^ 10
  L-most m e =
      let c : Curve = curve k m in
      omega (
        arith,
        worth-most 22 120 e (Rounded.factor c e) (λ t h. factor-most c (curve-within k w m) e t) 1 k.pension (omega (arith, w.most_pension)) w.pension.each,
        w.most_pension,
      )

  pub B-most : (m : Move) (e : End) → Rounded.B k m e ≤ 204 * 10 ^ 10
  B-most m e =
      let c : Curve = curve k m in
      omega (
        arith,
        worth-most 34 60 e (Rounded.unadjusted c e) (λ t h. unadjusted-most c (curve-within k w m) e t h) 1 k.bonds (omega (arith, w.most_bonds)) w.bonds.each,
        w.most_bonds,
      )

  pub A-most : (e : End) → Rounded.A k e ≤ 73 * 10 ^ 12
  A-most e =
      let a = w.amounts in
      omega (arith, B-most base e, a.mature, a.emerging, a.private, a.property, a.commodities, a.credit, a.cash)

  pub S1-most : (e : End) → Rounded.S1 k e ≤ 468 * 10 ^ 10
  S1-most e = most2 (Rounded.fall k up e) (Rounded.fall k down e) (468 * 10 ^ 10) (fall-most up e) (fall-most down e)
    where
      fall-most : (m : Move) (e : End) → Rounded.fall k m e ≤ 468 * 10 ^ 10
      fall-most m e = omega (arith, B-most base e, L-most m e)

      most2 : (a b c : ℕ) → a ≤ c → b ≤ c → max 0 (max a b) ≤ c
      most2 a b c h k = omega arith

  pub S2-most : (e : End) → Rounded.S2 k e ≤ 40 * 10 ^ 12
  S2-most e =
      let a = k.amounts in
      let x = k.shocks in
      classes-most e x.equity_correlation (a.mature * x.mature_fall) (a.emerging * x.emerging_fall) (a.private * x.private_fall)
      (a.property * x.property_fall) w.shocks.equity_correlation
      (mul-le a.mature x.mature_fall 100000000000 1000 w.amounts.mature w.shocks.mature_fall)
      (mul-le a.emerging x.emerging_fall 100000000000 1000 w.amounts.emerging w.shocks.emerging_fall)
      (mul-le a.private x.private_fall 100000000000 1000 w.amounts.private w.shocks.private_fall)
      (mul-le a.property x.property_fall 100000000000 1000 w.amounts.property w.shocks.property_fall)

  pub S3-most : (e : End) → Rounded.S3 k e ≤ 10 * 10 ^ 12
  S3-most e =
      divide-le e (100 * (k.amounts.currency * k.shocks.currency_fall)) 1000 (10 * 10 ^ 12) (omega arith)
      (omega (arith, mul-le k.amounts.currency k.shocks.currency_fall 100000000000 1000 w.amounts.currency w.shocks.currency_fall))

  pub S4-most : (e : End) → Rounded.S4 k e ≤ 10 * 10 ^ 12
  S4-most e =
      divide-le e (100 * (k.amounts.commodities * k.shocks.commodities_fall)) 1000 (10 * 10 ^ 12) (omega arith)
      (omega (arith, mul-le k.amounts.commodities k.shocks.commodities_fall 100000000000 1000 w.amounts.commodities w.shocks.commodities_fall))

  pub S5-most : (e : End) → Rounded.S5 k e ≤ 50 * 10 ^ 12
  S5-most e =
      let x = k.shocks in
      divide-le e (100 * (k.amounts.credit * x.duration * x.spread * x.spread_rise)) (10 ^ 9) (50 * 10 ^ 12) (omega arith)
      (le_trans
      (mul-le-mul_left 100 (mul-le-mul (mul-le-mul (mul-le-mul w.amounts.credit w.shocks.duration) w.shocks.spread) w.shocks.spread_rise))
      (le_refl (100 * (100000000000 * 500 * 10000 * 1000))))

  pub S6-most : (e : End) → Rounded.S6 k e ≤ Rounded.L k base e
  S6-most e =
      let h : ℕ = k.people.heads in
      let d : ℕ = age_gap k.people in
      let l : ℕ = Rounded.L k base e in
      root-le e (l * l * mortality h d) (256000000 * h) l (omega (arith, w.people.some))
      (mul-le-mul_left (l * l) (share h d w.people.some (omega (arith, w.people.pension_age))))

  pub S-most : (e : End) → Rounded.S k e ≤ 118 * 10 ^ 12
  S-most e =
      omega (
        arith,
        buffer-most e k.shocks.correlation (Rounded.S1 k e) (Rounded.S2 k e) (Rounded.S3 k e) (Rounded.S4 k e) (Rounded.S5 k e) (Rounded.S6 k e) w.shocks.correlation,
        S1-most e,
        S2-most e,
        S3-most e,
        S4-most e,
        S5-most e,
        S6-most e,
        L-most base e,
      )
