-- One factor from the one before it, from the sums of a curve: in range, and what the definition has. Assumes nothing.
use Prim.Native.Nat.{ℕ, zero, suc, ◌+◌, ◌*◌, ◌-◌, ◌^◌, ◌≤◌, ◌<◌}
use mathlib.Core.Path.{◌≡◌, refl, sym, ◌∙◌}
use native.Mathlib.Omega.{arith}
use lib.Dec.{lit<}
use lib.ListN.{get_or}
use Rattle.arith.specs.Rounding.{End, low, high, other, divide}
use Rattle.arith.proofs.Rounding.{divide-common}
use Rattle.model.specs.Constants.{unit, steps_per_one}
use Rattle.method.specs.Rounded as Rounded
use Rattle.method.specs.Rounded.{scaled}
use Rattle.arith.specs.Brackets.{bracket, end_of}
use Rattle.arith.specs.declared.bracket.Bracket.{Bracket}
use Rattle.arith.specs.declared.ratio.Ratio.{Ratio}
use Rattle.theory.proofs.curve.Factor.{rounded-factor-to-20, rounded-factor-next, weighed-from-61}
use Rattle.theory.proofs.money.MoneySizes.{factor-most}
use Rattle.curves.specs.declared.sums.CurveSums.{CurveSums}
use Rattle.curves.specs.inner.Shifted.{curve_of}
use Rattle.arith.specs.inner.Range.{InRange, UpTo, Crosswise}
use Rattle.curves.specs.inner.Ranges.{FactorsWithin, NextWithin}
use Rattle.theory.proofs.general.ByEnds.{by-ends, end_is}
use Rattle.curves.proofs.Weighing.{weight-of-most}
use Rattle.curves.proofs.UnadjustedLaws.{unadjusted-are}
use Rattle.curves.proofs.Growths.{weighed-most, weighed-some}

pub no-factor : (c : CurveSums) → record { lower = unit; upper = unit } ≡ bracket (λ e. Rounded.factor (curve_of c) e 0)
unfolding Rounded.factor
no-factor c = refl

pub low_end : (c : CurveSums) (f : Bracket) (t : ℕ) → f ≡ bracket (λ e. Rounded.factor (curve_of c) e t) → f.lower ≡ Rounded.factor (curve_of c) low t
low_end c f t k = end_is f (λ e. Rounded.factor (curve_of c) e t) k low

pub high_end : (c : CurveSums) (f : Bracket) (t : ℕ) → f ≡ bracket (λ e. Rounded.factor (curve_of c) e t) → f.upper ≡ Rounded.factor (curve_of c) high t
high_end c f t k = end_is f (λ e. Rounded.factor (curve_of c) e t) k high

-- to 20: the unadjusted factor
pub first-is : (c : CurveSums) (r : Bracket) (t : ℕ) → t ≤ 20 → r ≡ bracket (λ e. scaled e c.n (get_or c.sums t 0) t)
    → r ≡ bracket (λ e. Rounded.factor (curve_of c) e t)
first-is c r t h k =
    unadjusted-are c r t k
    ∙ by-ends (λ e. Rounded.unadjusted (curve_of c) e t) (λ e. Rounded.factor (curve_of c) e t) (λ e. sym (rounded-factor-to-20 (curve_of c) e t h))

-- from 21 to 60
cross-end : (x g : ℕ) → x ≤ 22 * 10 ^ 11 → 96 * 10 ^ 10 ≤ g → g ≤ 1332 * 10 ^ 9 → InRange x unit g
cross-end x g h k l = record { left = omega arith; right = lit< tt; some = omega arith; most = omega arith; fits = omega arith }

cross-suc : (c : CurveSums) → FactorsWithin c → (f g : Bracket) (j : ℕ) → 20 < suc j → suc j ≤ 60 → f ≡ bracket (λ e. Rounded.factor (curve_of c) e j)
    → g ≡ bracket (λ e. Rounded.weighed (curve_of c) e (suc j)) → Crosswise InRange f unit g
cross-suc c w f g j h m k l =
    let factor = λ (e : End). rw (← end_is f (λ e. Rounded.factor (curve_of c) e j) k e) at (factor-most (curve_of c) w.within e j) in
    let least = λ (e : End). rw (← end_is g (λ e. Rounded.weighed (curve_of c) e (suc j)) l e) at (weighed-some (curve_of c) w.within e j h m) in
    let most = λ (e : End). rw (← end_is g (λ e. Rounded.weighed (curve_of c) e (suc j)) l e) at (weighed-most (curve_of c) w.within e j m (weight-of-most (suc j))) in
    record { lower = cross-end f.lower g.upper (factor low) (least high) (most high); upper = cross-end f.upper g.lower (factor high) (least low) (most low) }

pub cross-within : (c : CurveSums) (late : Ratio) (f g : Bracket) (t : ℕ) → NextWithin c late f t → 20 < t → t ≤ 60 → g ≡ bracket (λ e. Rounded.weighed (curve_of c) e t)
    → Crosswise InRange f unit g
cross-within c late f g zero w h m l = absurd (let z : ⊥ = omega arith in z)
cross-within c late f g (suc j) w h m l = let k : suc j - 1 ≡ j = omega arith in cross-suc c w.curve f g j h m (rw k at w.before) l

pub next-is : (c : CurveSums) (late : Ratio) (f g r : Bracket) (t : ℕ) → NextWithin c late f t → 20 < t → g ≡ bracket (λ e. Rounded.weighed (curve_of c) e t)
    → r ≡ bracket (λ e. divide e (end_of f e * unit) (end_of g (other e))) → r ≡ bracket (λ e. Rounded.factor (curve_of c) e t)
next-is c late f g r zero w h l m = absurd (let z : ⊥ = omega arith in z)
next-is c late f g r (suc j) w h l m =
    let k : suc j - 1 ≡ j = omega arith in
    let p : f ≡ bracket (λ e. Rounded.factor (curve_of c) e j) = rw k at w.before in
    m ∙ by-ends (λ e. divide e (end_of f e * unit) (end_of g (other e))) (λ e. Rounded.factor (curve_of c) e (suc j))
    (λ e. rw (rounded-factor-next (curve_of c) e j h, end_is f (λ e. Rounded.factor (curve_of c) e j) p e, end_is g (λ e. Rounded.weighed (curve_of c) e (suc j)) l (other e)))

-- from 61: 10^12 over the UFR growth is 100,000 over 100,000 and the UFR
ufr-reduced : (e : End) (x u : ℕ) → divide e (x * steps_per_one) (steps_per_one + u) ≡ divide e (x * unit) (unit + u * 10 ^ 7)
ufr-reduced e x u =
    let a : 10 ^ 7 * (x * steps_per_one) ≡ x * unit = omega arith in
    let b : 10 ^ 7 * (steps_per_one + u) ≡ unit + u * 10 ^ 7 = omega arith in
    sym (rw (a, b) at (divide-common e (10 ^ 7) (x * steps_per_one) (steps_per_one + u) (lit< tt) (omega arith)))

late-suc : (c : CurveSums) → FactorsWithin c → (f : Bracket) (j : ℕ) → f ≡ bracket (λ e. Rounded.factor (curve_of c) e j) → UpTo (2 ^ 46 - 1) f
late-suc c w f j k = record {
  lower = omega (arith, low_end c f j k, factor-most (curve_of c) w.within low j);
  upper = omega (arith, high_end c f j k, factor-most (curve_of c) w.within high j);
}

pub late-within : (c : CurveSums) (late : Ratio) (f : Bracket) (t : ℕ) → NextWithin c late f t → UpTo (2 ^ 46 - 1) f
late-within c late f t w = late-suc c w.curve f (t - 1) w.before

pub late_is : (c : CurveSums) (late : Ratio) (f r : Bracket) (t : ℕ) → NextWithin c late f t → 60 < t
    → r ≡ bracket (λ e. divide e (end_of f e * late.dividend) late.divisor) → r ≡ bracket (λ e. Rounded.factor (curve_of c) e t)
unfolding curve_of
late_is c late f r zero w h l = absurd (let z : ⊥ = omega arith in z)
late_is c late f r (suc j) w h l =
    let k : suc j - 1 ≡ j = omega arith in
    let p : f ≡ bracket (λ e. Rounded.factor (curve_of c) e j) = rw k at w.before in
    rw (w.dividend, w.divisor) at l
    ∙ by-ends (λ e. divide e (end_of f e * steps_per_one) (steps_per_one + c.ufr)) (λ e. Rounded.factor (curve_of c) e (suc j))
    (λ e. rw (rounded-factor-next (curve_of c) e j (omega arith), weighed-from-61 (curve_of c) (other e) (suc j) h, end_is f (λ e. Rounded.factor (curve_of c) e j) p e)
    (ufr-reduced e (Rounded.factor (curve_of c) e j) c.ufr))

-- the factor of the next term may be asked for
pub next-within : (c : CurveSums) (late : Ratio) (f : Bracket) (t : ℕ) → FactorsWithin c → late.dividend ≡ steps_per_one → late.divisor ≡ steps_per_one + c.ufr
    → f ≡ bracket (λ e. Rounded.factor (curve_of c) e t) → NextWithin c late f (t + 1)
next-within c late f t w p q k =
    let e : t + 1 - 1 ≡ t = omega arith in record { curve = w; dividend = p; divisor = q; some = omega arith; before = rw e k }
