-- The unadjusted factor of a term, from the sums of a curve: in range, and what the definition has. Assumes nothing.
use Prim.Native.Nat.{ℕ, suc, ◌≤◌}
use mathlib.Core.Path.{◌≡◌, refl, ap, sym, ◌∙◌}
use mathlib.Core.List.{List, ◌++◌}
use native.Mathlib.Omega.{arith}
use native.Mathlib.Nat.{lt_of_le_of_lt}
use lib.Dec.{lit<}
use lib.ListN.{get_or, drop}
use Rattle.arith.specs.Rounding.{End}
use Rattle.method.specs.Rounded as Rounded
use Rattle.method.specs.Rounded.{scaled}
use Rattle.model.specs.Numbers.{table}
use Rattle.arith.specs.Brackets.{bracket}
use Rattle.arith.specs.declared.bracket.Bracket.{Bracket}
use Rattle.theory.proofs.curve.Growth.{P_pos}
use Rattle.theory.proofs.curve.Factor.{rounded-factor-to-20}
use Rattle.theory.proofs.curve.Unadjusted.{unadjusted-is, years-size}
use Rattle.theory.proofs.general.ByEnds.{by-ends}
use Rattle.theory.proofs.general.Lists.{table_same}
use Rattle.curves.specs.declared.sums.CurveSums.{CurveSums}
use Rattle.curves.specs.inner.Shifted.{curve_of}
use Rattle.curves.specs.inner.ByTerm.{brackets}
use Rattle.curves.specs.inner.Ranges.{ScaledWithin, FactorsWithin}
use Rattle.curves.proofs.Curves.{N-of, P-of, sum-most}

pub unadjusted-within : (c : CurveSums) → FactorsWithin c → (t : ℕ) → t ≤ 60 → ScaledWithin c.n (get_or c.sums t 0) t
unfolding curve_of
unadjusted-within c w t h = record {
  few = h;
  some = rw (← P-of c t) (P_pos (curve_of c) w.within t h);
  most = omega (arith, sum-most c w t h);
  ratio = omega (arith, N-of c, P-of c t, w.within.least t h);
  years = λ i l. rw (← P-of c t, ← N-of c) (lt_of_le_of_lt (years-size (curve_of c) w.within t i h (omega arith)) (lit< tt));
}

unadjusted-end : (c : CurveSums) (t : ℕ) (e : End) → scaled e c.n (get_or c.sums t 0) t ≡ Rounded.unadjusted (curve_of c) e t
unadjusted-end c t e = rw (unadjusted-is (curve_of c) e t, P-of c t, N-of c)

pub unadjusted-are : (c : CurveSums) (r : Bracket) (t : ℕ) → r ≡ bracket (λ e. scaled e c.n (get_or c.sums t 0) t)
    → r ≡ bracket (λ e. Rounded.unadjusted (curve_of c) e t)
unadjusted-are c r t k =
    k ∙ by-ends (λ e. scaled e c.n (get_or c.sums t 0) t) (λ e. Rounded.unadjusted (curve_of c) e t) (λ e. unadjusted-end c t e)

-- ---- the factors of the terms to 20, which are the adjusted ones, and of the later ones up to the count
front : {A : Type 0} (f : ℕ → A) → table f 120 ≡ table f 20 ++ drop 20 (table f 120)
unfolding table
front f = refl

pub first-terms : (c : CurveSums) (adjusted : List Bracket) → adjusted ≡ brackets (Rounded.factor (curve_of c)) 120
    → adjusted ≡ brackets (Rounded.unadjusted (curve_of c)) 20 ++ drop 20 adjusted
first-terms c adjusted e =
    e ∙ front (λ i. bracket (λ e. Rounded.factor (curve_of c) e (suc i)))
    ∙ ap (λ (first : List Bracket). first ++ drop 20 (brackets (Rounded.factor (curve_of c)) 120))
    (table_same (λ i. bracket (λ e. Rounded.factor (curve_of c) e (suc i))) (λ i. bracket (λ e. Rounded.unadjusted (curve_of c) e (suc i))) 20
    (λ i h. by-ends (λ e. Rounded.factor (curve_of c) e (suc i)) (λ e. Rounded.unadjusted (curve_of c) e (suc i)) (λ e. rounded-factor-to-20 (curve_of c) e (suc i) h)))
    ∙ ap (λ (all : List Bracket). brackets (Rounded.unadjusted (curve_of c)) 20 ++ drop 20 all) (sym e)
