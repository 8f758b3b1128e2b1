-- What the code asks of a case that fits, and its figures by the factors of its curves. Assumes nothing.
use Prim.Native.Nat.{ℕ, suc, ◌*◌, ◌≤◌, ◌<◌}
use mathlib.Core.Path.{◌≡◌, refl, ap, sym, ◌∙◌, fun_ext}
use mathlib.Core.List.{List, ◌++◌}
use native.Mathlib.Omega.{arith}
use native.Mathlib.Nat.{le_trans}
use lib.Dec.{lit≤}
use lib.IntN.{ℤ}
use lib.ListN.{length, get_or, length-append}
use Rattle.arith.specs.Rounding.{End}
use Rattle.arith.specs.Brackets.{bracket}
use Rattle.arith.specs.declared.bracket.Bracket.{Bracket}
use Rattle.method.specs.Curve.{Curve, Move, base, up, down, P}
use Rattle.method.specs.inner.Shifts.{added, taken}
use Rattle.method.specs.Rounded as Rounded
use Rattle.method.specs.Rounded.{worth, rate_of}
use Rattle.heldcase.specs.declared.Case.{Case}
use Rattle.theory.proofs.general.Lists.{length-table, get_or-table}
use Rattle.theory.proofs.general.ByEnds.{by-ends, end_is}
use Rattle.theory.proofs.curve.Unadjusted.{unadjusted-most}
use Rattle.theory.proofs.money.MoneySizes.{factor-most}
use Rattle.theory.proofs.money.Worth.{same-worth}
use Rattle.curves.specs.inner.Shifted.{shifted_sum, shifted_sums, curve_of, moved_sums, curve_held}
use Rattle.curves.specs.inner.ByTerm.{brackets, factor_at}
use Rattle.curves.specs.inner.Ranges.{ShiftWithin, FactorsWithin}
use Rattle.curves.specs.declared.sums.CurveSums.{CurveSums}
use Rattle.curves.proofs.Curves.{N-of, P-of}
use Rattle.curves.proofs.ByTerm.{factor-at, factor-in}
use Rattle.zerorates.proofs.RateEntries.{rates-of-entries, entries-within}
use Rattle.curves.specs.declared.three.Three.{Three}
use Rattle.curves.specs.inner.Three.{on}
use Rattle.money.specs.inner.OnCurves.{ends}
use Rattle.money.specs.inner.ByWorths.{money_by}
use Rattle.money.specs.inner.Ranges.{FlowsFit, FactorsFit}
use Rattle.model.specs.declared.figures.Valuation.{Valuation}
use Rattle.working.specs.inner.Working.{sums_on, adjusted_by, factors_on, rates_on, owed, bonds, money_of}
use Rattle.method.specs.inner.CurveWithin.{CurveWithin}
use Rattle.zerorates.specs.inner.Ranges.{RatesWithin}
use Rattle.zerorates.specs.inner.ByTerm.{rate_bracket, rate_brackets}
use Rattle.working.specs.inner.Entries.{entries}
use Rattle.working.proofs.Entries.{entries-by}
use Rattle.zerorates.specs.declared.rates.RateBracket.{RateBracket}
use Rattle.working.specs.inner.Ranges.{CaseFits}

-- ---- the curves
-- the base curve's sums are the case's own
base_sum : (c : Case) (i : ℕ) → i < 60 → P (curve_held c base) (suc i) ≡ get_or c.sums i 0
unfolding shifted_sums shifted_sum
base_sum c i h = P-of (moved_sums base c) (suc i) ∙ get_or-table (shifted_sum 0 0 c) 61 (suc i) 0 (omega arith) ∙ omega arith

N-held : (c : Case) (m : Move) → (curve_held c m).N ≡ 100000 * c.per_step
unfolding shifted_sums
N-held c m = N-of (moved_sums m c)

module _ {c : Case} (h : CaseFits c) where
  shift-most : (m : Move) → (added c.shocks m ≤ 1000) × (taken c.shocks m ≤ 1000)
  shift-most base = (omega arith, omega arith)
  shift-most up = (h.shocks.up_shift, omega arith)
  shift-most down = (omega arith, h.shocks.down_shift)

  pub shift-within : (m : Move) → ShiftWithin c (added c.shocks m) (taken c.shocks m)
  shift-within m = record {
    per_step = h.per_step;
    least = λ i l. omega (arith, h.base.base_least (suc i) l, base_sum c i l, N-held c base);
    most = λ i l. omega (arith, h.base.base_most (suc i) l, base_sum c i l, N-held c base);
    more_most = (shift-most m).0;
    less_most = (shift-most m).1;
  }

  pub sums-within : (m : Move) → FactorsWithin (moved_sums m c)
  sums-within m = record { within = h.curves m; most = omega (arith, N-of (moved_sums m c), N-held c m, h.per_step) }

  pub rates-within : (factors : List Bracket) → factors ≡ brackets (Rounded.factor (curve_held c base)) 120 → RatesWithin factors
  rates-within factors e = rw e (entries-within (curve_held c base) h.base)

-- ---- what flows are worth, by the factors of a curve
pub adjusted-fit : (c : Curve) → CurveWithin c → (factors : List Bracket) (count : ℕ) → count ≤ 120 → factors ≡ brackets (Rounded.factor c) 120 → FactorsFit factors count
adjusted-fit c w factors count l e = rw e (record {
  terms = rw (length-table (λ i. bracket (λ e. Rounded.factor c e (suc i))) 120) l;
  factor = λ e t i k. rw (factor-at (Rounded.factor c) 120 e t i (le_trans k l)) (le_trans (factor-most c w e t) (lit≤ tt));
})

pub adjusted-worth : (c : Curve) (factors : List Bracket) (flows : List ℕ) → length flows ≤ 120 → factors ≡ brackets (Rounded.factor c) 120 → (r : Bracket)
    → r ≡ bracket (λ e. worth e (factor_at factors e) 1 flows) → r ≡ bracket (λ e. worth e (Rounded.factor c e) 1 flows)
adjusted-worth c factors flows l e r p =
    p ∙ by-ends (λ e. worth e (factor_at factors e) 1 flows) (λ e. worth e (Rounded.factor c e) 1 flows)
    (λ end. same-worth 120 end (factor_at factors end) (Rounded.factor c end) (λ t i k. rw e (factor-at (Rounded.factor c) 120 end t i k)) 1 flows (omega arith) (omega arith))

-- the unadjusted factors of the terms to n, and others after them
abbrev Behind : Curve → ℕ → List Bracket → List Bracket → Type 0
Behind c n later factors = factors ≡ brackets (Rounded.unadjusted c) n ++ later

pub unadjusted-fit : (c : Curve) → CurveWithin c → (factors later : List Bracket) (n count : ℕ) → count ≤ n → count ≤ 60 → Behind c n later factors → FactorsFit factors count
unadjusted-fit c w factors later n count l m e = rw e (record {
  terms = omega (arith, length-append (brackets (Rounded.unadjusted c) n) later, length-table (λ i. bracket (λ e. Rounded.unadjusted c e (suc i))) n);
  factor = λ e t i k. rw (factor-in (Rounded.unadjusted c) n later e t i (le_trans k l)) (unadjusted-most c w e t (le_trans k m));
})

pub unadjusted-worth : (c : Curve) (factors later : List Bracket) (n : ℕ) (flows : List ℕ) → length flows ≤ n → Behind c n later factors → (r : Bracket)
    → r ≡ bracket (λ e. worth e (factor_at factors e) 1 flows) → r ≡ bracket (λ e. worth e (Rounded.unadjusted c e) 1 flows)
unadjusted-worth c factors later n flows l e r p =
    p ∙ by-ends (λ e. worth e (factor_at factors e) 1 flows) (λ e. worth e (Rounded.unadjusted c e) 1 flows)
    (λ end. same-worth n end (factor_at factors end) (Rounded.unadjusted c end) (λ t i k. rw e (factor-in (Rounded.unadjusted c) n later end t i k)) 1 flows (omega arith) (omega arith))

-- ---- the factors and the worths on the three curves
ends-are : (w : Three Bracket) (f : Move → End → ℕ) → ((m : Move) → on w m ≡ bracket (f m)) → ends w ≡ f
ends-are w f h = fun_ext (λ m. fun_ext (λ e. at m e))
  where
    at : (m : Move) (e : End) → ends w m e ≡ f m e
    at base e = end_is w.base (f base) (h base) e
    at up e = end_is w.up (f up) (h up) e
    at down e = end_is w.down (f down) (h down) e

module _ {c : Case} (h : CaseFits c) (s : Three CurveSums) (e : s ≡ sums_on c) where
  sums-on : (m : Move) → on s m ≡ moved_sums m c
  sums-on base = ap (λ (x : Three CurveSums). x.base) e
  sums-on up = ap (λ (x : Three CurveSums). x.up) e
  sums-on down = ap (λ (x : Three CurveSums). x.down) e

  -- the factors of a curve
  pub sums-fit : (m : Move) (x : CurveSums) → x ≡ on s m → FactorsWithin x
  sums-fit m x p = rw (p, sums-on m) (sums-within h m)

  pub adjusted-is : (a : Three (List Bracket)) → ((m : Move) → on a m ≡ brackets (Rounded.factor (curve_of (on s m))) 120) → a ≡ adjusted_by s
  adjusted-is a k = rw (k base, k up, k down)

  module _ (a : Three (List Bracket)) (k : a ≡ adjusted_by s) where
    by-sums : (m : Move) → on a m ≡ brackets (Rounded.factor (curve_of (on s m))) 120
    by-sums base = ap (λ (x : Three (List Bracket)). x.base) k
    by-sums up = ap (λ (x : Three (List Bracket)). x.up) k
    by-sums down = ap (λ (x : Three (List Bracket)). x.down) k

    pub adjusted-on : (m : Move) → on a m ≡ brackets (Rounded.factor (curve_held c m)) 120
    adjusted-on m = by-sums m ∙ ap (λ (x : CurveSums). brackets (Rounded.factor (curve_of x)) 120) (sums-on m)

    pub owed-fit : (m : Move) (factors : List Bracket) → factors ≡ on a m → (flows : List ℕ) → flows ≡ c.pension
        → FlowsFit flows × FactorsFit factors (length flows)
    owed-fit m factors p flows f = rw f (h.pension, adjusted-fit (curve_held c m) (h.curves m) factors _ h.pension.few (p ∙ adjusted-on m))

    pub owed-is : (m : Move) (factors : List Bracket) → factors ≡ on a m → (flows : List ℕ) → flows ≡ c.pension → (r : Bracket)
        → r ≡ bracket (λ e. worth e (factor_at factors e) 1 flows) → r ≡ bracket (owed (λ m. Rounded.factor (curve_held c m)) c m)
    owed-is m factors p flows f r q = adjusted-worth (curve_held c m) factors c.pension h.pension.few (p ∙ adjusted-on m) r (rw f at q)

    pub bonds-fit : (m : Move) (x : CurveSums) (factors : List Bracket) → x ≡ on s m → factors ≡ on a m → (flows : List ℕ) → flows ≡ c.bonds
        → FlowsFit flows × FactorsWithin x × (length flows ≤ 60) × (factors ≡ brackets (Rounded.factor (curve_of x)) 120)
    bonds-fit m x factors p q flows f = rw f (
      h.bonds,
      sums-fit m x p,
      h.bond_terms,
      q ∙ by-sums m ∙ ap (λ (y : CurveSums). brackets (Rounded.factor (curve_of y)) 120) (sym p),
    )

  pub bonds-are : (m : Move) (x : CurveSums) → x ≡ on s m → (flows : List ℕ) → flows ≡ c.bonds → (r : Bracket)
      → r ≡ bracket (λ e. worth e (Rounded.unadjusted (curve_of x) e) 1 flows) → r ≡ bracket (bonds (λ m. Rounded.unadjusted (curve_held c m)) c m)
  bonds-are m x p flows f r q = rw (p, sums-on m, f) at q

pub money-is : (c : Case) (l b : Three Bracket) → ((m : Move) → on l m ≡ bracket (owed (λ m. Rounded.factor (curve_held c m)) c m))
    → ((m : Move) → on b m ≡ bracket (bonds (λ m. Rounded.unadjusted (curve_held c m)) c m))
    → (r : Valuation) → r ≡ money_by (ends l) (ends b) c.amounts c.shocks c.people → r ≡ money_of c
money-is c l b p q r k =
    k ∙ ap (λ (f : Move → End → ℕ). money_by f (ends b) c.amounts c.shocks c.people) (ends-are l (owed (λ m. Rounded.factor (curve_held c m)) c) p)
    ∙ ap (λ (f : Move → End → ℕ). money_by (owed (λ m. Rounded.factor (curve_held c m)) c) f c.amounts c.shocks c.people) (ends-are b (bonds (λ m. Rounded.unadjusted (curve_held c m)) c) q)

-- the factors of sums that are those of a curve
pub adjusted-by : (x y : CurveSums) → x ≡ y → (factors : List Bracket) → factors ≡ brackets (Rounded.factor (curve_of x)) 120 → factors ≡ brackets (Rounded.factor (curve_of y)) 120
adjusted-by x y p factors k = rw p at k

-- ---- both buffers at the end
module _ (c : Case) (h : CaseFits c) (factors : List Bracket) (is : factors ≡ brackets (Rounded.factor (curve_held c base)) 120) where
  pub base-within : RatesWithin factors
  base-within = rates-within h factors is

  pub factors-lent : (out : List ℕ) → out ≡ entries (λ (b : Bracket). b.lower) (λ (b : Bracket). b.upper) factors → out ≡ factors_on c base
  factors-lent out e =
      let by = entries-by (λ (b : Bracket). b.lower) (λ (b : Bracket). b.upper) (Rounded.factor (curve_held c base)) (λ i. bracket (λ e. Rounded.factor (curve_held c base) e (suc i)))
      (λ i. refl) (λ i. refl) 120 in
      rw (is, by) at e

  pub rates-lent : (rates : List RateBracket) → rates ≡ rate_brackets (rate_of (factor_at factors)) 120 → (out : List ℤ)
      → out ≡ entries (λ (b : RateBracket). b.lower) (λ (b : RateBracket). b.upper) rates → out ≡ rates_on c
  rates-lent rates k out e =
      let own : rates ≡ rate_brackets (Rounded.zero_rate (curve_held c base)) 120 = rw is at k ∙ rates-of-entries (Rounded.factor (curve_held c base)) in
      let by = entries-by (λ (b : RateBracket). b.lower) (λ (b : RateBracket). b.upper) (Rounded.zero_rate (curve_held c base)) (λ i. rate_bracket (λ e. Rounded.zero_rate (curve_held c base) e (suc i)))
      (λ i. refl) (λ i. refl) 120 in
      rw (own, by) at e
