-- The zero rates of factors that are held as entries, term by term. Assumes nothing.
use Prim.Native.Nat.{ℕ, suc, ◌-◌, ◌≤◌, ◌<◌}
use mathlib.Core.Path.{◌≡◌, refl, ap}
use native.Mathlib.Omega.{arith}
use lib.Dec.{leb, leb→le}
use lib.ListN.{get_or}
use Rattle.arith.specs.Rounding.{End, low, high}
use Rattle.method.specs.Curve.{Curve}
use Rattle.method.specs.Rounded as Rounded
use Rattle.method.specs.Rounded.{step_at, tested, rate_of}
use Rattle.method.specs.Brackets.{largest, smallest}
use Rattle.method.specs.inner.CurveWithin.{BaseWithin}
use Rattle.theory.proofs.general.ByEnds.{end_is}
use Rattle.theory.proofs.general.Lists.{get_or-table, table_same}
use Rattle.curves.specs.inner.ByTerm.{brackets, factor_at}
use Rattle.zerorates.specs.inner.ByTerm.{rate_bracket, rate_brackets}
use Rattle.arith.specs.Brackets.{bracket, end_of}
use Rattle.theory.proofs.curve.ZeroRate.{first_passes, last-passes}
use Rattle.zerorates.specs.inner.Ranges.{RatesWithin}

module _ (f : End → ℕ → ℕ) where
  entry-is : (e : End) (t : ℕ) → 1 ≤ t → t ≤ 120 → factor_at (brackets f 120) e t ≡ f e t
  entry-is e t h k = at e (t - 1) (omega arith) (let q : suc (t - 1) ≡ t = omega arith in q)
    where
      at : (e : End) (i : ℕ) → i < 120 → suc i ≡ t → end_of (get_or (brackets f 120) i (record { lower = 0; upper = 0 })) e ≡ f e t
      at e i l q = rw (get_or-table (λ i. bracket (λ e. f e (suc i))) 120 i (record { lower = 0; upper = 0 }) l, q) (end_is (bracket (λ e. f e t)) (λ e. f e t) refl e)

  rate-of-entries : (e : End) (t : ℕ) → 1 ≤ t → t ≤ 120 → rate_of (factor_at (brackets f 120)) e t ≡ rate_of f e t
  unfolding rate_of
  rate-of-entries low t h k = ap (λ (x : ℕ). step_at (largest (λ i. leb x (tested low t i)) 22001 22001)) (entry-is high t h k)
  rate-of-entries high t h k = ap (λ (x : ℕ). step_at (smallest (λ i. leb (tested high t i) x) 0 22001 22001)) (entry-is low t h k)

  pub rates-of-entries : rate_brackets (rate_of (factor_at (brackets f 120))) 120 ≡ rate_brackets (rate_of f) 120
  rates-of-entries =
      table_same (λ i. rate_bracket (λ e. rate_of (factor_at (brackets f 120)) e (suc i))) (λ i. rate_bracket (λ e. rate_of f e (suc i))) 120
      (λ i h. rw (rate-of-entries low (suc i) (omega arith) h, rate-of-entries high (suc i) (omega arith) h))

pub entries-within : (c : Curve) → BaseWithin c → RatesWithin (brackets (Rounded.factor c) 120)
entries-within c b = record {
  lower = λ t h k. rw (entry-is (Rounded.factor c) high t h k) (leb→le (Rounded.factor c high t) (tested low t 0) (first_passes c b t k));
  upper = λ t h k. rw (entry-is (Rounded.factor c) low t h k) (leb→le (tested high t 22000) (Rounded.factor c low t) (last-passes c b t k));
}
