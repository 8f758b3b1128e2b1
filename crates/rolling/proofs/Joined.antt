-- The case that is valued is the one that holds the window's days and the other fields: the sums of the days are P(t) of its base curve. So
-- what is worked out of it is the rounded working of that case. Assumes nothing.
use Rattle.std.proofs.lemmas.Bool.{and_right}
use Prim.Native.Nat.{ℕ, zero, suc, ◌*◌, ◌-◌, ◌<◌, ◌≤◌}
use mathlib.Core.Path.{◌≡◌, refl, ap, ap₂, sym, ◌∙◌, subst}
use mathlib.Core.Bool.{true, false, ◌&&◌}
use mathlib.Core.List.{List, ◌++◌}
use native.Mathlib.Nat.{one-mul}
use native.Mathlib.Omega.{arith}
use borrow.Author.Tests.{lt-leb}
use lib.Dec.{leb}
use lib.ListN.{length, get_or, drop}
use lib.IntN.{ℤ, pos, neg_ℤ, ◌+ℤ◌, ◌-ℤ◌, ◌*ℤ◌}
use Rattle.std.specs.Prelude.{Some, None, Result, Ok, Err}
use Rattle.model.specs.Constants.{steps_per_one}
use Rattle.model.specs.Case.{FileCase, per_step, units_per_step, with_days, s}
use Rattle.method.specs.Curve.{base, curve, natural, P}
use Rattle.heldcase.specs.Held.{held}
use Rattle.model.specs.Fields.{within_z}
use Rattle.model.specs.Limits.{Between, WithinLimits}
use Rattle.model.specs.Numbers.{every, table}
use Rattle.model.specs.Refusals.{failing, forwards_right}
use Rattle.rollingmodel.specs.Rolling.{days_held, rolling_right, rolling_checks, rolling_valuation, rolling_factors_after, rolling_rates_after}
use Rattle.rollingmodel.specs.Promises.{WindowCall}
use Rattle.heldcase.specs.declared.Case.{Case}
use Rattle.model.specs.declared.figures.Valuation.{Valuation}
use Rattle.rollingmodel.specs.declared.RollingWindow.{RollingWindow}
use Rattle.theory.proofs.curve.CaseCurves.{base_sum}
use Rattle.theory.proofs.general.Lists.{table_same, every-same}
use Rattle.theory.proofs.rolling.Held.{held-count}
use Rattle.theory.proofs.rolling.Right.{right-facts}
use Rattle.fields.specs.Sums.{Bounded, sum_at, forward_right, raised}
use Rattle.fields.proofs.DaySums.{sum-bound}
use Rattle.working.specs.inner.Ranges.{CaseFits}
use Rattle.working.specs.inner.Working.{factors_on, rates_on, money_of}
use Rattle.working.proofs.HeldCase.{held_fits, held-valued}
use Rattle.refusal.specs.declared.Refusal.{Refusal}
use Rattle.refusal.specs.declared.Refusal.TheVariants.{Buffers, Damaged}
use Rattle.rolling.specs.inner.Joined.{joined}
use Rattle.rolling.proofs.Ordered.{value-27, value-13, value-long}
use Rattle.theory.proofs.rolling.Valued.{within-limits}
use Rattle.theory.proofs.rolling.Promised.{window_call}

-- ---- the sums of the days held

module _ (w : RollingWindow) (right : rolling_right w ≡ true) where
  sum : (t : ℕ) → t < 60 → get_or w.sums t (pos 0) ≡ s (days_held w) (suc t)
  sum = (right-facts w right).sums

  pub step : w.count ≡ units_per_step 2 * length (days_held w)
  step = sym (one-mul (length (days_held w)) ∙ held-count w)

  pub bounded : Bounded (10000 * w.count) w.sums
  bounded = record {
    each = λ t l.
        subst (λ z. Between (neg_ℤ (pos (10000 * w.count))) (pos (10000 * w.count)) z) (sym (sum t l))
        (subst (λ n. Between (neg_ℤ (pos (10000 * n))) (pos (10000 * n)) (s (days_held w) (suc t))) (sym step)
        (sum-bound 2 (days_held w) (right-facts w right).days t l));
  }

  -- refusal 6 by them
  pub forwards-held : every (forward_right w.count w.sums) 60 ≡ forwards_right w.count (days_held w)
  unfolding forwards_right s
  forwards-held =
      every-same _ _ 60
      (λ t l.
      ap₂ (λ a b. within_z (neg_ℤ (pos (2000 * w.count))) (pos (12000 * w.count)) (b -ℤ a)) (last t l) (ap (λ z. pos (suc t) *ℤ z) (sum t l)))
    where
      before : (t : ℕ) → t < 60 → sum_at w.sums t ≡ s (days_held w) t
      before zero l = refl
      before (suc t) l = sum t (omega arith)

      last : (t : ℕ) → t < 60 → pos t *ℤ sum_at w.sums t ≡ pos (suc t - 1) *ℤ s (days_held w) (suc t - 1)
      last t l = let e : t ≡ suc t - 1 = omega arith in ap (λ z. pos t *ℤ z) (before t l) ∙ ap (λ k. pos k *ℤ s (days_held w) k) e

  pub six-held : (u : ℕ) (sums : List ℤ) → (u ≡ w.count) × (sums ≡ w.sums) → every (forward_right u sums) 60 ≡ forwards_right w.count (days_held w)
  six-held u sums h = ap₂ (λ (n : ℕ) (xs : List ℤ). every (forward_right n xs) 60) h.0 h.1 ∙ forwards-held

  -- P(t)
  pub sums-curve : (k : FileCase) → raised w.count w.sums ≡ table (λ t. P (curve (with_days 2 (days_held w) k) base) (suc t)) 60
  unfolding per_step
  sums-curve k =
      table_same _ _ 60
      (λ t l.
      ap₂ (λ v z. natural (pos (steps_per_one * v) +ℤ z)) step (sum t l) ∙ base_sum (with_days 2 (days_held w) k) t)

-- ---- the valuation

-- of a window that is valued, a case has room for the flows
pub few-flows : (w : RollingWindow) (k : FileCase) (factors rates : ℕ) → None ≡ failing (rolling_checks w k factors rates) → (length k.pension ≤ 120) × (length k.bonds ≤ 60)
few-flows w k factors rates none = let limits = within-limits w k factors rates (sym none) in (limits.most_pension, limits.most_bonds)

pub case-holds : (w : RollingWindow) (k : FileCase) → rolling_right w ≡ true → {days : ℕ} {sums : List ℤ} {case : Case} → (days ≡ w.count) × (sums ≡ w.sums)
    → case ≡ joined k days (raised days sums) → case ≡ held (with_days 2 (days_held w) k)
unfolding held per_step
case-holds w k right is made =
    made ∙ ap₂ (λ (n : ℕ) (xs : List ℤ). joined k n (raised n xs)) is.0 is.1
    ∙ ap₂ (λ (n : ℕ) (xs : List ℕ). joined k n xs) (step w right) (sums-curve w right k)

module _ (w : RollingWindow) (k : FileCase) (f₀ : List ℕ) (z₀ : List ℤ) where
  abbrev valued : FileCase
  valued = with_days 2 (days_held w) k

  -- the contract of `value_window`: the answer, both buffers at the end, and what holds of every call
  abbrev pub Meets : Result Valuation Refusal → List ℕ → List ℤ → Type 0
  Meets answer fs zs = record {
    value : answer ≡ rolling_valuation w k (length f₀) (length z₀);
    factors : fs ≡ rolling_factors_after w k f₀ z₀;
    rates : zs ≡ rolling_rates_after w k f₀ z₀;
    call : WindowCall w k f₀ z₀;
  }

  refused-window : (r : Refusal) → failing (rolling_checks w k (length f₀) (length z₀)) ≡ Some r → Meets (Err r) f₀ z₀
  unfolding rolling_valuation rolling_factors_after rolling_rates_after
  refused-window r e = record { value = rw e; factors = rw e; rates = rw e; call = window_call w k f₀ z₀ }

  pub damaged : rolling_right w ≡ false → Meets (Err Damaged) f₀ z₀
  damaged h = refused-window Damaged (value-27 w k (length f₀) (length z₀) h)

  module _ (right : rolling_right w ≡ true) where
    short : (leb 240 (length f₀) && leb 240 (length z₀)) ≡ false → Meets (Err Buffers) f₀ z₀
    short h = refused-window Buffers (value-13 w k (length f₀) (length z₀) right h)

    pub short-factors : length f₀ < 240 → Meets (Err Buffers) f₀ z₀
    short-factors h = short (rw (lt-leb 240 (length f₀) h))

    pub short-rates : length z₀ < 240 → Meets (Err Buffers) f₀ z₀
    short-rates h = short (and_right (leb 240 (length f₀)) (leb 240 (length z₀)) (lt-leb 240 (length z₀) h))

  pub refused : 240 ≤ length f₀ → 240 ≤ length z₀ → (e : Refusal) → Some e ≡ failing (rolling_checks w k 240 240) → Meets (Err e) f₀ z₀
  refused hf hz e h = refused-window e (sym (h ∙ value-long w k (length f₀) (length z₀) hf hz))

  module _ (none : None ≡ failing (rolling_checks w k 240 240)) {case : Case} (is : case ≡ held valued) where
    limits : WithinLimits valued
    limits = within-limits w k 240 240 (sym none)

    pub case-fits : CaseFits case
    case-fits = subst CaseFits (sym is) (held_fits valued limits)

    pub valued-window : 240 ≤ length f₀ → 240 ≤ length z₀ → {v : Valuation} {factors : List ℕ} {rates : List ℤ}
        → v ≡ money_of case
        → factors ≡ factors_on case base ++ drop 240 f₀
        → rates ≡ rates_on case ++ drop 240 z₀
        → Meets (Ok v) factors rates
    unfolding rolling_valuation rolling_factors_after rolling_rates_after
    valued-window hf hz p q r =
        let (x, (y, z)) = held-valued valued limits f₀ z₀ is p q r in
        let zero = sym (none ∙ value-long w k (length f₀) (length z₀) hf hz) in
        record { value = rw zero x; factors = rw zero y; rates = rw zero z; call = window_call w k f₀ z₀ }
