-- The three curves that the code makes of a case that it holds are those of the case. Assumes nothing.
use Prim.Native.Nat.{ℕ, zero, suc, ◌≤◌, ◌<◌}
use mathlib.Core.Path.{◌≡◌, refl, sym, ◌∙◌}
use native.Mathlib.Nat.{one-mul}
use native.Mathlib.Omega.{arith}
use lib.Dec.{lit<}
use lib.ListN.{get_or}
use Rattle.model.specs.Case.{FileCase, per_step}
use Rattle.model.specs.Limits.{WithinLimits}
use Rattle.method.specs.Curve.{Move, base, curve, P}
use Rattle.method.specs.inner.Shifts.{added, taken}
use Rattle.heldcase.specs.Held.{held}
use Rattle.method.specs.Rounded as Rounded
use Rattle.theory.proofs.general.Lists.{get_or-table}
use Rattle.method.specs.inner.CurveWithin.{CurveWithin, BaseWithin}
use Rattle.theory.proofs.curve.CaseCurves.{N-is, ufr-is, P-zero, P-shifted, per-step-most, curve-within, base-within}
use Rattle.curves.specs.inner.Shifted.{shifted_sum, shifted_sums, moved_sums, curve_held}
use Rattle.curves.proofs.Curves.{N-of, ufr-of, P-of}
use Rattle.theory.proofs.curve.Agree.{Agree, same-factors, same-within, same_base}

-- ---- the curves of a case
module _ (k : FileCase) (w : WithinLimits k) where
  -- ---- the case as the engine holds it
  held-per-step : (held k).per_step ≡ per_step k
  unfolding held
  held-per-step = refl

  held-sum : (i : ℕ) → i < 60 → get_or (held k).sums i 0 ≡ P (curve k base) (suc i)
  unfolding held
  held-sum i h = get_or-table (λ j. P (curve k base) (suc j)) 60 i 0 h

  -- the sums that the code makes of it
  shifted-is : (m : Move) (t : ℕ) → t ≤ 60 → shifted_sum (added k.shocks m) (taken k.shocks m) (held k) t ≡ P (curve k m) t
  unfolding shifted_sum
  shifted-is m zero h = rw (P-zero k w m, held-per-step)
  shifted-is m (suc i) h = rw (P-shifted k w m i h, held-sum i h, held-per-step)

  pub held-agree : (m : Move) → Agree 1 (curve_held (held k) m) (curve k m)
  unfolding shifted_sums held
  held-agree m = record {
    some = lit< tt;
    same_n = N-of (moved_sums m (held k)) ∙ sym (N-is k w m) ∙ sym (one-mul (curve k m).N);
    same_p = λ t h. P-of (moved_sums m (held k)) t ∙ get_or-table (shifted_sum (added k.shocks m) (taken k.shocks m) (held k)) 61 t 0 (omega arith) ∙ shifted-is m t h
        ∙ sym (one-mul (P (curve k m) t));
    same_ufr = ufr-of (moved_sums m (held k)) ∙ sym (ufr-is k w m);
  }

  -- ---- what is cited of it
  pub held-per-step-most : (held k).per_step ≤ 7000
  held-per-step-most = omega (arith, held-per-step, per-step-most k w)

  pub held-curve-within : (m : Move) → CurveWithin (curve_held (held k) m)
  held-curve-within m = same-within 1 (curve_held (held k) m) (curve k m) (held-agree m) (curve-within k w m)

  pub held-base-within : BaseWithin (curve_held (held k) base)
  held-base-within = same_base 1 (curve_held (held k) base) (curve k base) (held-agree base) (base-within k w)

  pub held-factor : (m : Move) → Rounded.factor (curve_held (held k) m) ≡ Rounded.factor (curve k m)
  held-factor m = same-factors 1 (curve_held (held k) m) (curve k m) (held-agree m) (curve-within k w m)
