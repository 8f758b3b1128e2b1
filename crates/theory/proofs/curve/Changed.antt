-- A case that differs from another in one field: it stays within the limits where the new field is, and what does not read that field
-- stays as it was. The pension flows are read by no curve, and the UFR by no P(t). Assumes nothing.
use Prim.Native.Nat.{ℕ, zero, suc, ◌≤◌}
use mathlib.Core.Path.{◌≡◌, refl, ap, ap₂, ◌∙◌, fun_ext}
use mathlib.Core.Bool.{true}
use mathlib.Core.List.{List}
use lib.IntN.{ℤ, pos, ◌+ℤ◌, ◌*ℤ◌}
use lib.ListN.{length}
use Rattle.model.specs.Case.{FileCase, known_form, units_per_step, per_step, s, with_ufr, with_days, with_pension}
use Rattle.model.specs.Limits.{FlowsWithin, DaysWithin, WithinLimits}
use Rattle.method.specs.Curve.{Move, base, up, down, shift, moved_sum, curve, P}

module _ (k : FileCase) (w : WithinLimits k) where
  pub within-ufr : (ufr : ℕ) → ufr ≤ 5000 → WithinLimits (with_ufr ufr k)
  within-ufr ufr most = record {
    form = w.form;
    ufr = most;
    days = w.days;
    some_pension = w.some_pension;
    most_pension = w.most_pension;
    pension = w.pension;
    most_bonds = w.most_bonds;
    bonds = w.bonds;
    amounts = w.amounts;
    shocks = w.shocks;
    people = w.people;
  }

  pub within-days : (v : ℕ) (days : List (List ℤ)) → known_form v ≡ true → DaysWithin (units_per_step v) days → WithinLimits (with_days v days k)
  within-days v days known within = record {
    form = known;
    ufr = w.ufr;
    days = within;
    some_pension = w.some_pension;
    most_pension = w.most_pension;
    pension = w.pension;
    most_bonds = w.most_bonds;
    bonds = w.bonds;
    amounts = w.amounts;
    shocks = w.shocks;
    people = w.people;
  }

  pub within-pension : (flows : List ℕ) → 1 ≤ length flows → length flows ≤ 120 → FlowsWithin flows → WithinLimits (with_pension flows k)
  within-pension flows some most within = record {
    form = w.form;
    ufr = w.ufr;
    days = w.days;
    some_pension = some;
    most_pension = most;
    pension = within;
    most_bonds = w.most_bonds;
    bonds = w.bonds;
    amounts = w.amounts;
    shocks = w.shocks;
    people = w.people;
  }

-- the sums of a curve, by the days, what a step adds to them and the shocks alone
same_sum : (j k : FileCase) → j.days ≡ k.days → per_step j ≡ per_step k → j.shocks ≡ k.shocks → (m : Move) (t : ℕ)
    → moved_sum j m t ≡ moved_sum k m t
unfolding moved_sum
same_sum j k d u x m zero = refl
same_sum j k d u x m (suc t) =
    ap₂ (λ (days : List (List ℤ)) (v : ℕ). s days (suc t) +ℤ pos v *ℤ shift j m) d u
    ∙ ap (λ (z : ℤ). s k.days (suc t) +ℤ pos (per_step k) *ℤ z) (same-shift m)
  where
    same-shift : (m : Move) → shift j m ≡ shift k m
    same-shift base = refl
    same-shift up = rw x
    same-shift down = rw x

pub pension-curve : (flows : List ℕ) (k : FileCase) (m : Move) → curve (with_pension flows k) m ≡ curve k m
unfolding curve per_step
pension-curve flows k m =
    ap (λ (sum : ℕ → ℤ). record { N = (curve k m).N; sum = sum; ufr = k.ufr }) (fun_ext (λ t. same_sum (with_pension flows k) k refl refl refl m t))

pub ufr-P : (ufr : ℕ) (k : FileCase) (m : Move) (t : ℕ) → P (curve (with_ufr ufr k) m) t ≡ P (curve k m) t
unfolding P curve per_step
ufr-P ufr k m t = rw (same_sum (with_ufr ufr k) k refl refl refl m t)
