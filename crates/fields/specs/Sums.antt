-- The sums of the rates over the days.
use Rattle.std.specs.Prelude.{ℕ, zero, suc, ◌*◌, ◌<◌, ◌≡◌, Bool, List, [], ◌∷◌, ◌++◌, length, slice_index_or, ℤ, pos, neg_ℤ, ◌+ℤ◌, ◌-ℤ◌, ◌*ℤ◌}
use Rattle.refusal.specs.declared.Refusal.TheVariants.{Forward}
use Rattle.model.specs.Numbers.{table}
use Rattle.model.specs.Constants.{steps_per_one}
use Rattle.model.specs.Case.{units_per_step, s}
use Rattle.model.specs.Limits.{Between}
use Rattle.model.specs.Fields.{Check, within_z}
use Rattle.model.specs.Layout.{days}
use Rattle.model.specs.Refusals.{forwards_right}
use Rattle.method.specs.Curve.{natural}

-- none of the 60 sums is further from 0
pub record Bounded (most : ℕ) (sums : List ℤ) : Type 0 where
  pub each : (t : ℕ) → t < 60 → Between (neg_ℤ (pos most)) (pos most) (slice_index_or sums t (pos 0))

-- each sum with the rate of its term
abbrev pub added : List ℤ → List ℤ → List ℤ
added sums rates = table (λ t. slice_index_or sums t (pos 0) +ℤ slice_index_or rates t (pos 0)) 60

-- s(t) of the terms 1 to 60
abbrev pub sums_of : List (List ℤ) → List ℤ
sums_of ds = table (λ t. s ds (suc t)) 60

-- the sums of the days ds, each of whose rates has w bytes, and what a step adds to them
pub record Sums (w : ℕ) (ds : List (List ℤ)) (per_step : ℕ) (sums : List ℤ) : Type 0 where
  pub step : per_step ≡ units_per_step w * length ds
  pub terms : sums ≡ sums_of ds

-- P(t), of the sums of the terms from 1 on
abbrev pub raised : ℕ → List ℤ → List ℕ
raised per_step sums = table (λ t. natural (pos (steps_per_one * per_step) +ℤ slice_index_or sums t (pos 0))) 60

-- s(t), of the sums of the terms from 1 on
abbrev pub sum_at : List ℤ → ℕ → ℤ
sum_at sums zero = pos 0
sum_at sums (suc t) = slice_index_or sums t (pos 0)

-- t × s(t) - (t - 1) × s(t-1) at the term t + 1 is within the limits of 6, where a step adds `per_step` to a sum
abbrev pub difference_right : ℕ → ℤ → ℤ → Bool
difference_right per_step last next = within_z (neg_ℤ (pos (2000 * per_step))) (pos (12000 * per_step)) (next -ℤ last)

abbrev pub forward_right : ℕ → List ℤ → ℕ → Bool
forward_right per_step sums t = difference_right per_step (pos t *ℤ sum_at sums t) (pos (suc t) *ℤ slice_index_or sums t (pos 0))

-- the limits of days whose rates have w bytes, and then that of their forward rates
abbrev pub days_checks : ℕ → List (List ℤ) → List Check
days_checks w ds = (days w).limits ds ++ ((forwards_right (units_per_step w * length ds) ds, Forward) ∷ [])
