-- The sums of a shifted curve: each by its term, all of them, and that they fit. Assumes nothing.
use Prim.Native.Nat.{ℕ, ◌+◌, ◌*◌, ◌-◌}
use mathlib.Core.Path.{◌≡◌}
use mathlib.Core.List.{List}
use native.Mathlib.Numerals.{add-one}
use lib.ListN.{get_or}
use Rattle.model.specs.Constants.{steps_per_one}
use Rattle.model.specs.Numbers.{table}
use Rattle.heldcase.specs.declared.Case.{Case}
use Rattle.curves.specs.inner.Shifted.{shifted_sum, shifted_sums}

module _ (more less : ℕ) (k : Case) where
  pub sum-at : (i : ℕ) → (get_or k.sums i 0 + k.per_step * more) - k.per_step * less ≡ shifted_sum more less k (i + 1)
  unfolding shifted_sum
  sum-at i = rw (add-one i)

  pub all-sums : (l : List ℕ) → l ≡ table (shifted_sum more less k) 61 → record { n = steps_per_one * k.per_step; sums = l; ufr = k.ufr } ≡ shifted_sums more less k
  unfolding shifted_sums
  all-sums l e = rw e
