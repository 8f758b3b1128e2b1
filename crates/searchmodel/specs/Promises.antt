-- What is promised of the search for a zero rate. All of it has to be believed. The record is a promise: it is the contract of a function of
-- the crate `promises`, with its premises. proofs/Plain.antt uses it once more in plain numbers, so that a record that says less is refused.
use Rattle.std.specs.Prelude.{ℕ, ◌≤◌, ◌≡◌, List}
use Rattle.arith.specs.Rounding.{End}
use Rattle.model.specs.Case.{FileCase}
use Rattle.model.specs.Layout.{case_of}
use Rattle.model.specs.Limits.{WithinLimits}
use Rattle.model.specs.Refusals.{refusal}
use Rattle.method.specs.Curve.{base, curve}
use Rattle.method.specs.Rounded as Rounded
use Rattle.searchmodel.specs.Bisection.{ShortSearch}

-- The search for either end of the zero rate of every term is short: of every case within the limits, and of every accepted file. The factors
-- are those of the base curve, from which the zero rates are defined.
pub record SearchesAreShort : Type 0 where
  pub of_cases : (k : FileCase) → WithinLimits k → (e : End) (t : ℕ) → 1 ≤ t → t ≤ 120 → ShortSearch (Rounded.factor (curve k base)) e t
  pub of_files : (file : List ℕ) → refusal file ≡ 0
      → (e : End) (t : ℕ) → 1 ≤ t → t ≤ 120 → ShortSearch (Rounded.factor (curve (case_of file) base)) e t
