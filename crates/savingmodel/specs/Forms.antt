-- What is promised of cases with different days fields. It has to be believed. proofs/PlainForms.antt uses it once more in plain numbers.
use Rattle.std.specs.Prelude.{◌≢◌}
use Rattle.model.specs.Case.{FileCase}
use Rattle.model.specs.Limits.{WithinLimits}
use Rattle.savingmodel.specs.Saving.{shortest}

-- "cases with different days fields count as different": they are saved as different bytes
pub record FormsAreDifferent : Type 0 where
  pub bytes : (k j : FileCase) → WithinLimits k → WithinLimits j → k.rate_bytes ≢ j.rate_bytes → shortest k ≢ shortest j
