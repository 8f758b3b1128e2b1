-- The promise of specs/Forms.antt used once in plain numbers: a case of two-byte days and one of four-byte days, either way round. Nothing else
-- rests on this: a promise that said less would not give it. Assumes nothing.
use Rattle.std.specs.Prelude.{◌≡◌, ◌≢◌}
use native.Mathlib.Omega.{arith}
use Rattle.model.specs.Case.{FileCase}
use Rattle.model.specs.Limits.{WithinLimits}
use Rattle.savingmodel.specs.Saving.{shortest}
use Rattle.savingmodel.specs.Forms.{FormsAreDifferent}

different-bytes : FormsAreDifferent → (k j : FileCase) → WithinLimits k → WithinLimits j → k.rate_bytes ≡ 2 → j.rate_bytes ≡ 4
    → (shortest k ≢ shortest j) × (shortest j ≢ shortest k)
different-bytes p k j w v two four = (
  p.bytes k j w v (λ same. let z : ⊥ = omega (arith, same, two, four) in z),
  p.bytes j k v w (λ same. let z : ⊥ = omega (arith, same, two, four) in z),
)
