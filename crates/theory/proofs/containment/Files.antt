-- What holds of every list of bytes that is accepted: its case is within the limits, and containment and width are proved of every such
-- case.
-- Assumes nothing.
use mathlib.Core.Path.{◌≡◌}
use mathlib.Core.List.{List}
use Prim.Native.Nat.{ℕ}
use Rattle.model.specs.Layout.{case_of}
use Rattle.model.specs.Refusals.{refusal}
use Rattle.method.specs.Containment.{Given, ContainmentAndWidth}
use Rattle.method.specs.Promises.{IsRounded}
use Rattle.theory.proofs.acceptance.Acceptance.{within-limits}
use Rattle.theory.proofs.containment.Proved.{containment}

-- containment and width, from the bytes
pub containment-of-files : (file : List ℕ) → refusal file ≡ 0 → (given : Given) → IsRounded (case_of file) given → ContainmentAndWidth (case_of file) given
containment-of-files file h = containment (case_of file) (within-limits file h)
