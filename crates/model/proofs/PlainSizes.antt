-- Each promise of specs/Sizes.antt used once in plain numbers. Nothing else rests on this: a promise that said less would not give it.
-- Assumes nothing.
use mathlib.Core.Path.{◌≡◌, sym, ◌∙◌}
use mathlib.Core.List.{List}
use Prim.Native.Nat.{ℕ}
use native.Mathlib.Omega.{arith}
use lib.ListN.{length, take}
use Rattle.std.specs.Prelude.{Some, None}
use Rattle.model.specs.Layout.{case_of}
use Rattle.model.specs.Refusals.{failing, checks, refusal}
use Rattle.model.specs.Sizes.{AcceptedFilesAreShort, LongestFileIsAccepted, FirstBytesDecide}
use Rattle.refusal.specs.declared.Refusal.{Refusal}

-- a file of 17,626 bytes is refused
one-byte-more : AcceptedFilesAreShort → (file : List ℕ) → length file ≡ 17626 → refusal file ≡ 0 → ⊥
one-byte-more p file long accepted = omega (arith, p.most file accepted, long)

-- and one of 17,625 need not be
longest-accepted : LongestFileIsAccepted → (file : List ℕ) × (refusal file ≡ 0) × (length file ≡ 17625)
longest-accepted p = (p.file, p.accepted, p.long)

-- what is read of a file of any length, with any refusal: its first 17,626 bytes
decided-by-front : FirstBytesDecide → (file : List ℕ) (r : Refusal)
    → failing (checks (take 17626 file)) ≡ Some r → failing (checks file) ≡ Some r
decided-by-front p file r h = sym (p.same_refusal file) ∙ h

accepted-by-front : FirstBytesDecide → (file : List ℕ) → failing (checks (take 17626 file)) ≡ None → failing (checks file) ≡ None
accepted-by-front p file h = sym (p.same_refusal file) ∙ h

read-whole : FirstBytesDecide → (file : List ℕ) → refusal file ≡ 0 → (take 17626 file ≡ file) × ((case_of (take 17626 file)).ufr ≡ (case_of file).ufr)
read-whole p file h = (p.all_of_it file h, rw (p.same_case file h))
