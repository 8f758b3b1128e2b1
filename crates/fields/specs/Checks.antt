-- What a step of the reading tells: the first of its checks that fails, and where none does, what was read.
use Rattle.std.specs.Prelude.{ℕ, ◌+◌, ◌*◌, ◌≡◌, List, [], ◌∷◌, slice_index, Some, None, Result, Ok, Err}
use Rattle.model.specs.Fields.{Check, reaches, within}
use Rattle.model.specs.Refusals.{failing}
use Rattle.refusal.specs.declared.Refusal.{Refusal}
use Rattle.refusal.specs.declared.Refusal.TheVariants.{EndsEarly}

-- The checks are made in order. The first that fails is the answer; where none does, Q holds of the value.
abbrev pub Checked : {A : Type 0} → List Check → (A → Type 0) → Result A Refusal → Type 0
Checked checks Q (Ok v) = (failing checks ≡ None) × Q v
Checked checks Q (Err e) = Some e ≡ failing checks

-- a count byte, the count, and the rest of the length of as many values
abbrev pub count_checks : ℕ → Refusal → ℕ → List ℕ → ℕ → List Check
count_checks most c size file at =
    (reaches file (at + 1), EndsEarly)
    ∷ (within 1 most (slice_index file at), c)
    ∷ (reaches file (at + 1 + size * slice_index file at), EndsEarly)
    ∷ []
