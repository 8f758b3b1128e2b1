-- One check that fails, and what a step refuses with.
use mathlib.Core.Path.{◌≡◌, refl, ap, sym, ◌∙◌}
use mathlib.Core.Bool.{Bool, true, false}
use mathlib.Core.List.{List, [], ◌∷◌}
use Rattle.std.proofs.Common.{Some, None}
use Rattle.std.specs.Prelude.{Result, Ok, Err}
use Rattle.std.specs.Result.{result_err}
use Rattle.model.specs.Fields.{Check}
use Rattle.model.specs.Refusals.{failing}
use Rattle.fields.specs.Checks.{Checked}
use Rattle.refusal.specs.declared.Refusal.{Refusal}

-- a check that holds, and one that fails
pub check-held : (b : Bool) (n : Refusal) → failing ((b, n) ∷ []) ≡ None → b ≡ true
check-held true n h = refl
check-held false n h = cc

pub check-failed : (b : Bool) (n : Refusal) {x : Refusal} → Some x ≡ failing ((b, n) ∷ []) → b ≡ false
check-failed true n h = cc
check-failed false n h = refl

-- a check that fails, and those after it
pub refused-at : {x : Refusal} (b : Bool) {c : Bool} (n : Refusal) (behind : List Check) → Some x ≡ failing ((b, n) ∷ []) → b ≡ c
    → Some x ≡ failing ((c, n) ∷ behind)
refused-at true n behind h k = cc
refused-at false n behind h k = h ∙ ap (λ (x : Bool). failing ((x, n) ∷ behind)) k

-- what a step refuses with
pub refusal-of : {A : Type 0} (r : Result A Refusal) (cs : List Check) (Q : A → Type 0) → Checked cs Q r → result_err r ≡ failing cs
refusal-of (Ok v) cs Q h = sym h.0
refusal-of (Err e) cs Q h = h
