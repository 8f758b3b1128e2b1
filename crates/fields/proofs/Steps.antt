-- A step of a reading or of a check after others.
use Rattle.std.proofs.Common.{◌≡◌, ◌∙◌, ◌++◌, ap, sym}
use Rattle.std.specs.Prelude.{List, Option, Some, None, Result, Ok, Err, IsErr, IsErrAnd}
use Rattle.model.specs.Fields.{Check}
use Rattle.fields.specs.Checks.{Checked}
use Rattle.model.specs.Refusals.{failing}
use Rattle.theory.proofs.acceptance.Checks.{fails-first, holds-first}
use Rattle.refusal.specs.declared.Refusal.{Refusal}

-- the answer of a `?` that gives up
pub refused : {A : Type 0} (r : Result A Refusal) (e : Refusal) → IsErr r × IsErrAnd r (λ f. f ≡ e) → r ≡ Err e
refused (Ok v) e h = absurd h.1
refused (Err f) e h = ap Err h.1

-- where checks hold, the first that fails is that of the rest; where one fails, the rest does not matter
pub go : {x : Option Refusal} (cs ds : List Check) → failing cs ≡ None → x ≡ failing ds → x ≡ failing (cs ++ ds)
go cs ds h k = k ∙ sym (holds-first cs ds h)

pub stop : (e : Refusal) (cs ds : List Check) → Some e ≡ failing cs → Some e ≡ failing (cs ++ ds)
stop e cs ds h = sym (fails-first cs ds e (sym h))

-- a step whose answer is that of its last part, after checks that hold
pub behind-checks : {A M : Type 0} (x : A) (cs ds : List Check) → failing cs ≡ None → M → (r : Result A Refusal) → Checked ds (λ v. v ≡ x) r
    → Checked (cs ++ ds) (λ v. (v ≡ x) × M) r
behind-checks x cs ds h m (Ok v) k = (sym (go cs ds h (sym k.0)), (k.1, m))
behind-checks x cs ds h m (Err e) k = go cs ds h k
