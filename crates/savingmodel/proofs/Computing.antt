-- What the computed statements of this crate compute with: the definitions of specs/, and those of the crates below it. Assumes nothing.
use Prim.Native.Nat.{ℕ}
use Rattle.model.proofs.Computing as Model
use Rattle.savingmodel.specs.Saving.{days_of, shortest, case_checks, case_refusal, save_refusal, save_answer, saved_after}

unfoldable pub all : ℕ
unfolding
    Model.all
    days_of shortest case_checks case_refusal save_refusal save_answer saved_after
all = 0
