-- A result whose error is mapped. Assumes nothing.
use Rattle.std.proofs.Common.{◌≡◌, sym, subst, Ok, Err, Result, OnOk}
use Rattle.std.proofs.lemmas.Result.{err_from_is_err_and}
use Rattle.std.specs.Result.{MatchResult, IsErrAnd}

-- what holds where a result is good holds there with the error mapped too
pub on-mapped : {T E F P Q : Type 0} (R : E → F → Type 0) (a : Result T E) (b : Result T F) → MatchResult a (λ x. b ≡ Ok x) (λ e. IsErrAnd b (R e))
    → (P → Q) → OnOk a P → OnOk b Q
on-mapped {Q = Q} R (Ok x) b mapped f p = subst (λ r. OnOk r Q) (sym mapped) (f p)
on-mapped {Q = Q} R (Err e) b mapped f p = subst (λ r. OnOk r Q) (sym (err_from_is_err_and b mapped).1) tt
