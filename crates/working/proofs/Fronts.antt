-- The front of a lent buffer, of 240 entries, where there are this many. Assumes nothing.
use Rattle.std.proofs.Common.{◌≡◌, List, ◌++◌, drop, ℕ}
use Rattle.std.proofs.lemmas.List.{take-append-drop}
use Rattle.std.specs.Array.{IsFirstChunk}

-- a front that nothing is written to leaves the buffer as it was
pub unwritten : {A : Type 0} {held front : List A} {n : ℕ} → IsFirstChunk held front n → front ++ drop n held ≡ held
unwritten {n} is = rw is.same (take-append-drop n _)
