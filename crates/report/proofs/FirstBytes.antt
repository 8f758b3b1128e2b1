-- The bytes that were read are the first of the input. Assumes nothing.
use Rattle.std.proofs.Common.{take_at, take_all, ◌≡◌, ℕ, ◌≤◌, ◌<◌, List, [], ◌++◌, Option, Some, None, IfSome, length, take, sym, ap, ◌∙◌, arith, inl, inr, append-nil, length-take-le}
use Rattle.std.specs.Io.KnownBytes.{Consumes, IsAtEnd}
use Rattle.std.proofs.Math.Nat.{eq-or-lt_of_le}

-- where the reader has no byte left, or as many as there was room for were read, these are the first of its bytes
first-bytes : (room n : ℕ) (bytes rest file : List ℕ) → length file ≡ room → n ≤ room → bytes ≡ take n file ++ rest
    → (n < length file → rest ≡ []) → take room bytes ≡ take n file
first-bytes room n bytes rest file long most lost end =
    let read : length (take n file) ≡ n = length-take-le n file (omega (arith, long, most)) in
    elim (eq-or-lt_of_le most) [
      | inl full ↦ ap (take room) lost ∙ take_at (take n file) rest room (read ∙ full)
      | inr fewer ↦
          let all : bytes ≡ take n file = lost ∙ ap (λ more. take n file ++ more) (end (omega (arith, long, fewer))) ∙ append-nil (take n file) in
          ap (take room) all ∙ take_all room (take n file) (omega (arith, read, most))
    ]

-- as many of its bytes as there is room for
pub at-front : {room : ℕ} (given left : Option (List ℕ)) (n : ℕ) (file : List ℕ) → length file ≡ room → n ≤ length file
    → Consumes given left (take n file) → (n < length file → IsAtEnd left) → IfSome given (λ bytes. take n file ≡ take room bytes)
at-front None left n file long most lost end = tt
at-front (Some bytes) None n file long most lost end = absurd lost
at-front {room} (Some bytes) (Some rest) n file long most lost end =
    sym (first-bytes room n bytes rest file long (omega (arith, long, most)) lost end)
