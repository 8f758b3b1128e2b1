-- What is promised of the numbers that offices and hosts know refusals by. All of it has to be believed: each record is the contract of a
-- function of the crate `promises`. proofs/Plain.antt uses each once in plain numbers.
use Rattle.std.specs.Prelude.{◌≤◌, ◌<◌, ◌≡◌, Option, Result}
use Rattle.refusal.specs.Numbered.{number_of, number_in, answer_of}
use Rattle.refusal.specs.declared.Refusal.{Refusal}

-- no two refusals have the same number; none has 0, by which a host knows that nothing is refused; and a number fits into a byte
pub record EachRefusalHasItsNumber : Type 0 where
  pub own : (r s : Refusal) → number_of r ≡ number_of s → r ≡ s
  pub not_zero : (r : Refusal) → 1 ≤ number_of r
  pub a_byte : (r : Refusal) → number_of r < 256
  pub none_or_own : (o p : Option Refusal) → number_in o ≡ number_in p → o ≡ p

-- so an answer that is told with the number of its refusal in place of the refusal is told whole
pub record AnswersToldWhole (T : Type 0) : Type 0 where
  pub whole : (a b : Result T Refusal) → answer_of a ≡ answer_of b → a ≡ b
