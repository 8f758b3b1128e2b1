-- Each promise of specs/Promises.antt used once in plain numbers. Nothing else rests on this: a promise that said less would not give it.
-- Assumes nothing.
use Rattle.std.proofs.Common.{ℕ, ◌≡◌, Result, Err, arith}
use Rattle.std.specs.Prelude.{Option, None}
use Rattle.refusal.specs.Numbered.{number_of, number_in, answer_of}
use Rattle.refusal.specs.Promises.{EachRefusalHasItsNumber, AnswersToldWhole}
use Rattle.refusal.specs.declared.Refusal.{Refusal}
use Rattle.refusal.specs.declared.Refusal.TheVariants.{EndsEarly, Damaged}

-- the first number and the last are those of one refusal each, and 0 and 256 are of none
by-number : EachRefusalHasItsNumber → (r : Refusal) → (number_of r ≡ 1 → r ≡ EndsEarly) × (number_of r ≡ 27 → r ≡ Damaged)
by-number p r = (λ h. p.own r EndsEarly h, λ h. p.own r Damaged h)

no-number : EachRefusalHasItsNumber → (r : Refusal) → (number_of r ≡ 0 → ⊥) × (number_of r ≡ 256 → ⊥)
no-number p r = (λ h. omega (arith, p.not_zero r, h), λ h. omega (arith, p.a_byte r, h))

-- 0 says that nothing is refused
not-refused : EachRefusalHasItsNumber → (o : Option Refusal) → number_in o ≡ 0 → o ≡ None
not-refused p o h = p.none_or_own o None h

-- an answer that is told as 27
told-whole : AnswersToldWhole ℕ → (a : Result ℕ Refusal) → answer_of a ≡ Err 27 → a ≡ Err Damaged
told-whole p a h = p.whole a (Err Damaged) h
