-- Each number is that of one refusal, so two answers that are the same by the numbers of their refusals are the same; what is promised of that.
-- Assumes nothing.
use Rattle.std.proofs.Common.{ℕ, ◌<◌, cond, eqb, Result, Ok, Err, ◌≡◌, ◌∙◌, refl, sym, ap, arith}
use Rattle.std.specs.Prelude.{Option, Some, None}
use Rattle.refusal.specs.Numbered.{number_of, number_in, answer_of}
use Rattle.refusal.specs.Promises.{EachRefusalHasItsNumber, AnswersToldWhole}
use Rattle.refusal.proofs.NotZero.{some_number, none-numbered}
use Rattle.refusal.specs.declared.Refusal.{Refusal}
use Rattle.refusal.specs.declared.Refusal.TheVariants.{EndsEarly, BytesFollow, WrongFields, DayCount, Rate, Forward, FlowCount, Flow, Ufr, Amount, Shock, People, Buffers, Room, WindowFull, WindowEmpty, History, Month, MonthsUfr, Damaged}

abbrev refusal_from : ℕ → Refusal
refusal_from n =
    cond (eqb n 1) EndsEarly
    (cond (eqb n 2) BytesFollow
    (cond (eqb n 3) WrongFields
    (cond (eqb n 4) DayCount
    (cond (eqb n 5) Rate
    (cond (eqb n 6) Forward
    (cond (eqb n 7) FlowCount
    (cond (eqb n 8) Flow
    (cond (eqb n 9) Ufr
    (cond (eqb n 10) Amount
    (cond (eqb n 11) Shock
    (cond (eqb n 12) People
    (cond (eqb n 13) Buffers
    (cond (eqb n 14) Room
    (cond (eqb n 15) WindowFull
    (cond (eqb n 16) WindowEmpty
    (cond (eqb n 17) History
    (cond (eqb n 18) Month
    (cond (eqb n 19) MonthsUfr
    Damaged))))))))))))))))))

-- no library knows these refusals, so this is by their cases
same : (r : Refusal) → refusal_from (number_of r) ≡ r
same EndsEarly = refl
same BytesFollow = refl
same WrongFields = refl
same DayCount = refl
same Rate = refl
same Forward = refl
same FlowCount = refl
same Flow = refl
same Ufr = refl
same Amount = refl
same Shock = refl
same People = refl
same Buffers = refl
same Room = refl
same WindowFull = refl
same WindowEmpty = refl
same History = refl
same Month = refl
same MonthsUfr = refl
same Damaged = refl

pub number_of-injective : (r s : Refusal) → number_of r ≡ number_of s → r ≡ s
number_of-injective r s e = sym (same r) ∙ ap refusal_from e ∙ same s

module _ {T : Type 0} where
  abbrev answer_from : Result T ℕ → Result T Refusal
  answer_from (Ok x) = Ok x
  answer_from (Err n) = Err (refusal_from n)

  same-answer : (a : Result T Refusal) → answer_from (answer_of a) ≡ a
  same-answer (Ok x) = refl
  same-answer (Err r) = ap (λ (s : Refusal). Err s) (same r)

  pub answer_of-injective : (a b : Result T Refusal) → answer_of a ≡ answer_of b → a ≡ b
  answer_of-injective a b e = sym (same-answer a) ∙ ap answer_from e ∙ same-answer b

in_a_byte : (r : Refusal) → number_of r < 256
in_a_byte EndsEarly = omega arith
in_a_byte BytesFollow = omega arith
in_a_byte WrongFields = omega arith
in_a_byte DayCount = omega arith
in_a_byte Rate = omega arith
in_a_byte Forward = omega arith
in_a_byte FlowCount = omega arith
in_a_byte Flow = omega arith
in_a_byte Ufr = omega arith
in_a_byte Amount = omega arith
in_a_byte Shock = omega arith
in_a_byte People = omega arith
in_a_byte Buffers = omega arith
in_a_byte Room = omega arith
in_a_byte WindowFull = omega arith
in_a_byte WindowEmpty = omega arith
in_a_byte History = omega arith
in_a_byte Month = omega arith
in_a_byte MonthsUfr = omega arith
in_a_byte Damaged = omega arith

none-or-own : (o p : Option Refusal) → number_in o ≡ number_in p → o ≡ p
none-or-own None p h = sym (none-numbered p (sym h))
none-or-own (Some r) None h = none-numbered (Some r) h
none-or-own (Some r) (Some s) h = ap (λ (t : Refusal). Some t) (number_of-injective r s h)

pub each_refusal_has_its_number : EachRefusalHasItsNumber
each_refusal_has_its_number = record { own = number_of-injective; not_zero = some_number; a_byte = in_a_byte; none_or_own = none-or-own }

pub answers_told_whole : {T : Type 0} → AnswersToldWhole T
answers_told_whole = record { whole = answer_of-injective }
