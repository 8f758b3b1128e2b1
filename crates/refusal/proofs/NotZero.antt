-- A refusal has a number, which is not 0.
use Rattle.std.proofs.Common.{◌≡◌, ◌≤◌, arith, refl}
use Rattle.std.specs.Prelude.{Option, Some, None}
use Rattle.refusal.specs.Numbered.{number_of, number_in}
use Rattle.refusal.specs.declared.Refusal.{Refusal}
use Rattle.refusal.specs.declared.Refusal.TheVariants.{EndsEarly, BytesFollow, WrongFields, DayCount, Rate, Forward, FlowCount, Flow, Ufr, Amount, Shock, People, Buffers, Room, WindowFull, WindowEmpty, History, Month, MonthsUfr, Damaged}

pub some_number : (e : Refusal) → 1 ≤ number_of e
some_number EndsEarly = omega arith
some_number BytesFollow = omega arith
some_number WrongFields = omega arith
some_number DayCount = omega arith
some_number Rate = omega arith
some_number Forward = omega arith
some_number FlowCount = omega arith
some_number Flow = omega arith
some_number Ufr = omega arith
some_number Amount = omega arith
some_number Shock = omega arith
some_number People = omega arith
some_number Buffers = omega arith
some_number Room = omega arith
some_number WindowFull = omega arith
some_number WindowEmpty = omega arith
some_number History = omega arith
some_number Month = omega arith
some_number MonthsUfr = omega arith
some_number Damaged = omega arith

-- so the number 0 is that of nothing
pub none-numbered : (o : Option Refusal) → number_in o ≡ 0 → o ≡ None
none-numbered None h = refl
none-numbered (Some e) h = let never : ⊥ = omega (arith, some_number e) in absurd never
