-- The number that offices and hosts know a refusal by, and that of an answer: 0 where nothing is refused.
use Rattle.std.specs.Prelude.{ℕ, Result, Ok, Err, Option, Some, None}
use Rattle.refusal.specs.declared.Refusal.{Refusal}
use Rattle.refusal.specs.declared.Refusal.TheVariants.{EndsEarly, BytesFollow, WrongFields, DayCount, Rate, Forward, FlowCount, Flow, Ufr, Amount, Shock, People, Buffers, Room, WindowFull, WindowEmpty, History, Month, MonthsUfr, Damaged}

abbrev pub number_of : Refusal → ℕ
number_of EndsEarly = 1
number_of BytesFollow = 2
number_of WrongFields = 3
number_of DayCount = 4
number_of Rate = 5
number_of Forward = 6
number_of FlowCount = 7
number_of Flow = 8
number_of Ufr = 9
number_of Amount = 10
number_of Shock = 11
number_of People = 12
number_of Buffers = 13
number_of Room = 14
number_of WindowFull = 15
number_of WindowEmpty = 16
number_of History = 17
number_of Month = 18
number_of MonthsUfr = 19
number_of Damaged = 27

-- that of what is refused, if anything is
abbrev pub number_in : Option Refusal → ℕ
number_in None = 0
number_in (Some r) = number_of r

abbrev pub refused_by : {T : Type 0} → Result T Refusal → ℕ
refused_by (Ok _) = 0
refused_by (Err r) = number_of r

-- an answer with the number of its refusal in place of the refusal
abbrev pub answer_of : {T : Type 0} → Result T Refusal → Result T ℕ
answer_of (Ok x) = Ok x
answer_of (Err r) = Err (number_of r)
