-- What a file is valued at, and what is told and printed of an input whose bytes are known. Assumes nothing.
use Rattle.std.specs.Prelude.{ℕ, ◌≡◌, List, Option, Some, None, IfSome, pos, replicate, take, Result, Ok, Err}
use Rattle.std.specs.Io.KnownBytes.{Appends}
use Rattle.model.specs.Layout.{case_of}
use Rattle.model.specs.Refusals.{failing, checks}
use Rattle.model.specs.Sizes.{deciding_bytes}
use Rattle.model.specs.declared.figures.Valuation.{Valuation}
use Rattle.method.specs.Buffers.{answered}
use Rattle.method.specs.Listing.{listing}
use Rattle.method.specs.Promises.{FiguresCall}
use Rattle.monthsmodel.specs.Months.{months_valuation}
use Rattle.monthsmodel.specs.Promises.{MonthsCall}
use Rattle.refusal.specs.Numbered.{answer_of}
use Rattle.refusal.specs.declared.Refusal.{Refusal}
use Rattle.report.specs.Numbered.{numbers_with}
use Rattle.report.specs.declared.input.History.{History}
use Rattle.report.specs.declared.input.Told.{Told}

-- the valuation of a file, with its own UFR or with that of a history of months
abbrev pub valuation_with : Option History → List ℕ → Result Valuation Refusal
valuation_with None file = answered (failing (checks file)) (case_of file)
valuation_with (Some months) file = months_valuation file months.bytes.now months.start 240 240

-- a file is the first bytes of an input, as many as decide about all of it
abbrev pub IsFront : Option (List ℕ) → List ℕ → Type 0
IsFront input file = IfSome input (λ bytes. file ≡ take deciding_bytes bytes)

-- what is told of a file: its valuation, and the numbers of its case
pub record Tells (history : Option History) (file : List ℕ) (told : Told) : Type 0 where
  pub valuation : told.valuation ≡ valuation_with history file
  pub numbers : told.numbers ≡ numbers_with history file

-- the same of an input: of all its bytes, however many
abbrev pub IsTold : Option (List ℕ) → Option History → Told → Type 0
IsTold input history told = IfSome input (λ bytes. Tells history bytes told)

-- what a writer holds before and after: the listing of all bytes of an input more
abbrev pub Printed : Option History → Option (List ℕ) → Option (List ℕ) → Option (List ℕ) → Type 0
Printed history input before after = IfSome input (λ bytes. Appends before after (listing (answer_of (valuation_with history bytes))))

-- the status of an answer: 1 for a refusal, else 0
abbrev pub ended : Result Valuation Refusal → ℕ
ended (Ok v) = 0
ended (Err r) = 1

abbrev pub HasStatus : Option History → Option (List ℕ) → ℕ → Type 0
HasStatus history input status = IfSome input (λ bytes. status ≡ ended (valuation_with history bytes))

-- ---- what is promised of what is told and printed

-- of a file that is valued with its own UFR: what the engine answers without buffers, and all that it promises of that
pub record OwnCall (file : List ℕ) (answer : Result Valuation Refusal) : Type 0 where
  pub value : answer ≡ answered (failing (checks file)) (case_of file)
  pub call : FiguresCall file

-- of one that is valued with a history: what the call with buffers of 240 entries, all 0, answers, and all that is promised of that
pub record CallWithMonths (months : History) (file : List ℕ) (answer : Result Valuation Refusal) : Type 0 where
  pub value : answer ≡ months_valuation file months.bytes.now months.start 240 240
  pub call : MonthsCall file months.bytes.now months.start (replicate 240 0) (replicate 240 (pos 0))

abbrev pub ValuedCall : Option History → List ℕ → Result Valuation Refusal → Type 0
ValuedCall None file answer = OwnCall file answer
ValuedCall (Some months) file answer = CallWithMonths months file answer

-- the same of an input: of the bytes that decide, and of the answer for all of it
abbrev pub IsPromised : Option History → Option (List ℕ) → Type 0
IsPromised history input = IfSome input (λ bytes. ValuedCall history (take deciding_bytes bytes) (valuation_with history bytes))
