-- What is promised of a UFR from a history of months, and of each call that finds one or values a file with it. All of it has to be believed.
-- Each record is a promise: it is the contract of a function of the crate `promises`, with its premises, or a clause of the call that it is
-- about. proofs/Plain.antt uses each once more in plain numbers, so that a record that says less is refused.
use Rattle.std.specs.Prelude.{ℕ, ◌≤◌, ◌<◌, ◌≡◌, ◌↔◌, List, length, slice_index_or, ℤ, pos, neg_ℤ, ◌*ℤ◌, Some, None, Ok, Err}
use Rattle.refusal.specs.Numbered.{refused_by}
use Rattle.refusal.specs.declared.Refusal.{Refusal}
use Rattle.model.specs.Numbers.{Bytes}
use Rattle.model.specs.Case.{with_ufr}
use Rattle.model.specs.Limits.{Between}
use Rattle.model.specs.Layout.{Keeps, case_of}
use Rattle.model.specs.Refusals.{failing, refusal}
use Rattle.method.specs.Containment.{ContainmentAndWidth}
use Rattle.method.specs.Buffers.{valuation_checks, refusal_number}
use Rattle.method.specs.Promises.{given, Untouched, CaseValued}
use Rattle.monthsmodel.specs.Months.{months_of, oldest_first, total, hundreds, Nearest, rounded_ufr, history_checks, ufr_refusal, ufr_found, ufr_answer}
use Rattle.monthsmodel.specs.Months.{months_checks, months_refusal, months_case, months_valuation, months_factors_after, months_rates_after}
use Rattle.monthsmodel.specs.Months.{with_ufr_field, ValuedWithField}
use Rattle.model.specs.declared.figures.Valuation.{Valuation}

-- ---- the UFR found

-- "The UFR is their mean rounded to the nearest 100 steps, halves upward": so it is of every sum of 120 months, and no other number of
-- hundreds is
pub record RoundedToHundred : Type 0 where
  pub nearest : (z : ℤ) → Nearest z (hundreds z)
  pub once : (z p q : ℤ) → Nearest z p → Nearest z q → p ≡ q

-- "The ring is summed from its first byte on, and the result equals the sum taken from the oldest month."
pub record SumFromAnyMonth : Type 0 where
  pub same : (history : List ℕ) (start : ℕ) → start < 120 → total (oldest_first start (months_of history)) ≡ total (months_of history)

-- a history that gives a UFR: a full ring, its months within the limits, and a rounded mean that is a UFR
pub record HistoryAccepted (history : List ℕ) (start : ℕ) : Type 0 where
  pub long : length history ≡ 240
  pub place : start < 120
  pub months : (i : ℕ) → i < 120 → Between (neg_ℤ (pos 1000)) (pos 10000) (slice_index_or (months_of history) i (pos 0))
  pub mean : Between (pos 0) (pos 5000) (rounded_ufr history)

pub record HistoryAcceptedExactly : Type 0 where
  pub exactly : (history : List ℕ) (start : ℕ) → (ufr_refusal history start ≡ 0) ↔ HistoryAccepted history start

-- the sum of the months of a history from the oldest on, in 120ths of a rate step
abbrev pub oldest_total : List ℕ → ℕ → ℤ
oldest_total history start = total (oldest_first start (months_of history))

-- what is found: a UFR within its limits, the multiple of 100 steps nearest to the mean of the months from the oldest on, of two the higher
pub record UfrFound (history : List ℕ) (start : ℕ) : Type 0 where
  pub answer : ufr_answer history start ≡ Ok (ufr_found history)
  pub most : ufr_found history ≤ 5000
  pub nearest : Nearest (oldest_total history start) (hundreds (oldest_total history start))
  pub found : (q : ℤ) → Nearest (oldest_total history start) q → pos (ufr_found history) ≡ pos 100 *ℤ q

pub record UfrFoundOfAll : Type 0 where
  pub found : (history : List ℕ) (start : ℕ) → ufr_refusal history start ≡ 0 → UfrFound history start

-- ---- a file that is valued with it

-- "all three after the file's own numbers", which 13 comes before
pub record OwnNumbersFirst : Type 0 where
  pub own : (file history : List ℕ) (start factors rates : ℕ) (r : Refusal) → failing (valuation_checks factors rates file) ≡ Some r
      → failing (months_checks file history start factors rates) ≡ Some r
  pub after : (file history : List ℕ) (start factors rates : ℕ) → failing (valuation_checks factors rates file) ≡ None
      → failing (months_checks file history start factors rates) ≡ failing (history_checks history start)

-- an accepted file with a UFR in its field is accepted, and its case is the file's with that UFR
pub record FieldAccepted (file : List ℕ) (ufr : ℕ) : Type 0 where
  pub accepted : refusal (with_ufr_field ufr file) ≡ 0
  pub case_read : case_of (with_ufr_field ufr file) ≡ with_ufr ufr (case_of file)

pub record FileWithFieldAccepted : Type 0 where
  pub read : (file : List ℕ) → Bytes file → refusal file ≡ 0 → (ufr : ℕ) → ufr ≤ 5000 → FieldAccepted file ufr

-- "The UFR found is used as if it stood in the file's UFR field.": of every accepted file, whether it has a UFR of its own or not, every
-- history that gives a UFR, and any two buffers
pub record MonthsValuedWithField : Type 0 where
  pub valued : (file : List ℕ) → Bytes file → refusal file ≡ 0 → (history : List ℕ) (start : ℕ) → ufr_refusal history start ≡ 0
      → (factors : List ℕ) (rates : List ℤ) → ValuedWithField file history start factors rates

-- it is valued exactly where both buffers have 240 entries, the file keeps the layout and limits, and the history gives a UFR
pub record MonthsAccepted (file history : List ℕ) (start factors rates : ℕ) : Type 0 where
  pub factors_enough : 240 ≤ factors
  pub rates_enough : 240 ≤ rates
  pub keeps : Keeps file
  pub ring : HistoryAccepted history start

pub record MonthsAcceptedExactly : Type 0 where
  pub exactly : (file : List ℕ) → Bytes file → (history : List ℕ) (start factors rates : ℕ)
      → (months_refusal file history start factors rates ≡ 0) ↔ MonthsAccepted file history start factors rates

-- containment and width hold of what is answered and written
pub record MonthsKeepContainment : Type 0 where
  pub kept : (file history : List ℕ) (start : ℕ) (factors : List ℕ) (rates : List ℤ) (v : Valuation)
      → months_valuation file history start (length factors) (length rates) ≡ Ok v
      → ContainmentAndWidth (months_case file history)
      (given v (months_factors_after file history start factors rates) (months_rates_after file history start factors rates))

-- a refusal leaves both buffers, whatever it is
abbrev pub MonthsRefused : Refusal → List ℕ → List ℕ → ℕ → List ℕ → List ℤ → Type 0
MonthsRefused r file history start factors rates =
    Untouched r (months_valuation file history start (length factors) (length rates))
    factors (months_factors_after file history start factors rates) rates (months_rates_after file history start factors rates)

pub record RefusedMonthsLeaveBuffers : Type 0 where
  pub refused : (file history : List ℕ) (start : ℕ) (factors : List ℕ) (rates : List ℤ) (r : Refusal)
      → failing (months_checks file history start (length factors) (length rates)) ≡ Some r
      → MonthsRefused r file history start factors rates

-- ---- the calls

-- every call that looks for the UFR of a history
pub record UfrCall (history : List ℕ) (start : ℕ) : Type 0 where
  -- the number of an answer: 0 for a UFR that is found
  pub number : refused_by (ufr_answer history start) ≡ ufr_refusal history start
  pub refused : (r : Refusal) → failing (history_checks history start) ≡ Some r → ufr_answer history start ≡ Err r
  pub exactly : (ufr_refusal history start ≡ 0) ↔ HistoryAccepted history start
  pub found : ufr_refusal history start ≡ 0 → UfrFound history start

-- every call that values a file with the UFR of a history
pub record MonthsCall (file history : List ℕ) (start : ℕ) (factors : List ℕ) (rates : List ℤ) : Type 0 where
  pub bytes : Bytes file
  pub number : refusal_number (months_valuation file history start (length factors) (length rates))
      ≡ months_refusal file history start (length factors) (length rates)
  pub refused : (r : Refusal) → failing (months_checks file history start (length factors) (length rates)) ≡ Some r
      → MonthsRefused r file history start factors rates
  pub exactly : (months_refusal file history start (length factors) (length rates) ≡ 0)
      ↔ MonthsAccepted file history start (length factors) (length rates)
  pub found : months_refusal file history start (length factors) (length rates) ≡ 0 → UfrFound history start
  pub valued : months_refusal file history start (length factors) (length rates) ≡ 0
      → CaseValued (months_case file history) (months_valuation file history start (length factors) (length rates))
      factors (months_factors_after file history start factors rates) rates (months_rates_after file history start factors rates)
  -- with a buffer that is too short too: 13 is then that of the file with the UFR in its field
  pub with_field : refusal file ≡ 0 → ufr_refusal history start ≡ 0 → ValuedWithField file history start factors rates
  pub field_accepted : refusal file ≡ 0 → ufr_refusal history start ≡ 0 → FieldAccepted file (ufr_found history)

-- and of all arguments
pub record EveryUfrCall : Type 0 where
  pub call : (history : List ℕ) (start : ℕ) → UfrCall history start

pub record EveryMonthsCall : Type 0 where
  pub call : (file : List ℕ) → Bytes file → (history : List ℕ) (start : ℕ) (factors : List ℕ) (rates : List ℤ)
      → MonthsCall file history start factors rates
