-- What is promised of a rolling window of days, and of each call that changes or values one. All of it has to be believed. Each record is a
-- promise: it is the contract of a function of the crate `promises`, with its premises, or a clause of the call that it is about.
-- proofs/Plain.antt uses each once more in plain numbers, so that a record that says less is refused.
use Rattle.std.specs.Prelude.{ℕ, suc, ◌≤◌, ◌<◌, ◌≡◌, ◌≢◌, ◌↔◌, true, false, List, [], ◌∷◌, ◌++◌, length, slice_index_or, drop, ℤ, pos, Some, Ok}
use Rattle.refusal.specs.declared.Refusal.{Refusal}
use Rattle.model.specs.Case.{FileCase, with_days, s}
use Rattle.model.specs.Limits.{DayWithin, DaysWithin, WithinLimits}
use Rattle.model.specs.Fields.{right_all}
use Rattle.model.specs.Layout.{day, Present, Agrees, file_of}
use Rattle.model.specs.Refusals.{failing}
use Rattle.method.specs.Containment.{ContainmentAndWidth}
use Rattle.method.specs.Buffers.{refusal_number}
use Rattle.method.specs.Promises.{given, Untouched, CaseValued}
use Rattle.savingmodel.specs.Saving.{case_refusal}
use Rattle.rollingmodel.specs.Rolling.{slot, days_held, empty_window, rolling_right, add_refusal, drop_refusal, with_day_in, add_day, drop_day}
use Rattle.rollingmodel.specs.Rolling.{Change, changed_by, queued_by, HoldsAfter}
use Rattle.rollingmodel.specs.Rolling.{rolling_checks, rolling_refusal, rolling_valuation, rolling_factors_after, rolling_rates_after, ValuedAsFile}
use Rattle.model.specs.declared.figures.Valuation.{Valuation}
use Rattle.rollingmodel.specs.declared.RollingWindow.{RollingWindow}

-- ---- what a window holds

-- 27 does not apply: up to 70 days from a slot of the ring on, their rates within the limits, and each stored sum is that of the days held
pub record Right (w : RollingWindow) : Type 0 where
  pub count : w.count ≤ 70
  pub start : w.start < 70
  pub days : right_all (day 2) (days_held w) ≡ true
  pub sums : (t : ℕ) → t < 60 → slice_index_or w.sums t (pos 0) ≡ s (days_held w) (suc t)

pub record RightExactly : Type 0 where
  pub facts : (w : RollingWindow) → rolling_right w ≡ true → Right w
  pub test : (w : RollingWindow) → Right w → rolling_right w ≡ true

-- a right window of 70 slots of 60 rates, and the days that it holds, oldest first
pub record Holds (w : RollingWindow) (days : List (List ℤ)) : Type 0 where
  pub long : length w.rates ≡ 4200
  pub right : Right w
  pub held : days_held w ≡ days

pub record EmptyHoldsNothing : Type 0 where
  pub right : rolling_right empty_window ≡ true
  pub holds : Holds empty_window []

-- "After every list of additions and drops from an empty window, it holds the days added and not dropped, oldest first, each stored sum is
-- that of the days held", and 27 does not apply to it
pub record ChangesHold : Type 0 where
  pub after : (cs : List Change) → HoldsAfter cs

-- the same after every list of changes of a window that holds some days
pub record ChangesOfRightHold : Type 0 where
  pub after : (cs : List Change) (w : RollingWindow) (days : List (List ℤ)) → Holds w days → Holds (changed_by w cs) (queued_by days cs)

-- ---- refusals

-- "27 .. ahead of all, also of 13", and it is given of no other window
pub record DamagedAheadOfAll : Type 0 where
  pub adding : (w : RollingWindow) (new : List ℤ) → (add_refusal w new ≡ 27) ↔ (rolling_right w ≡ false)
  pub dropping : (w : RollingWindow) → (drop_refusal w ≡ 27) ↔ (rolling_right w ≡ false)
  pub valuing : (w : RollingWindow) (k : FileCase) (factors rates : ℕ) → (rolling_refusal w k factors rates ≡ 27) ↔ (rolling_right w ≡ false)

-- "15 for a day added to a window of 70, before its rates are looked at": of a right one, and of no other
pub record FullExactly : Type 0 where
  pub full : (w : RollingWindow) (new : List ℤ) → (add_refusal w new ≡ 15) ↔ (Right w × (w.count ≡ 70))

-- "16 for a drop from an empty window": of a right one, and of no other
pub record EmptyExactly : Type 0 where
  pub empty : (w : RollingWindow) → (drop_refusal w ≡ 16) ↔ (Right w × (w.count ≡ 0))

-- "A refused call changes nothing.": whatever it is refused with, the window that is given back is the very one that was handed in
pub record RefusedChangesNothing : Type 0 where
  pub adding : (w : RollingWindow) (new : List ℤ) → add_refusal w new ≢ 0 → add_day w new ≡ record { refusal = add_refusal w new; window = w }
  pub dropping : (w : RollingWindow) → drop_refusal w ≢ 0 → drop_day w ≡ record { refusal = drop_refusal w; window = w }

-- ---- a window that is valued with the other fields of a case

-- the case that is valued: the other fields of the case, and the days held, whose rates have two bytes
abbrev pub window_case : RollingWindow → FileCase → FileCase
window_case w k = with_days 2 (days_held w) k

-- "valued with an accepted case's other fields gives what the file with these days gives": a right window, also an empty one, and every file
-- of these fields and days, whichever optional fields it has
pub record WindowValuedAsFile : Type 0 where
  pub valued : (w : RollingWindow) (k : FileCase) → rolling_right w ≡ true → case_refusal k ≡ 0
      → (p : Present) → Agrees p k
      → (factors : List ℕ) (rates : List ℤ) → ValuedAsFile w k (file_of p (window_case w k)) factors rates

-- it is valued exactly where 27 does not apply, both buffers have 240 entries, the case is within the limits with its own days, and the days
-- held are
pub record WindowAccepted (w : RollingWindow) (k : FileCase) (factors rates : ℕ) : Type 0 where
  pub right : Right w
  pub factors_enough : 240 ≤ factors
  pub rates_enough : 240 ≤ rates
  pub own : WithinLimits k
  pub days : DaysWithin 1 (days_held w)

pub record WindowAcceptedExactly : Type 0 where
  pub exactly : (w : RollingWindow) (k : FileCase) (factors rates : ℕ) → (rolling_refusal w k factors rates ≡ 0) ↔ WindowAccepted w k factors rates

-- containment and width hold of what is answered and written
pub record WindowKeepsContainment : Type 0 where
  pub kept : (w : RollingWindow) (k : FileCase) (factors : List ℕ) (rates : List ℤ) (v : Valuation)
      → rolling_valuation w k (length factors) (length rates) ≡ Ok v
      → ContainmentAndWidth (window_case w k) (given v (rolling_factors_after w k factors rates) (rolling_rates_after w k factors rates))

-- a refusal leaves both buffers, whatever it is
abbrev pub WindowRefused : Refusal → RollingWindow → FileCase → List ℕ → List ℤ → Type 0
WindowRefused r w k factors rates =
    Untouched r (rolling_valuation w k (length factors) (length rates)) factors (rolling_factors_after w k factors rates)
    rates (rolling_rates_after w k factors rates)

pub record RefusedWindowLeavesBuffers : Type 0 where
  pub refused : (w : RollingWindow) (k : FileCase) (factors : List ℕ) (rates : List ℤ) (r : Refusal)
      → failing (rolling_checks w k (length factors) (length rates)) ≡ Some r → WindowRefused r w k factors rates

-- ---- the place of the oldest day, and the slots that are not held

-- the two hold the same days with the same sums, each from some slot of the ring on
pub record Alike (w v : RollingWindow) : Type 0 where
  pub start : w.start < 70
  pub other_start : v.start < 70
  pub days : days_held w ≡ days_held v
  pub sums : (t : ℕ) → t < 60 → slice_index_or w.sums t (pos 0) ≡ slice_index_or v.sums t (pos 0)

-- no call tells one from the other
pub record SameAnswers (w v : RollingWindow) : Type 0 where
  pub right : rolling_right w ≡ rolling_right v
  pub adding : (new : List ℤ) → add_refusal w new ≡ add_refusal v new
  pub dropping : drop_refusal w ≡ drop_refusal v
  pub valuation : (k : FileCase) (factors rates : ℕ) → rolling_valuation w k factors rates ≡ rolling_valuation v k factors rates
  pub factors_after : (k : FileCase) (factors : List ℕ) (rates : List ℤ)
      → rolling_factors_after w k factors rates ≡ rolling_factors_after v k factors rates
  pub rates_after : (k : FileCase) (factors : List ℕ) (rates : List ℤ)
      → rolling_rates_after w k factors rates ≡ rolling_rates_after v k factors rates

pub record AlikeAnswers : Type 0 where
  pub same : (w v : RollingWindow) → Alike w v → SameAnswers w v

-- after the same changes of both they are alike again
pub record ChangesAlike : Type 0 where
  pub after : (w v : RollingWindow) → Alike w v → length w.rates ≡ 4200 → length v.rates ≡ 4200
      → (cs : List Change) → Alike (changed_by w cs) (changed_by v cs)

-- what lies in a slot that is not held makes no difference
pub record FreeSlotsAlike : Type 0 where
  pub alike : (w : RollingWindow) (new : List ℤ) → w.start < 70 → length w.rates ≡ 4200 → length new ≡ 60
      → (j : ℕ) → w.count ≤ j → j < 70
      → Alike w (record w { rates = with_day_in w.rates (slot 70 w.start j) new })

-- ---- the calls

-- a day added, when it is: to a right window of fewer than 70 days, its rates within the limits
pub record DayAdded (w : RollingWindow) (new : List ℤ) : Type 0 where
  pub right : Right w
  pub room : w.count < 70
  pub day : DayWithin 1 new

-- every call that adds a day: the window has the rates of 70 days, as its type says. What is refused is given back; else the window after it
-- is right and holds the days held before and after them the new one.
pub record AddCall (w : RollingWindow) (new : List ℤ) : Type 0 where
  pub long : length w.rates ≡ 4200
  pub refused : add_refusal w new ≢ 0 → add_day w new ≡ record { refusal = add_refusal w new; window = w }
  pub exactly : (add_refusal w new ≡ 0) ↔ DayAdded w new
  pub accepted : add_refusal w new ≡ 0 → (add_day w new).refusal ≡ 0
  pub holds : add_refusal w new ≡ 0 → Holds (add_day w new).window (days_held w ++ (new ∷ []))

-- every call that drops the oldest day: the window after it is right and holds the others
pub record DropCall (w : RollingWindow) : Type 0 where
  pub long : length w.rates ≡ 4200
  pub refused : drop_refusal w ≢ 0 → drop_day w ≡ record { refusal = drop_refusal w; window = w }
  pub exactly : (drop_refusal w ≡ 0) ↔ (Right w × (0 < w.count))
  pub accepted : drop_refusal w ≡ 0 → (drop_day w).refusal ≡ 0
  pub holds : drop_refusal w ≡ 0 → Holds (drop_day w).window (drop 1 (days_held w))

-- every call that values a window
pub record WindowCall (w : RollingWindow) (k : FileCase) (factors : List ℕ) (rates : List ℤ) : Type 0 where
  -- the number of an answer: 0 for a window that is valued
  pub number : refusal_number (rolling_valuation w k (length factors) (length rates)) ≡ rolling_refusal w k (length factors) (length rates)
  pub refused : (r : Refusal) → failing (rolling_checks w k (length factors) (length rates)) ≡ Some r → WindowRefused r w k factors rates
  pub exactly : (rolling_refusal w k (length factors) (length rates) ≡ 0) ↔ WindowAccepted w k (length factors) (length rates)
  pub valued : rolling_refusal w k (length factors) (length rates) ≡ 0
      → CaseValued (window_case w k) (rolling_valuation w k (length factors) (length rates))
      factors (rolling_factors_after w k factors rates) rates (rolling_rates_after w k factors rates)
  pub as_file : rolling_right w ≡ true → case_refusal k ≡ 0
      → (p : Present) → Agrees p k → ValuedAsFile w k (file_of p (window_case w k)) factors rates

-- and of all arguments
pub record EveryAddCall : Type 0 where
  pub call : (w : RollingWindow) (new : List ℤ) → length w.rates ≡ 4200 → AddCall w new

pub record EveryDropCall : Type 0 where
  pub call : (w : RollingWindow) → length w.rates ≡ 4200 → DropCall w

pub record EveryWindowCall : Type 0 where
  pub call : (w : RollingWindow) (k : FileCase) (factors : List ℕ) (rates : List ℤ) → WindowCall w k factors rates
