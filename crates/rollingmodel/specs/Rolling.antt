-- A rolling window of days (METHOD, A rolling window of days): the days held in a ring of slots and beside them the sum per term, the
-- changes of a window, and its valuation with a case's other fields.
use Rattle.std.specs.Prelude.{ℕ, zero, suc, ◌+◌, ◌*◌, ◌-◌, ◌%◌, ◌<◌, ◌≡◌, Bool, true, ◌&&◌, if◌then◌else◌, List, [], ◌∷◌, ◌++◌, nat_le, nat_lt, length, slice_index_or, take, drop, replicate, ℤ, pos, Result}
use Rattle.std.specs.Int.Signed.{le_z}
use Rattle.refusal.specs.declared.Refusal.{Refusal}
use Rattle.refusal.specs.declared.Refusal.TheVariants.{DayCount, Rate, Forward, WindowFull, WindowEmpty, Damaged}
use Rattle.model.specs.Constants.{last_market_term}
use Rattle.model.specs.Numbers.{every, table}
use Rattle.model.specs.Case.{FileCase, with_days, s}
use Rattle.model.specs.Fields.{Check, right_all}
use Rattle.model.specs.Layout.{day}
use Rattle.model.specs.Refusals.{failing, first_of, forwards_right}
use Rattle.savingmodel.specs.Saving.{case_checks}
use Rattle.method.specs.Buffers as Buffers
use Rattle.method.specs.Buffers.{buffers_check, factor_entries, rate_entries, written, answered, valuation_of}
use Rattle.model.specs.declared.figures.Valuation.{Valuation}
use Rattle.rollingmodel.specs.declared.RollingWindow.{RollingWindow}
use Rattle.rollingmodel.specs.declared.ChangedWindow.{ChangedWindow}

-- ---- what a window holds

-- "A rolling window keeps up to 70 days"; "there is no window of four-byte days"
abbrev pub window_days : ℕ
window_days = 70

-- the slot of entry i, from the first, in a ring of m slots whose first entry stands in the slot `start`
abbrev pub slot : ℕ → ℕ → ℕ → ℕ
slot m start i = (start + i) % m

-- the 60 rates in slot j
abbrev pub day_in : List ℤ → ℕ → List ℤ
day_in rates j = take last_market_term (drop (last_market_term * j) rates)

-- "the days .., oldest first"
unfoldable pub days_held : RollingWindow → List (List ℤ)
days_held w = table (λ i. day_in w.rates (slot window_days w.start i)) w.count

-- "stored beside them, the sum per term": s(t) of the terms 1 to 60
unfoldable pub sums_of : List (List ℤ) → List ℤ
sums_of days = table (λ i. s days (suc i)) last_market_term

-- "an empty window"
abbrev pub empty_window : RollingWindow
empty_window = record {
  count = 0;
  start = 0;
  rates = replicate (last_market_term * window_days) (pos 0);
  sums = replicate last_market_term (pos 0);
}

-- two integers are equal
abbrev pub equal_z : ℤ → ℤ → Bool
equal_z y z = le_z y z && le_z z y

-- else "27 for a window handed in with a count or place out of range, a held rate out of limits or a wrong sum"; the place is `start`
unfoldable pub rolling_right : RollingWindow → Bool
rolling_right w =
    nat_le w.count window_days && nat_lt w.start window_days
    && right_all (day 2) (days_held w)
    && every (λ i. equal_z (slice_index_or w.sums i (pos 0)) (s (days_held w) (suc i))) last_market_term

-- ---- a day added, and the oldest dropped

-- "27 .. ahead of all"; "15 for a day added to a window of 70, before its rates are looked at"; "Adding checks the day's 60 rates against
-- the limits of refusal 5."
unfoldable pub add_refusal : RollingWindow → List ℤ → ℕ
add_refusal w new = first_of ((rolling_right w, Damaged) ∷ (nat_lt w.count window_days, WindowFull) ∷ ((day 2).right new, Rate) ∷ [])

-- "16 for a drop from an empty window"
unfoldable pub drop_refusal : RollingWindow → ℕ
drop_refusal w = first_of ((rolling_right w, Damaged) ∷ (nat_lt 0 w.count, WindowEmpty) ∷ [])

-- the rates with another day in slot j
abbrev pub with_day_in : List ℤ → ℕ → List ℤ → List ℤ
with_day_in rates j new = take (last_market_term * j) rates ++ new ++ drop (last_market_term * j + last_market_term) rates

-- the new day goes into the slot after the newest
unfoldable pub added : RollingWindow → List ℤ → RollingWindow
added w new = record {
  count = w.count + 1;
  start = w.start;
  rates = with_day_in w.rates (slot window_days w.start w.count) new;
  sums = sums_of (days_held w ++ (new ∷ []));
}

-- the oldest day's slot is left, and no rate is altered
unfoldable pub dropped : RollingWindow → RollingWindow
dropped w = record {
  count = w.count - 1;
  start = slot window_days w.start 1;
  rates = w.rates;
  sums = sums_of (drop 1 (days_held w));
}

-- "A refused call changes nothing.": the window after the change, or the one handed in
abbrev pub changed : ℕ → RollingWindow → RollingWindow → ChangedWindow
changed zero w next = record { refusal = 0; window = next }
changed (suc r) w next = record { refusal = suc r; window = w }

unfoldable pub add_day : RollingWindow → List ℤ → ChangedWindow
add_day w new = changed (add_refusal w new) w (added w new)

unfoldable pub drop_day : RollingWindow → ChangedWindow
drop_day w = changed (drop_refusal w) w (dropped w)

-- ---- "every list of additions and drops from an empty window"

pub data Change : Type 0 where
  add : List ℤ → Change
  drop_oldest : Change

-- the window after a list of changes, any of which may be refused
abbrev pub change : RollingWindow → Change → RollingWindow
change w (add new) = (add_day w new).window
change w drop_oldest = (drop_day w).window

unfoldable pub changed_by : RollingWindow → List Change → RollingWindow
changed_by w [] = w
changed_by w (c ∷ cs) = changed_by (change w c) cs

-- "the days added and not dropped, oldest first", as a plain list: a day goes after the last, if fewer than 70 are there and its rates
-- are within the limits; a drop takes the first
abbrev pub queue : List (List ℤ) → Change → List (List ℤ)
queue days (add new) = if nat_lt (length days) window_days && (day 2).right new then days ++ new ∷ [] else days
queue days drop_oldest = drop 1 days

unfoldable pub queued_by : List (List ℤ) → List Change → List (List ℤ)
queued_by days [] = days
queued_by days (c ∷ cs) = queued_by (queue days c) cs

-- "After every list of additions and drops from an empty window, it holds the days added and not dropped, oldest first, each stored sum
-- is that of the days held", and 27 does not apply to it
pub record HoldsAfter (cs : List Change) : Type 0 where
  pub days : days_held (changed_by empty_window cs) ≡ queued_by [] cs
  pub sums : (t : ℕ) → t < 60 → slice_index_or (changed_by empty_window cs).sums t (pos 0) ≡ s (queued_by [] cs) (suc t)
  pub right : rolling_right (changed_by empty_window cs) ≡ true

-- ---- a window valued with the other fields of a case

-- "27 comes ahead of all, also of 13"; "Valuation checks 13, then the case's own numbers in their order, its own days and 6 included, then
-- 4 for an empty window, then 6 for its days.": by the lengths of the two buffers
abbrev pub rolling_checks : RollingWindow → FileCase → ℕ → ℕ → List Check
rolling_checks w k factors rates =
    (rolling_right w, Damaged)
    ∷ buffers_check factors rates
    ∷ (case_checks k ++ ((nat_lt 0 w.count, DayCount) ∷ (forwards_right w.count (days_held w), Forward) ∷ []))

unfoldable pub rolling_refusal : RollingWindow → FileCase → ℕ → ℕ → ℕ
rolling_refusal w k factors rates = first_of (rolling_checks w k factors rates)

-- "valued with an accepted case's other fields", whichever days field that case has
unfoldable pub rolling_valuation : RollingWindow → FileCase → ℕ → ℕ → Result Valuation Refusal
rolling_valuation w k factors rates = answered (failing (rolling_checks w k factors rates)) (with_days 2 (days_held w) k)

unfoldable pub rolling_factors_after : RollingWindow → FileCase → List ℕ → List ℤ → List ℕ
rolling_factors_after w k factors rates =
    written (failing (rolling_checks w k (length factors) (length rates))) (factor_entries (with_days 2 (days_held w) k)) factors

unfoldable pub rolling_rates_after : RollingWindow → FileCase → List ℕ → List ℤ → List ℤ
rolling_rates_after w k factors rates =
    written (failing (rolling_checks w k (length factors) (length rates))) (rate_entries (with_days 2 (days_held w) k)) rates

-- "gives what the file with these days gives": the answer, and what the two lent buffers hold afterwards
pub record ValuedAsFile (w : RollingWindow) (k : FileCase) (file factors : List ℕ) (rates : List ℤ) : Type 0 where
  pub answer : rolling_valuation w k (length factors) (length rates) ≡ valuation_of (length factors) (length rates) file
  pub factors_after : rolling_factors_after w k factors rates ≡ Buffers.factors_after file factors rates
  pub rates_after : rolling_rates_after w k factors rates ≡ Buffers.rates_after file factors rates
