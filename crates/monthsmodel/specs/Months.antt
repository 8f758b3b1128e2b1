-- The UFR from ten years of months (METHOD, The UFR from a history of months): the mean of 120 month-end forward rates, rounded to the
-- nearest 100 steps; its checks; and a case file valued with that UFR, as if it were in the file's UFR field.
use Rattle.std.specs.Prelude.{ℕ, ◌+◌, ◌/◌, ◌≤◌, ◌≡◌, ◌&&◌, if◌then◌else◌, List, [], ◌∷◌, ◌++◌, nat_le, ◌==◌, length, slice_index_or, drop, ℤ, pos, negsuc, nat_abs, ◌+ℤ◌, ◌-ℤ◌, ◌*ℤ◌, ◌≤ℤ◌, Option, Some, None, Result, Ok, Err}
use Rattle.refusal.specs.declared.Refusal.{Refusal}
use Rattle.refusal.specs.declared.Refusal.TheVariants.{History, Month, MonthsUfr}
use Rattle.model.specs.Numbers.{bytes_of, table}
use Rattle.model.specs.Case.{FileCase, with_ufr}
use Rattle.model.specs.Fields.{Check, Fixed, several, right_all, within_z}
use Rattle.model.specs.Layout.{rate, stands, file_map, case_of}
use Rattle.model.specs.Refusals.{failing, first_of, checks, ufr_end}
use Rattle.method.specs.Curve.{natural}
use Rattle.method.specs.Buffers as Buffers
use Rattle.method.specs.Buffers.{buffers_check, factor_entries, rate_entries, written, answered, valuation_of}
use Rattle.rollingmodel.specs.Rolling.{slot}
use Rattle.model.specs.declared.figures.Valuation.{Valuation}

-- ---- the history

-- "120 numbers of two bytes, two's complement, big-endian like all our bytes, -1,000 to 10,000 steps": a month has the form of a rate
abbrev pub history_months : ℕ
history_months = 120

abbrev pub month : Fixed ℤ
month = rate 2 1

-- the months of a history, from its first byte on
unfoldable pub months_of : List ℕ → List ℤ
months_of history = (several history_months month).value history 0

-- "in a ring with a start index": the oldest month stands at that index, so these are the months from the oldest on
unfoldable pub oldest_first : ℕ → List ℤ → List ℤ
oldest_first start months = table (λ i. slice_index_or months (slot history_months start i) (pos 0)) history_months

-- the sum of months, from the front of their list
unfoldable pub total : List ℤ → ℤ
total [] = pos 0
total (z ∷ zs) = z +ℤ total zs

-- ---- the UFR

-- the greatest integer that is at most z ÷ d
abbrev pub floor_z : ℤ → ℕ → ℤ
floor_z (pos n) d = pos (n / d)
floor_z (negsuc n) d = negsuc (n / d)

-- "their mean rounded to the nearest 100 steps, halves upward", in hundreds of steps: the mean is z ÷ 120 steps, z ÷ 12,000 hundreds, and
-- half a hundred more is (z + 6,000) ÷ 12,000
abbrev pub hundreds : ℤ → ℤ
hundreds z = floor_z (z +ℤ pos 6000) 12000

-- how far the mean of months whose sum is z lies from q hundreds of steps: 120 times that, in steps
abbrev pub apart : ℤ → ℤ → ℕ
apart z q = nat_abs (z -ℤ pos 12000 *ℤ q)

-- "nearest .., halves upward": no other multiple of 100 steps is nearer to the mean, and of two that are equally near it is the higher
pub record Nearest (z q : ℤ) : Type 0 where
  pub nearest : (p : ℤ) → apart z q ≤ apart z p
  pub upward : (p : ℤ) → apart z p ≡ apart z q → p ≤ℤ q

-- "The UFR is their mean rounded ..": "The ring is summed from its first byte on"
unfoldable pub rounded_ufr : List ℕ → ℤ
rounded_ufr history = pos 100 *ℤ hundreds (total (months_of history))

-- ---- its checks

-- "17 for a history that isn't 240 bytes or a start index above 119; 18 for a month out of limits, after 17; 19 for a rounded UFR outside
-- 0 to 5,000, after 18"
abbrev pub history_checks : List ℕ → ℕ → List Check
history_checks history start =
    (length history == 240 && nat_le start 119, History)
    ∷ (right_all month (months_of history), Month)
    ∷ (within_z (pos 0) (pos 5000) (rounded_ufr history), MonthsUfr)
    ∷ []

unfoldable pub ufr_refusal : List ℕ → ℕ → ℕ
ufr_refusal history start = first_of (history_checks history start)

-- "The UFR found", of a history that is not refused
abbrev pub ufr_found : List ℕ → ℕ
ufr_found history = natural (rounded_ufr history)

abbrev pub found_or : Option Refusal → ℕ → Result ℕ Refusal
found_or None ufr = Ok ufr
found_or (Some r) ufr = Err r

-- the UFR in rate steps, or a refusal
unfoldable pub ufr_answer : List ℕ → ℕ → Result ℕ Refusal
ufr_answer history start = found_or (failing (history_checks history start)) (ufr_found history)

-- ---- a case file valued with the UFR found

-- "all three after the file's own numbers", which 13 comes before: by the lengths of the two buffers
abbrev pub months_checks : List ℕ → List ℕ → ℕ → ℕ → ℕ → List Check
months_checks file history start factors rates = buffers_check factors rates ∷ (checks file ++ history_checks history start)

unfoldable pub months_refusal : List ℕ → List ℕ → ℕ → ℕ → ℕ → ℕ
months_refusal file history start factors rates = first_of (months_checks file history start factors rates)

-- "The UFR found is used", also where the file has a UFR of its own
abbrev pub months_case : List ℕ → List ℕ → FileCase
months_case file history = with_ufr (ufr_found history) (case_of file)

unfoldable pub months_valuation : List ℕ → List ℕ → ℕ → ℕ → ℕ → Result Valuation Refusal
months_valuation file history start factors rates = answered (failing (months_checks file history start factors rates)) (months_case file history)

unfoldable pub months_factors_after : List ℕ → List ℕ → ℕ → List ℕ → List ℤ → List ℕ
months_factors_after file history start factors rates =
    written (failing (months_checks file history start (length factors) (length rates))) (factor_entries (months_case file history)) factors

unfoldable pub months_rates_after : List ℕ → List ℕ → ℕ → List ℕ → List ℤ → List ℤ
months_rates_after file history start factors rates =
    written (failing (months_checks file history start (length factors) (length rates))) (rate_entries (months_case file history)) rates

-- "as if it stood in the file's UFR field": the file with bit 0 in its map and the UFR in the two bytes after the map. They take the place
-- of the UFR that the file has there, if its bit 0 stands.
unfoldable pub with_ufr_field : ℕ → List ℕ → List ℕ
with_ufr_field ufr file =
    let map = file_map file in
    bytes_of 2 (if stands 0 map then map else map + 1) ++ bytes_of 2 ufr ++ drop (ufr_end file) file

-- the valuation is that of the file with the UFR found in its field: the answer, and what the two lent buffers hold afterwards
pub record ValuedWithField (file history : List ℕ) (start : ℕ) (factors : List ℕ) (rates : List ℤ) : Type 0 where
  pub answer :
      months_valuation file history start (length factors) (length rates)
      ≡ valuation_of (length factors) (length rates) (with_ufr_field (ufr_found history) file)
  pub factors_after :
      months_factors_after file history start factors rates ≡ Buffers.factors_after (with_ufr_field (ufr_found history) file) factors rates
  pub rates_after :
      months_rates_after file history start factors rates ≡ Buffers.rates_after (with_ufr_field (ufr_found history) file) factors rates
