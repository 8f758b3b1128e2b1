-- Why a file is refused, and with which number (METHOD, Refusals); 0 where it is accepted.
use Rattle.std.specs.Prelude.{ℕ, suc, ◌+◌, ◌*◌, Bool, ◌&&◌, not, if◌then◌else◌, List, [], ◌∷◌, ◌++◌, nat_le, length, slice_index, take, drop, ℤ, pos, neg_ℤ, Option, Some, None}
use Rattle.refusal.specs.Numbered.{number_in}
use Rattle.refusal.specs.declared.Refusal.{Refusal}
use Rattle.refusal.specs.declared.Refusal.TheVariants.{EndsEarly, BytesFollow, WrongFields, Forward}
use Rattle.model.specs.Numbers.{every}
use Rattle.model.specs.Limits.{forward}
use Rattle.model.specs.Fields.{Check, reaches, within_z}
use Rattle.model.specs.Constants.{last_market_term}
use Rattle.model.specs.Case.{per_step}
use Rattle.model.specs.Layout.{stands, rate_bytes_in, present_in, file_map, first_fields, fields_of, case_of}

-- "The first that applies is given."
abbrev pub failing : List Check → Option Refusal
failing [] = None
failing (check ∷ checks) = if check.0 then failing checks else Some check.1

-- the number of the first, 0 where none applies; model/proofs/First.antt has it check by check
unfoldable pub first_of : List Check → ℕ
first_of checks = number_in (failing checks)

-- "Exactly one of"
abbrev pub exactly_one : Bool → Bool → Bool
exactly_one a b = if a then not b else b

-- "Bits 2, 5 and 6 must stand, and exactly one of bits 1 and 7; bits 9 to 15 must not."
abbrev pub bits_right : ℕ → Bool
bits_right map =
    exactly_one (stands 1 map) (stands 7 map) && stands 2 map && stands 5 map && stands 6 map && every (λ i. not (stands (9 + i) map)) 7

-- "then the map (1, then 3)"
abbrev pub map_checks : List ℕ → List Check
map_checks file = (reaches file 2, EndsEarly) ∷ (bits_right (file_map file), WrongFields) ∷ []

-- refusal 6: each t × s(t) - (t - 1) × s(t-1) is from -2,000 × n to 12,000 × n, where one step adds n to a sum; of four-byte rates one step
-- adds 100 × n, and "both limits are 100 times as large"
unfoldable pub forwards_right : ℕ → List (List ℤ) → Bool
forwards_right n days = every (λ t. within_z (neg_ℤ (pos (2000 * n))) (pos (12000 * n)) (forward days (suc t))) 60

-- the checks of a file, in order: "the map ..; then each field in bit order ..; then 2; then 6"
unfoldable pub checks : List ℕ → List Check
checks file =
    map_checks file
    ++ (fields_of file).checks file 2
    ++ ((nat_le (length file) ((fields_of file).end file 2), BytesFollow) ∷ (forwards_right (per_step (case_of file)) (case_of file).days, Forward) ∷ [])

unfoldable pub refusal : List ℕ → ℕ
refusal file = first_of (checks file)

-- where the UFR ends, after the map and, if it is there, its two bytes
unfoldable pub ufr_end : List ℕ → ℕ
ufr_end file = if stands 0 (file_map file) then 4 else 2

-- where the count n of the days stands, after the UFR or, of rates of four bytes, after the fields of bits 0 to 6; and n
unfoldable pub days_at : List ℕ → ℕ
days_at file = if stands 7 (file_map file) then (first_fields 4 (present_in (file_map file))).end file 2 else ufr_end file

unfoldable pub day_count : List ℕ → ℕ
day_count file = slice_index file (days_at file)

-- "the part of the file that holds the rates: all n × 120 bytes; of a file that 1 to 12 refuse, an empty part"; of a file with four-byte
-- rates "the part handed back is n × 240 bytes"
abbrev pub rates_part_after : Option Refusal → List ℕ → List ℕ
rates_part_after None file = take (rate_bytes_in (file_map file) * last_market_term * day_count file) (drop (days_at file + 1) file)
rates_part_after (Some r) file = []

unfoldable pub rates_part : List ℕ → List ℕ
rates_part file = rates_part_after (failing (checks file)) file
