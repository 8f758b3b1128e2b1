-- Saving a case with rates in four bytes, as computed statements about the definitions.
-- tests/writers wrote this file, from the reference in Python, which was written without the engine's code (tests/reference): change
-- that, not this. Assumes nothing.
use mathlib.Core.Path.{◌≡◌, refl}
use mathlib.Core.List.{List, [], ◌∷◌, ◌++◌, map}
use lib.ListN.{replicate}
use lib.IntN.{pos, neg_ℤ}
use Rattle.std.specs.Prelude.{Ok, Err}
use Rattle.refusal.specs.declared.Refusal.TheVariants.{WrongFields, Room}
use Rattle.model.specs.Case.{FileCase}
use Rattle.model.proofs.Computing.{pairs}
use Rattle.model.proofs.FourByteCases.{quads, finer_file, finer_case, old_case, new_case, old_file, new_file}
use Rattle.savingmodel.specs.Saving.{given, case_refusal, shortest, save_refusal, save_answer, saved_after}
use Rattle.savingmodel.proofs.Computing.{all}
use Rattle.savingmodel.proofs.SavedCases.{amounts_of, shocks_of, fields_of, no_amounts, no_shocks}

-- No rate has so many bytes: 3.
abbrev pub rate-bytes_cases : List FileCase
rate-bytes_cases =
    given (fields_of 0 4200 no_amounts no_shocks 1 0 0) (replicate 60 (pos 0)) (7 ∷ []) []  -- 0 bytes a rate
    ∷ given (fields_of 1 4200 no_amounts no_shocks 1 0 0) (replicate 60 (pos 0)) (7 ∷ []) []  -- 1 bytes a rate
    ∷ given (fields_of 3 4200 no_amounts no_shocks 1 0 0) (replicate 60 (pos 0)) (7 ∷ []) []  -- 3 bytes a rate
    ∷ given (fields_of 5 4200 no_amounts no_shocks 1 0 0) (replicate 60 (pos 0)) (7 ∷ []) []  -- 5 bytes a rate
    ∷ []

case-rate-bytes : map case_refusal rate-bytes_cases ≡ 3 ∷ 3 ∷ 3 ∷ 3 ∷ []
unfolding all
case-rate-bytes = refl

-- Every number at its limits; then rates at theirs, and a unit past them.
abbrev pub four-limits_cases : List FileCase
four-limits_cases =
    given (fields_of 4 0 no_amounts (shocks_of 0 0 0 0 0 0 0 0 0 0 0 0 0) 1 0 0) (replicate 60 (neg_ℤ (pos 100000))) (0 ∷ []) []  -- all at their lower limits
    ∷ given (fields_of 4 5000 (amounts_of 100000000000 100000000000 100000000000 100000000000 100000000000 100000000000 100000000000 100000000000) (shocks_of 1000 1000 1000 1000 1000 1000 1000 1000 1000 1000 10000 500 1000) 1000000 1200 1200) (replicate 60 (pos 1000000)) (100000000 ∷ []) (100000000 ∷ [])  -- all at their upper limits
    ∷ given (fields_of 4 4200 no_amounts no_shocks 1 0 0) ((neg_ℤ (pos 100001) ∷ []) ++ replicate 59 (pos 0)) (7 ∷ []) []  -- rate 1: -100001
    ∷ given (fields_of 4 4200 no_amounts no_shocks 1 0 0) ((neg_ℤ (pos 100000) ∷ []) ++ replicate 59 (pos 0)) (7 ∷ []) []  -- rate 1: -100000
    ∷ given (fields_of 4 4200 no_amounts no_shocks 1 0 0) ((pos 1000000 ∷ []) ++ replicate 59 (pos 0)) (7 ∷ []) []  -- rate 1: 1000000
    ∷ given (fields_of 4 4200 no_amounts no_shocks 1 0 0) ((pos 1000001 ∷ []) ++ replicate 59 (pos 0)) (7 ∷ []) []  -- rate 1: 1000001
    ∷ given (fields_of 4 4200 no_amounts no_shocks 1 0 0) (replicate 59 (pos 0) ++ (neg_ℤ (pos 100001) ∷ [])) (7 ∷ []) []  -- rate 60: -100001
    ∷ given (fields_of 4 4200 no_amounts no_shocks 1 0 0) (replicate 59 (pos 0) ++ (neg_ℤ (pos 100000) ∷ [])) (7 ∷ []) []  -- rate 60: -100000
    ∷ given (fields_of 4 4200 no_amounts no_shocks 1 0 0) (replicate 59 (pos 0) ++ (pos 1000000 ∷ [])) (7 ∷ []) []  -- rate 60: 1000000
    ∷ given (fields_of 4 4200 no_amounts no_shocks 1 0 0) (replicate 59 (pos 0) ++ (pos 1000001 ∷ [])) (7 ∷ []) []  -- rate 60: 1000001
    ∷ []

case-four-limits : map case_refusal four-limits_cases ≡ 0 ∷ 0 ∷ 5 ∷ 0 ∷ 6 ∷ 5 ∷ 5 ∷ 6 ∷ 6 ∷ 5 ∷ []
unfolding all
case-four-limits = refl

-- Error 6, at its limits times 100 and one past them.
abbrev pub four-forwards_cases : List FileCase
four-forwards_cases =
    given (fields_of 4 4200 no_amounts no_shocks 1 0 0) ((pos 0 ∷ []) ++ replicate 59 (neg_ℤ (pos 100000))) (7 ∷ []) []  -- 1 days, term 2: -200000
    ∷ given (fields_of 4 4200 no_amounts no_shocks 1 0 0) ((pos 1 ∷ []) ++ replicate 59 (neg_ℤ (pos 100000))) (7 ∷ []) []  -- 1 days, term 2: -200001
    ∷ given (fields_of 4 4200 no_amounts no_shocks 1 0 0) ((pos 0 ∷ []) ++ replicate 59 (pos 600000)) (7 ∷ []) []  -- 1 days, term 2: 1200000
    ∷ given (fields_of 4 4200 no_amounts no_shocks 1 0 0) ((pos 1 ∷ []) ++ replicate 59 (pos 600001)) (7 ∷ []) []  -- 1 days, term 2: 1200001
    ∷ given (fields_of 4 4200 no_amounts no_shocks 1 0 0) ((pos 1 ∷ pos 1 ∷ []) ++ replicate 58 (pos 400001) ++ (neg_ℤ (pos 1) ∷ neg_ℤ (pos 1) ∷ []) ++ replicate 58 (pos 399999)) (7 ∷ []) []  -- 2 days, term 3: 2400000
    ∷ given (fields_of 4 4200 no_amounts no_shocks 1 0 0) ((pos 1 ∷ pos 1 ∷ []) ++ replicate 58 (pos 400001) ++ (pos 0 ∷ pos 0 ∷ []) ++ replicate 58 (pos 400000)) (7 ∷ []) []  -- 2 days, term 3: 2400001
    ∷ []

case-four-forwards : map case_refusal four-forwards_cases ≡ 0 ∷ 6 ∷ 0 ∷ 6 ∷ 0 ∷ 6 ∷ []
unfolding all
case-four-forwards = refl

-- The shortest form keeps the days field.
abbrev pub four_short_cases : List FileCase
four_short_cases =
    given (fields_of 4 4200 no_amounts (shocks_of 1 2 3 4 5 6 7 8 9 10 11 12 1000) 100 780 460) (replicate 60 (neg_ℤ (pos 50000)) ++ replicate 60 (pos 1)) (1000000 ∷ 7 ∷ []) []  -- with no optional field
    ∷ given (fields_of 4 4201 (amounts_of 0 0 0 0 0 0 0 5) (shocks_of 1 2 3 4 5 6 7 8 9 10 11 12 0) 100 780 460) (replicate 60 (neg_ℤ (pos 50000)) ++ replicate 60 (pos 1)) (1000000 ∷ 7 ∷ []) (0 ∷ [])  -- with UFR, bonds, amounts, equity
    ∷ []

four-shortest : map shortest four_short_cases ≡ ((0x00 ∷ 0xe4 ∷ 0x02 ∷ 0x00 ∷ 0x0f ∷ 0x42 ∷ 0x40 ∷ 0x00 ∷ 0x00 ∷ 0x00 ∷ 0x07 ∷ 0x00 ∷ 0x01 ∷ 0x00 ∷ 0x02 ∷ 0x00 ∷ 0x03 ∷ 0x00 ∷ 0x04 ∷ 0x00 ∷ 0x05 ∷ 0x00 ∷ 0x06 ∷ 0x00 ∷ 0x07 ∷ 0x00 ∷ 0x08 ∷ 0x00 ∷ 0x09 ∷ 0x00 ∷ 0x0a ∷ 0x00 ∷ 0x0b ∷ 0x00 ∷ 0x0c ∷ 0x00 ∷ 0x00 ∷ 0x00 ∷ 0x64 ∷ 0x03 ∷ 0x0c ∷ 0x01 ∷ 0xcc ∷ 0x02 ∷ []) ++ quads 60 0xff 0xff 0x3c 0xb0 ++ quads 60 0x00 0x00 0x00 0x01) ∷ ((0x01 ∷ 0xfd ∷ 0x10 ∷ 0x69 ∷ 0x02 ∷ 0x00 ∷ 0x0f ∷ 0x42 ∷ 0x40 ∷ 0x00 ∷ 0x00 ∷ 0x00 ∷ 0x07 ∷ 0x01 ∷ []) ++ pairs 33 0x00 0x00 ++ (0x00 ∷ 0x05 ∷ 0x00 ∷ 0x01 ∷ 0x00 ∷ 0x02 ∷ 0x00 ∷ 0x03 ∷ 0x00 ∷ 0x04 ∷ 0x00 ∷ 0x05 ∷ 0x00 ∷ 0x06 ∷ 0x00 ∷ 0x07 ∷ 0x00 ∷ 0x08 ∷ 0x00 ∷ 0x09 ∷ 0x00 ∷ 0x0a ∷ 0x00 ∷ 0x0b ∷ 0x00 ∷ 0x0c ∷ 0x00 ∷ 0x00 ∷ 0x00 ∷ 0x64 ∷ 0x03 ∷ 0x0c ∷ 0x01 ∷ 0xcc ∷ 0x02 ∷ []) ++ quads 60 0xff 0xff 0x3c 0xb0 ++ quads 60 0x00 0x00 0x00 0x01 ++ (0x00 ∷ 0x00 ∷ [])) ∷ []
unfolding all
four-shortest = refl

-- A case of 280 bytes.
abbrev pub small_four : FileCase
small_four =
    given (fields_of 4 4200 no_amounts no_shocks 1 0 0) (replicate 60 (pos 0)) (7 ∷ []) []

-- A case that 6 refuses.
abbrev pub four_steep : FileCase
four_steep =
    given (fields_of 4 4200 no_amounts no_shocks 1 0 0) ((pos 1 ∷ []) ++ replicate 59 (pos 600001)) (7 ∷ []) []

-- A case that 3 refuses.
abbrev pub three_bytes : FileCase
three_bytes =
    given (fields_of 3 4200 no_amounts no_shocks 1 0 0) (replicate 60 (pos 0)) (7 ∷ []) []

four-saved : shortest finer_case ≡ finer_file
unfolding all
four-saved = refl

four-rooms : (save_refusal small_four 279 ≡ 14)
    × (save_refusal small_four 280 ≡ 0)
    × (save_refusal four_steep 0 ≡ 6)
    × (save_refusal three_bytes 0 ≡ 3)
unfolding all
four-rooms = (refl, refl, refl, refl)

four-answers : (save_answer small_four 279 ≡ Err Room)
    × (save_answer small_four 280 ≡ Ok 280)
    × (save_answer three_bytes 280 ≡ Err WrongFields)
unfolding all
four-answers = (refl, refl, refl)

four-saved-after : (saved_after small_four (pairs 141 0xaa 0x55) ≡ (0x00 ∷ 0xe4 ∷ 0x01 ∷ 0x00 ∷ 0x00 ∷ 0x00 ∷ 0x07 ∷ []) ++ pairs 13 0x00 0x00 ++ (0x00 ∷ 0x01 ∷ 0x00 ∷ 0x00 ∷ 0x00 ∷ 0x00 ∷ 0x01 ∷ []) ++ pairs 120 0x00 0x00 ++ (0xaa ∷ 0x55 ∷ []))
    × (saved_after three_bytes (pairs 141 0xaa 0x55) ≡ pairs 141 0xaa 0x55)
unfolding all
four-saved-after = (refl, refl)

different-bytes : (shortest old_case ≡ old_file)
    × (shortest new_case ≡ new_file)
unfolding all
different-bytes = (refl, refl)
