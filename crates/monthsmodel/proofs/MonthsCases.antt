-- A UFR from ten years of months: the months of a history, the rounding of their mean, refusals, and the case and the file that are
-- valued with it, as computed statements about the definitions. What takes longer to compute is in the crate `monthscases`.
-- tests/writers wrote this file, from the reference in Python, which was written without the engine's code (tests/reference): change
-- that, not this. Assumes nothing.
use Prim.Native.Nat.{ℕ}
use mathlib.Core.Path.{◌≡◌, refl}
use mathlib.Core.List.{List, [], ◌∷◌, ◌++◌, map}
use lib.ListN.{replicate}
use lib.IntN.{ℤ, pos, neg_ℤ}
use Rattle.monthsmodel.specs.Months.{months_of, hundreds, apart, rounded_ufr, ufr_refusal, with_ufr_field, months_refusal, months_case}
use Rattle.model.proofs.Computing.{pairs}
use Rattle.monthsmodel.proofs.Computing.{all}

-- a UFR of 3,100 is found
abbrev pub found_history : List ℕ
found_history =
    pairs 120 0x0c 0x1c

-- no UFR is found, by 19
abbrev pub no_ufr_history : List ℕ
no_ufr_history =
    pairs 120 0xff 0xcd

-- months of which the ring shows where it is read from
abbrev pub ring_history : List ℕ
ring_history =
    (0xfe ∷ 0x0c ∷ 0x00 ∷ 0xff ∷ 0x01 ∷ 0x00 ∷ []) ++ pairs 115 0x00 0x07 ++ (0xfc ∷ 0x18 ∷ 0x27 ∷ 0x10 ∷ [])

-- a file without a UFR, with one pension flow, at term 21
abbrev pub plain_file : List ℕ
plain_file =
    (0x00 ∷ 0x76 ∷ 0x01 ∷ []) ++ pairs 60 0x00 0x00 ++ (0x15 ∷ []) ++ pairs 40 0x00 0x00 ++ (0x00 ∷ 0x0f ∷ 0x42 ∷ 0x40 ∷ []) ++ pairs 26 0x00 0x00 ++ (0x00 ∷ 0x10 ∷ 0xbb ∷ 0x34 ∷ []) ++ pairs 17 0x00 0x00 ++ (0x00 ∷ 0x64 ∷ 0x03 ∷ 0x0c ∷ 0x01 ∷ 0xcc ∷ [])

-- the same with a UFR of 1,000
abbrev pub own_ufr_file : List ℕ
own_ufr_file =
    (0x00 ∷ 0x77 ∷ 0x03 ∷ 0xe8 ∷ 0x01 ∷ []) ++ pairs 60 0x00 0x00 ++ (0x15 ∷ []) ++ pairs 40 0x00 0x00 ++ (0x00 ∷ 0x0f ∷ 0x42 ∷ 0x40 ∷ []) ++ pairs 26 0x00 0x00 ++ (0x00 ∷ 0x10 ∷ 0xbb ∷ 0x34 ∷ []) ++ pairs 17 0x00 0x00 ++ (0x00 ∷ 0x64 ∷ 0x03 ∷ 0x0c ∷ 0x01 ∷ 0xcc ∷ [])

-- the same with a UFR of 3,100
abbrev pub named_file : List ℕ
named_file =
    (0x00 ∷ 0x77 ∷ 0x0c ∷ 0x1c ∷ 0x01 ∷ []) ++ pairs 60 0x00 0x00 ++ (0x15 ∷ []) ++ pairs 40 0x00 0x00 ++ (0x00 ∷ 0x0f ∷ 0x42 ∷ 0x40 ∷ []) ++ pairs 26 0x00 0x00 ++ (0x00 ∷ 0x10 ∷ 0xbb ∷ 0x34 ∷ []) ++ pairs 17 0x00 0x00 ++ (0x00 ∷ 0x64 ∷ 0x03 ∷ 0x0c ∷ 0x01 ∷ 0xcc ∷ [])

abbrev pub ring_months : List ℤ
ring_months =
    (neg_ℤ (pos 500) ∷ pos 255 ∷ pos 256 ∷ []) ++ replicate 115 (pos 7) ++ (neg_ℤ (pos 1000) ∷ pos 10000 ∷ [])

ring-months : months_of ring_history ≡ ring_months
unfolding all
ring-months = refl

-- Both sides of halves below 0, around 0 and above, of the least and of the largest UFR, and the ends.
abbrev pub sums_of_months : List ℤ
sums_of_months =
    neg_ℤ (pos 120000) ∷ neg_ℤ (pos 18001) ∷ neg_ℤ (pos 18000) ∷ neg_ℤ (pos 17999) ∷ neg_ℤ (pos 12000) ∷ neg_ℤ (pos 6001)
    ∷ neg_ℤ (pos 6000) ∷ neg_ℤ (pos 5999) ∷ neg_ℤ (pos 1) ∷ pos 0 ∷ pos 5999 ∷ pos 6000
    ∷ pos 12000 ∷ pos 17999 ∷ pos 18000 ∷ pos 593999 ∷ pos 594000 ∷ pos 605999
    ∷ pos 606000 ∷ pos 1200000
    ∷ []

rounded-hundreds : map hundreds sums_of_months ≡ neg_ℤ (pos 10) ∷ neg_ℤ (pos 2) ∷ neg_ℤ (pos 1) ∷ neg_ℤ (pos 1) ∷ neg_ℤ (pos 1) ∷ neg_ℤ (pos 1) ∷ pos 0 ∷ pos 0 ∷ pos 0 ∷ pos 0 ∷ pos 0 ∷ pos 1 ∷ pos 1 ∷ pos 1 ∷ pos 2 ∷ pos 49 ∷ pos 50 ∷ pos 50 ∷ pos 51 ∷ pos 100 ∷ []
unfolding all
rounded-hundreds = refl

distances : (apart (pos 6000) (pos 0) ≡ 6000)
    × (apart (pos 6000) (pos 1) ≡ 6000)
    × (apart (neg_ℤ (pos 6001)) (neg_ℤ (pos 1)) ≡ 5999)
unfolding all
distances = (refl, refl, refl)

rounded-ufrs : (rounded_ufr found_history ≡ pos 3100)
    × (rounded_ufr no_ufr_history ≡ neg_ℤ (pos 100))
    × (rounded_ufr ring_history ≡ pos 100)
unfolding all
rounded-ufrs = (refl, refl, refl)

-- Limits and the order of 17, 18 and 19.
abbrev pub history_refusals : List ℕ
history_refusals =
    ufr_refusal (pairs 119 0x0c 0x1c ++ (0x0c ∷ [])) 0  -- 239 bytes
    ∷ ufr_refusal (pairs 120 0x0c 0x1c ++ (0x00 ∷ [])) 0  -- 241 bytes
    ∷ ufr_refusal found_history 120  -- start 120
    ∷ ufr_refusal (pairs 119 0x0c 0x1c ++ (0x27 ∷ 0x11 ∷ [])) 0  -- the last month: 10001
    ∷ ufr_refusal (pairs 60 0xff 0xcd ++ (0xfc ∷ 0x17 ∷ []) ++ pairs 59 0xff 0xcd) 0  -- 18 before 19
    ∷ ufr_refusal (pairs 119 0xff 0xce ++ (0xff ∷ 0xcd ∷ [])) 0  -- a 120th less
    ∷ []

history-refusals : history_refusals ≡ 17 ∷ 17 ∷ 17 ∷ 18 ∷ 18 ∷ 19 ∷ []
unfolding all
history-refusals = refl

months-cases : ((months_case plain_file found_history).ufr ≡ 3100)
    × ((months_case own_ufr_file found_history).ufr ≡ 3100)
unfolding all
months-cases = (refl, refl)

ufr-fields : (with_ufr_field 3100 plain_file ≡ named_file)
    × (with_ufr_field 3100 own_ufr_file ≡ named_file)
unfolding all
ufr-fields = (refl, refl)

-- The order of checks up to the file's first ones.
abbrev pub months_refusals : List ℕ
months_refusals =
    months_refusal [] (pairs 119 0x0c 0x1c ++ (0x0c ∷ [])) 0 239 240  -- 13 before 1, for the factors
    ∷ months_refusal [] (pairs 119 0x0c 0x1c ++ (0x0c ∷ [])) 0 240 239  -- 13 before 1, for the rates
    ∷ months_refusal [] (pairs 119 0x0c 0x1c ++ (0x0c ∷ [])) 0 240 240  -- 1 before 17
    ∷ months_refusal (0x00 ∷ 0x00 ∷ []) (pairs 119 0x0c 0x1c ++ (0x0c ∷ [])) 0 240 240  -- 3 before 17
    ∷ months_refusal (0x00 ∷ 0x67 ∷ 0x13 ∷ 0x89 ∷ []) (pairs 119 0x0c 0x1c ++ (0x0c ∷ [])) 0 240 240  -- 9 before 17
    ∷ []

months-refusals : months_refusals ≡ 13 ∷ 13 ∷ 1 ∷ 3 ∷ 9 ∷ []
unfolding all
months-refusals = refl
