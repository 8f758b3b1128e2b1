-- A UFR from ten years of months: the ring from several places, every limit and the order of 17 to 19, the answer; and valuations with it:
-- the order of checks from the end of the file on, the listing, and what both lent buffers hold afterwards. All of it as computed statements
-- about the definitions.
-- tests/writers wrote this file, from the reference in Python, which was written without the engine's code (tests/reference): change
-- that, not this. Assumes nothing.
use Prim.Native.Nat.{ℕ}
use Prim.Native.String.{String}
use mathlib.Core.Path.{◌≡◌, refl}
use mathlib.Core.List.{List, [], ◌∷◌, ◌++◌}
use lib.ListN.{replicate, take, drop}
use lib.IntN.{pos, neg_ℤ}
use Rattle.std.specs.Prelude.{Ok, Err}
use Rattle.refusal.specs.Numbered.{answer_of}
use Rattle.refusal.specs.declared.Refusal.TheVariants.{History, MonthsUfr}
use Rattle.arith.specs.Rounding.{low, high}
use Rattle.method.specs.Buffers.{entry_of, rate_entry_of}
use Rattle.monthsmodel.specs.Months.{months_of, oldest_first, total, ufr_refusal, ufr_answer}
use Rattle.monthsmodel.specs.Months.{months_refusal, months_valuation, months_factors_after, months_rates_after}
use Rattle.method.specs.Listing.{listing}
use Rattle.model.proofs.Computing.{pairs}
use Rattle.method.proofs.Computing.{text}
use Rattle.monthsmodel.proofs.Computing.{all}
use Rattle.monthsmodel.proofs.MonthsCases.{found_history, no_ufr_history, ring_months, plain_file, own_ufr_file}

-- months at the ends of two bytes, and a step past each limit
abbrev pub odd_history : List ℕ
odd_history =
    (0x80 ∷ 0x00 ∷ 0xff ∷ 0xff ∷ 0x00 ∷ 0x00 ∷ 0x7f ∷ 0xff ∷ []) ++ pairs 115 0xfc 0x17 ++ (0x27 ∷ 0x11 ∷ [])

odd-months : months_of odd_history ≡ (neg_ℤ (pos 32768) ∷ neg_ℤ (pos 1) ∷ pos 0 ∷ pos 32767 ∷ []) ++ replicate 115 (neg_ℤ (pos 1001)) ++ (pos 10001 ∷ [])
unfolding all
odd-months = refl

oldest-first : (oldest_first 0 ring_months ≡ ring_months)
    × (oldest_first 1 ring_months ≡ (pos 255 ∷ pos 256 ∷ []) ++ replicate 115 (pos 7) ++ (neg_ℤ (pos 1000) ∷ pos 10000 ∷ neg_ℤ (pos 500) ∷ []))
    × (oldest_first 118 ring_months ≡ (neg_ℤ (pos 1000) ∷ pos 10000 ∷ neg_ℤ (pos 500) ∷ pos 255 ∷ pos 256 ∷ []) ++ replicate 115 (pos 7))
unfolding all
oldest-first = (refl, refl, refl)

sums-of-months : (total ring_months ≡ pos 9816)
    × (total (oldest_first 118 ring_months) ≡ pos 9816)
    × (total (months_of no_ufr_history) ≡ neg_ℤ (pos 6120))
unfolding all
sums-of-months = (refl, refl, refl)

-- The limits and the order of 17, 18 and 19.
abbrev pub every-history_refusals : List ℕ
every-history_refusals =
    ufr_refusal [] 0  -- no byte
    ∷ ufr_refusal (pairs 119 0x0c 0x1c ++ (0x0c ∷ [])) 0  -- 239 bytes
    ∷ ufr_refusal (pairs 120 0x0c 0x1c ++ (0x00 ∷ [])) 0  -- 241 bytes
    ∷ ufr_refusal found_history 120  -- start 120
    ∷ ufr_refusal ((0x27 ∷ 0x11 ∷ []) ++ pairs 119 0x0c 0x1c) 120  -- 17 before 18
    ∷ ufr_refusal no_ufr_history 120  -- 17 before 19
    ∷ ufr_refusal ((0xfc ∷ 0x18 ∷ []) ++ pairs 118 0x0c 0x1c ++ (0x27 ∷ 0x10 ∷ [])) 119  -- both limits, start 119
    ∷ ufr_refusal ((0xfc ∷ 0x17 ∷ []) ++ pairs 119 0x0c 0x1c) 0  -- the first month: -1001
    ∷ ufr_refusal ((0x27 ∷ 0x11 ∷ []) ++ pairs 119 0x0c 0x1c) 0  -- the first month: 10001
    ∷ ufr_refusal (pairs 119 0x0c 0x1c ++ (0xfc ∷ 0x17 ∷ [])) 0  -- the last month: -1001
    ∷ ufr_refusal (pairs 119 0x0c 0x1c ++ (0x27 ∷ 0x11 ∷ [])) 0  -- the last month: 10001
    ∷ ufr_refusal (pairs 60 0xff 0xcd ++ (0xfc ∷ 0x17 ∷ []) ++ pairs 59 0xff 0xcd) 0  -- 18 before 19
    ∷ ufr_refusal (pairs 120 0xff 0xce) 0  -- a mean of -50
    ∷ ufr_refusal (pairs 119 0xff 0xce ++ (0xff ∷ 0xcd ∷ [])) 0  -- a 120th less
    ∷ ufr_refusal ((0x13 ∷ 0xb9 ∷ []) ++ pairs 119 0x13 0xba) 0  -- a mean of 5,050 less a 120th
    ∷ ufr_refusal (pairs 120 0x13 0xba) 0  -- a mean of 5,050
    ∷ []

every-history-refusals : every-history_refusals ≡ 17 ∷ 17 ∷ 17 ∷ 17 ∷ 17 ∷ 17 ∷ 0 ∷ 18 ∷ 18 ∷ 18 ∷ 18 ∷ 18 ∷ 0 ∷ 19 ∷ 0 ∷ 19 ∷ []
unfolding all
every-history-refusals = refl

ufr-answers : (ufr_answer found_history 119 ≡ Ok 3100)
    × (ufr_answer found_history 120 ≡ Err History)
    × (ufr_answer no_ufr_history 0 ≡ Err MonthsUfr)
unfolding all
ufr-answers = (refl, refl, refl)

-- The order of checks from the end of the file on.
abbrev pub months-order_refusals : List ℕ
months-order_refusals =
    months_refusal ((0x00 ∷ 0x66 ∷ 0x01 ∷ []) ++ pairs 60 0x00 0x00 ++ (0x01 ∷ 0x00 ∷ 0x00 ∷ 0x00 ∷ 0x07 ∷ []) ++ pairs 13 0x00 0x00 ++ (0x00 ∷ 0x01 ∷ 0x00 ∷ 0x00 ∷ 0x00 ∷ 0x00 ∷ [])) found_history 120 239 240  -- 13 before 17
    ∷ months_refusal ((0x00 ∷ 0x66 ∷ 0x01 ∷ []) ++ pairs 60 0x00 0x00 ++ (0x01 ∷ 0x00 ∷ 0x00 ∷ 0x00 ∷ 0x07 ∷ []) ++ pairs 13 0x00 0x00 ++ (0x00 ∷ 0x01 ∷ 0x00 ∷ 0x00 ∷ 0x00 ∷ 0x00 ∷ 0x00 ∷ [])) (pairs 119 0x0c 0x1c ++ (0x0c ∷ [])) 119 240 240  -- 2 before 17
    ∷ months_refusal ((0x00 ∷ 0x66 ∷ 0x01 ∷ 0x00 ∷ 0x01 ∷ []) ++ pairs 59 0x17 0x71 ++ (0x01 ∷ 0x00 ∷ 0x00 ∷ 0x00 ∷ 0x07 ∷ []) ++ pairs 13 0x00 0x00 ++ (0x00 ∷ 0x01 ∷ 0x00 ∷ 0x00 ∷ 0x00 ∷ 0x00 ∷ [])) found_history 120 240 240  -- 6 before 17
    ∷ months_refusal ((0x00 ∷ 0x66 ∷ 0x01 ∷ 0x00 ∷ 0x01 ∷ []) ++ pairs 59 0x17 0x71 ++ (0x01 ∷ 0x00 ∷ 0x00 ∷ 0x00 ∷ 0x07 ∷ []) ++ pairs 13 0x00 0x00 ++ (0x00 ∷ 0x01 ∷ 0x00 ∷ 0x00 ∷ 0x00 ∷ 0x00 ∷ [])) ((0xfc ∷ 0x17 ∷ []) ++ pairs 119 0x0c 0x1c) 119 240 240  -- 6 before 18
    ∷ months_refusal ((0x00 ∷ 0x66 ∷ 0x01 ∷ 0x00 ∷ 0x01 ∷ []) ++ pairs 59 0x17 0x71 ++ (0x01 ∷ 0x00 ∷ 0x00 ∷ 0x00 ∷ 0x07 ∷ []) ++ pairs 13 0x00 0x00 ++ (0x00 ∷ 0x01 ∷ 0x00 ∷ 0x00 ∷ 0x00 ∷ 0x00 ∷ [])) no_ufr_history 119 240 240  -- 6 before 19
    ∷ months_refusal ((0x00 ∷ 0x66 ∷ 0x01 ∷ []) ++ pairs 60 0x00 0x00 ++ (0x01 ∷ 0x00 ∷ 0x00 ∷ 0x00 ∷ 0x07 ∷ []) ++ pairs 13 0x00 0x00 ++ (0x00 ∷ 0x01 ∷ 0x00 ∷ 0x00 ∷ 0x00 ∷ 0x00 ∷ [])) ((0xfc ∷ 0x17 ∷ []) ++ pairs 119 0x0c 0x1c) 120 240 240  -- 17 before 18
    ∷ months_refusal ((0x00 ∷ 0x66 ∷ 0x01 ∷ []) ++ pairs 60 0x00 0x00 ++ (0x01 ∷ 0x00 ∷ 0x00 ∷ 0x00 ∷ 0x07 ∷ []) ++ pairs 13 0x00 0x00 ++ (0x00 ∷ 0x01 ∷ 0x00 ∷ 0x00 ∷ 0x00 ∷ 0x00 ∷ [])) (pairs 119 0xff 0xcd ++ (0x27 ∷ 0x11 ∷ [])) 119 240 240  -- 18 before 19
    ∷ months_refusal ((0x00 ∷ 0x66 ∷ 0x01 ∷ []) ++ pairs 60 0x00 0x00 ++ (0x01 ∷ 0x00 ∷ 0x00 ∷ 0x00 ∷ 0x07 ∷ []) ++ pairs 13 0x00 0x00 ++ (0x00 ∷ 0x01 ∷ 0x00 ∷ 0x00 ∷ 0x00 ∷ 0x00 ∷ [])) no_ufr_history 60 240 240  -- 19, from another start
    ∷ months_refusal ((0x00 ∷ 0x66 ∷ 0x01 ∷ []) ++ pairs 60 0x00 0x00 ++ (0x01 ∷ 0x00 ∷ 0x00 ∷ 0x00 ∷ 0x07 ∷ []) ++ pairs 13 0x00 0x00 ++ (0x00 ∷ 0x01 ∷ 0x00 ∷ 0x00 ∷ 0x00 ∷ 0x00 ∷ [])) found_history 119 240 240  -- none
    ∷ []

months-order-refusals : months-order_refusals ≡ 13 ∷ 2 ∷ 6 ∷ 6 ∷ 6 ∷ 17 ∷ 18 ∷ 19 ∷ 0 ∷ []
unfolding all
months-order-refusals = refl

abbrev pub plain_listing : List String
plain_listing =
    "L 99734108 99734109"
    ∷ "B 0 0"
    ∷ "A 109650000 109650000"
    ∷ "S1 0 1"
    ∷ "S2 0 0"
    ∷ "S3 0 0"
    ∷ "S4 0 0"
    ∷ "S5 0 0"
    ∷ "S6 9973410 9973411"
    ∷ "S 9973410 9973412"
    ∷ "V RESERVETEKORT"
    ∷ []

plain-listing : listing (answer_of (months_valuation plain_file found_history 119 240 240)) ≡ text plain_listing
unfolding all
plain-listing = refl

abbrev pub own_ufr_listing : List String
own_ufr_listing =
    "L 99734108 99734109"
    ∷ "B 0 0"
    ∷ "A 109650000 109650000"
    ∷ "S1 0 1"
    ∷ "S2 0 0"
    ∷ "S3 0 0"
    ∷ "S4 0 0"
    ∷ "S5 0 0"
    ∷ "S6 9973410 9973411"
    ∷ "S 9973410 9973412"
    ∷ "V RESERVETEKORT"
    ∷ []

own_ufr-listing : listing (answer_of (months_valuation own_ufr_file found_history 119 240 240)) ≡ text own_ufr_listing
unfolding all
own_ufr-listing = refl

-- Losses in four equity classes, whose correlation is 500.
abbrev pub classes_file : List ℕ
classes_file =
    (0x01 ∷ 0x76 ∷ 0x01 ∷ []) ++ pairs 60 0x00 0x00 ++ (0x01 ∷ 0x00 ∷ 0x00 ∷ 0x00 ∷ 0x07 ∷ 0x00 ∷ 0x00 ∷ 0x00 ∷ 0x00 ∷ 0x00 ∷ 0x00 ∷ 0x00 ∷ 0x07 ∷ 0x00 ∷ 0x00 ∷ 0x00 ∷ 0x00 ∷ 0x00 ∷ 0x00 ∷ 0x00 ∷ 0x0b ∷ 0x00 ∷ 0x00 ∷ 0x00 ∷ 0x00 ∷ 0x00 ∷ 0x00 ∷ 0x00 ∷ 0x0d ∷ 0x00 ∷ 0x00 ∷ 0x00 ∷ 0x00 ∷ 0x00 ∷ 0x00 ∷ 0x00 ∷ 0x11 ∷ []) ++ pairs 18 0x00 0x00 ++ (0x01 ∷ 0x2d ∷ 0x01 ∷ 0xc5 ∷ 0x00 ∷ 0xcf ∷ 0x00 ∷ 0x97 ∷ []) ++ pairs 7 0x00 0x00 ++ (0x00 ∷ 0x01 ∷ 0x00 ∷ 0x00 ∷ 0x00 ∷ 0x00 ∷ 0x01 ∷ 0xf4 ∷ [])

abbrev pub classes_listing : List String
classes_listing =
    "L 700 700"
    ∷ "B 0 0"
    ∷ "A 4800 4800"
    ∷ "S1 0 0"
    ∷ "S2 988 989"
    ∷ "S3 0 0"
    ∷ "S4 0 0"
    ∷ "S5 0 0"
    ∷ "S6 420 421"
    ∷ "S 1073 1075"
    ∷ "V VRIJ VERMOGEN"
    ∷ []

classes-listing : listing (answer_of (months_valuation classes_file found_history 119 240 240)) ≡ text classes_listing
unfolding all
classes-listing = refl

plain-factor-21 : (entry_of (months_factors_after plain_file found_history 119 (replicate 242 7) (replicate 241 (pos 7))) low 21 ≡ 997341088657)
    × (entry_of (months_factors_after plain_file found_history 119 (replicate 242 7) (replicate 241 (pos 7))) high 21 ≡ 997341088658)
unfolding all
plain-factor-21 = (refl, refl)

own_ufr-factor-21 : (entry_of (months_factors_after own_ufr_file found_history 0 (replicate 242 7) (replicate 241 (pos 7))) low 21 ≡ 997341088657)
    × (entry_of (months_factors_after own_ufr_file found_history 0 (replicate 242 7) (replicate 241 (pos 7))) high 21 ≡ 997341088658)
unfolding all
own_ufr-factor-21 = (refl, refl)

months-factors : take 2 (months_factors_after plain_file found_history 119 (replicate 242 7) (replicate 241 (pos 7))) ≡ (1000000000000 ∷ 1000000000000 ∷ [])
unfolding all
months-factors = refl

months-rates : take 2 (months_rates_after plain_file found_history 119 (replicate 242 7) (replicate 241 (pos 7))) ≡ (pos 0 ∷ pos 0 ∷ [])
unfolding all
months-rates = refl

months-rate-21 : rate_entry_of (months_rates_after plain_file found_history 119 (replicate 242 7) (replicate 241 (pos 7))) high 21 ≡ pos 13
unfolding all
months-rate-21 = refl

months-kept : (drop 240 (months_factors_after plain_file found_history 119 (replicate 242 7) (replicate 241 (pos 7))) ≡ (7 ∷ 7 ∷ []))
    × (drop 240 (months_rates_after plain_file found_history 119 (replicate 242 7) (replicate 241 (pos 7))) ≡ (pos 7 ∷ []))
unfolding all
months-kept = (refl, refl)

untouched-on-1 : (months_factors_after [] (pairs 119 0x0c 0x1c ++ (0x0c ∷ [])) 0 (replicate 240 7) (replicate 240 (pos 7)) ≡ replicate 240 7)
    × (months_rates_after [] (pairs 119 0x0c 0x1c ++ (0x0c ∷ [])) 0 (replicate 240 7) (replicate 240 (pos 7)) ≡ replicate 240 (pos 7))
unfolding all
untouched-on-1 = (refl, refl)

untouched-on-19 : (months_factors_after ((0x00 ∷ 0x66 ∷ 0x01 ∷ []) ++ pairs 60 0x00 0x00 ++ (0x01 ∷ 0x00 ∷ 0x00 ∷ 0x00 ∷ 0x07 ∷ []) ++ pairs 13 0x00 0x00 ++ (0x00 ∷ 0x01 ∷ 0x00 ∷ 0x00 ∷ 0x00 ∷ 0x00 ∷ [])) no_ufr_history 60 (replicate 240 7) (replicate 240 (pos 7)) ≡ replicate 240 7)
    × (months_rates_after ((0x00 ∷ 0x66 ∷ 0x01 ∷ []) ++ pairs 60 0x00 0x00 ++ (0x01 ∷ 0x00 ∷ 0x00 ∷ 0x00 ∷ 0x07 ∷ []) ++ pairs 13 0x00 0x00 ++ (0x00 ∷ 0x01 ∷ 0x00 ∷ 0x00 ∷ 0x00 ∷ 0x00 ∷ [])) no_ufr_history 60 (replicate 240 7) (replicate 240 (pos 7)) ≡ replicate 240 (pos 7))
unfolding all
untouched-on-19 = (refl, refl)

-- The order of checks of a file with rates in four bytes.
abbrev pub four-months_refusals : List ℕ
four-months_refusals =
    months_refusal ((0x00 ∷ 0xe4 ∷ 0x01 ∷ 0x00 ∷ 0x00 ∷ 0x00 ∷ 0x07 ∷ []) ++ pairs 13 0x00 0x00 ++ (0x00 ∷ 0x01 ∷ 0x00 ∷ 0x00 ∷ 0x00 ∷ 0x00 ∷ 0x01 ∷ 0x00 ∷ 0x0f ∷ 0x42 ∷ 0x41 ∷ []) ++ pairs 118 0x00 0x00) found_history 120 240 240  -- 5 before 17
    ∷ months_refusal ((0x00 ∷ 0xe4 ∷ 0x01 ∷ 0x00 ∷ 0x00 ∷ 0x00 ∷ 0x07 ∷ []) ++ pairs 13 0x00 0x00 ++ (0x00 ∷ 0x01 ∷ 0x00 ∷ 0x00 ∷ 0x00 ∷ 0x00 ∷ 0x01 ∷ 0x00 ∷ 0x00 ∷ 0x00 ∷ 0x01 ∷ 0x00 ∷ 0x09 ∷ 0x27 ∷ 0xc1 ∷ 0x00 ∷ 0x09 ∷ 0x27 ∷ 0xc1 ∷ 0x00 ∷ 0x09 ∷ 0x27 ∷ 0xc1 ∷ 0x00 ∷ 0x09 ∷ 0x27 ∷ 0xc1 ∷ 0x00 ∷ 0x09 ∷ 0x27 ∷ 0xc1 ∷ 0x00 ∷ 0x09 ∷ 0x27 ∷ 0xc1 ∷ 0x00 ∷ 0x09 ∷ 0x27 ∷ 0xc1 ∷ 0x00 ∷ 0x09 ∷ 0x27 ∷ 0xc1 ∷ 0x00 ∷ 0x09 ∷ 0x27 ∷ 0xc1 ∷ 0x00 ∷ 0x09 ∷ 0x27 ∷ 0xc1 ∷ 0x00 ∷ 0x09 ∷ 0x27 ∷ 0xc1 ∷ 0x00 ∷ 0x09 ∷ 0x27 ∷ 0xc1 ∷ 0x00 ∷ 0x09 ∷ 0x27 ∷ 0xc1 ∷ 0x00 ∷ 0x09 ∷ 0x27 ∷ 0xc1 ∷ 0x00 ∷ 0x09 ∷ 0x27 ∷ 0xc1 ∷ 0x00 ∷ 0x09 ∷ 0x27 ∷ 0xc1 ∷ 0x00 ∷ 0x09 ∷ 0x27 ∷ 0xc1 ∷ 0x00 ∷ 0x09 ∷ 0x27 ∷ 0xc1 ∷ 0x00 ∷ 0x09 ∷ 0x27 ∷ 0xc1 ∷ 0x00 ∷ 0x09 ∷ 0x27 ∷ 0xc1 ∷ 0x00 ∷ 0x09 ∷ 0x27 ∷ 0xc1 ∷ 0x00 ∷ 0x09 ∷ 0x27 ∷ 0xc1 ∷ 0x00 ∷ 0x09 ∷ 0x27 ∷ 0xc1 ∷ 0x00 ∷ 0x09 ∷ 0x27 ∷ 0xc1 ∷ 0x00 ∷ 0x09 ∷ 0x27 ∷ 0xc1 ∷ 0x00 ∷ 0x09 ∷ 0x27 ∷ 0xc1 ∷ 0x00 ∷ 0x09 ∷ 0x27 ∷ 0xc1 ∷ 0x00 ∷ 0x09 ∷ 0x27 ∷ 0xc1 ∷ 0x00 ∷ 0x09 ∷ 0x27 ∷ 0xc1 ∷ 0x00 ∷ 0x09 ∷ 0x27 ∷ 0xc1 ∷ 0x00 ∷ 0x09 ∷ 0x27 ∷ 0xc1 ∷ 0x00 ∷ 0x09 ∷ 0x27 ∷ 0xc1 ∷ 0x00 ∷ 0x09 ∷ 0x27 ∷ 0xc1 ∷ 0x00 ∷ 0x09 ∷ 0x27 ∷ 0xc1 ∷ 0x00 ∷ 0x09 ∷ 0x27 ∷ 0xc1 ∷ 0x00 ∷ 0x09 ∷ 0x27 ∷ 0xc1 ∷ 0x00 ∷ 0x09 ∷ 0x27 ∷ 0xc1 ∷ 0x00 ∷ 0x09 ∷ 0x27 ∷ 0xc1 ∷ 0x00 ∷ 0x09 ∷ 0x27 ∷ 0xc1 ∷ 0x00 ∷ 0x09 ∷ 0x27 ∷ 0xc1 ∷ 0x00 ∷ 0x09 ∷ 0x27 ∷ 0xc1 ∷ 0x00 ∷ 0x09 ∷ 0x27 ∷ 0xc1 ∷ 0x00 ∷ 0x09 ∷ 0x27 ∷ 0xc1 ∷ 0x00 ∷ 0x09 ∷ 0x27 ∷ 0xc1 ∷ 0x00 ∷ 0x09 ∷ 0x27 ∷ 0xc1 ∷ 0x00 ∷ 0x09 ∷ 0x27 ∷ 0xc1 ∷ 0x00 ∷ 0x09 ∷ 0x27 ∷ 0xc1 ∷ 0x00 ∷ 0x09 ∷ 0x27 ∷ 0xc1 ∷ 0x00 ∷ 0x09 ∷ 0x27 ∷ 0xc1 ∷ 0x00 ∷ 0x09 ∷ 0x27 ∷ 0xc1 ∷ 0x00 ∷ 0x09 ∷ 0x27 ∷ 0xc1 ∷ 0x00 ∷ 0x09 ∷ 0x27 ∷ 0xc1 ∷ 0x00 ∷ 0x09 ∷ 0x27 ∷ 0xc1 ∷ 0x00 ∷ 0x09 ∷ 0x27 ∷ 0xc1 ∷ 0x00 ∷ 0x09 ∷ 0x27 ∷ 0xc1 ∷ 0x00 ∷ 0x09 ∷ 0x27 ∷ 0xc1 ∷ 0x00 ∷ 0x09 ∷ 0x27 ∷ 0xc1 ∷ 0x00 ∷ 0x09 ∷ 0x27 ∷ 0xc1 ∷ 0x00 ∷ 0x09 ∷ 0x27 ∷ 0xc1 ∷ [])) found_history 120 240 240  -- 6 before 17
    ∷ months_refusal ((0x00 ∷ 0xe4 ∷ 0x01 ∷ 0x00 ∷ 0x00 ∷ 0x00 ∷ 0x07 ∷ []) ++ pairs 13 0x00 0x00 ++ (0x00 ∷ 0x01 ∷ 0x00 ∷ 0x00 ∷ 0x00 ∷ 0x00 ∷ 0x01 ∷ []) ++ pairs 120 0x00 0x00) found_history 120 240 240  -- 17
    ∷ months_refusal ((0x00 ∷ 0xe4 ∷ 0x01 ∷ 0x00 ∷ 0x00 ∷ 0x00 ∷ 0x07 ∷ []) ++ pairs 13 0x00 0x00 ++ (0x00 ∷ 0x01 ∷ 0x00 ∷ 0x00 ∷ 0x00 ∷ 0x00 ∷ 0x01 ∷ []) ++ pairs 120 0x00 0x00) found_history 119 240 240  -- none
    ∷ []

four-months-refusals : four-months_refusals ≡ 5 ∷ 6 ∷ 17 ∷ 0 ∷ []
unfolding all
four-months-refusals = refl
