-- What is quick to compute of the files of the twelve hand-worked cases (`TwelveCases` of `twelvecases` gathers all of them); then 13 before
-- all other refusals, the lent buffers and the window on small files. Each statement is computed. Assumes nothing.
use Prim.Native.Nat.{ℕ, ◌*◌, ◌^◌, ◌<◌}
use mathlib.Core.Path.{◌≡◌, refl}
use mathlib.Core.Bool.{true, false}
use mathlib.Core.List.{List, [], ◌∷◌, ◌++◌}
use native.Mathlib.Omega.{arith}
use lib.Dec.{lit<, lit≤}
use lib.ListN.{replicate}
use lib.IntN.{pos, neg_ℤ}
use Rattle.std.specs.Prelude.{Some, None, Err, nat_le}
use Rattle.refusal.specs.Numbered.{answer_of}
use Rattle.refusal.specs.declared.Refusal.TheVariants.{Rate, Buffers}
use Rattle.arith.specs.Rounding.{End, low, high, divide}
use Rattle.model.specs.Numbers.{number, twos_complement, table}
use Rattle.method.specs.Brackets.{largest, smallest}
use Rattle.method.specs.Fraction.{◌//◌, ◌*ᶠ◌, ◌≐◌, whole, at_most, larger, ◌≤ʳ◌, ◌ʳ≤◌}
use Rattle.model.specs.Case.{FileCase, with_pension}
use Rattle.model.specs.Layout.{case_of}
use Rattle.model.specs.Refusals.{refusal}
use Rattle.method.specs.Curve.{base, up, curve, moved_sum, natural}
use Rattle.method.specs.Exact as Exact
use Rattle.method.specs.Rounded as Rounded
use Rattle.method.specs.Buffers.{
  by_term,
  entry_of,
  rate_entry_of,
  factor_entries,
  rate_entries,
  written,
  valuation_refusal,
  valuation_of,
  factors_after,
  rates_after,
}
use Rattle.method.specs.Window.{double, holds, window_point}
use Rattle.method.specs.Listing.{ascii, decimal, line, listing, listing_after, listing_length}
use Rattle.method.specs.TwelveFiles.{flat, with_days, file_c1, file_c2, file_c5, file_c8, file_c9, file_c10, file_c11, listing_c1}
use Rattle.arith.specs.declared.bracket.Bracket.{Bracket}
use Rattle.model.specs.declared.figures.Figures.{Figures}
use Rattle.model.specs.declared.figures.Verdict.TheVariants.{Dekkingstekort, Reservetekort, VrijVermogen, Onbeslist}
use Rattle.model.specs.declared.window.Point.TheVariants.{Factor, Money, Blank}
use Rattle.method.proofs.Computing.{all}
use Rattle.method.proofs.Pinned.{bent_case}

-- `≐`, by which exact figures are compared here, holds of the same number, and neither of another nor of what is no fraction
same_number : 2 // 4 ≐ 1 // 2
same_number = (lit< tt, lit< tt, refl)

other-number : 1 // 3 ≐ 1 // 2 → ⊥
other-number h = let e = h.2 in omega (arith, e)

no_fraction : (0 // 0 ≐ 1 // 1 → ⊥) × (1 // 1 ≐ 0 // 0 → ⊥)
no_fraction = (λ h. let r = h.0 in omega (arith, r), λ h. let r = h.1 in omega (arith, r))

compared : (at_most (1 // 3) (1 // 2) ≡ true) × (at_most (1 // 2) (2 // 4) ≡ true) × (at_most (1 // 2) (1 // 3) ≡ false)
compared = (refl, refl, refl)

-- of the same number in two forms the second
larger-one : (larger (1 // 3) (1 // 2) ≡ 1 // 2) × (larger (1 // 2) (1 // 3) ≡ 1 // 2) × (larger (2 // 4) (1 // 2) ≡ 1 // 2)
larger-one = (refl, refl, refl)

-- no number below 0, and no shift of what stands for term 0
natural-numbers : (natural (pos 7) ≡ 7) × (natural (neg_ℤ (pos 1)) ≡ 0)
natural-numbers = (refl, refl)

never-moved : (k : FileCase) → (moved_sum k up 0 ≡ pos 0) × (moved_sum k base 0 ≡ pos 0)
unfolding moved_sum
never-moved k = (refl, refl)

-- of the numbers 0 to 9 the largest to 3 and the smallest from 3 on, of 5 to 9 the smallest, and what stands for none
searched : (largest (λ i. nat_le i 3) 10 99 ≡ 3) × (smallest (nat_le 3) 0 10 99 ≡ 3) × (smallest (nat_le 3) 5 5 99 ≡ 5)
unfolding all
searched = (refl, refl, refl)

-- step i is the rate i - 2,000
steps : (Rounded.step_at 0 ≡ neg_ℤ (pos 2000)) × (Rounded.step_at 2000 ≡ pos 0) × (Rounded.step_at 22000 ≡ pos 20000)
steps = (refl, refl, refl)

-- of 1 % over a year: 10^12 × 100,000 ÷ 101,000
tested-year : (Rounded.tested low 1 3000 ≡ 990099009900) × (Rounded.tested high 1 3000 ≡ 990099009901)
unfolding all
tested-year = (refl, refl)

-- a result that is half of 10^12, at a factor of both ends that it is, and at factors on both sides of it
half : End → ℕ → ℕ
half e t = 500000000000

around_half : End → ℕ → ℕ
around_half low t = 499999999999
around_half high t = 500000000001

lower-tests :
    (Rounded.lower_test half 1 102000 ≡ true) × (Rounded.lower_test half 1 102001 ≡ false) × (Rounded.lower_test around_half 1 102000 ≡ false)
unfolding all half around_half
lower-tests = (refl, refl, refl)

upper-tests :
    (Rounded.upper_test half 1 102000 ≡ true) × (Rounded.upper_test half 1 101999 ≡ false) × (Rounded.upper_test around_half 1 102000 ≡ false)
unfolding all half around_half
upper-tests = (refl, refl, refl)

-- the factor of 1 % over a year: the step of 1 % passes neither test, since each takes the outer end of the result
percent : End → ℕ → ℕ
percent low t = 990099009900
percent high t = 990099009901

outer-ends : (Rounded.lower_test percent 1 3000 ≡ false) × (Rounded.upper_test percent 1 3000 ≡ false)
unfolding all percent
outer-ends = (refl, refl)

-- each rate is found by its own test among the 22,001 steps; what no step passes is 20,001
rates-found : (factor : End → ℕ → ℕ) (t : ℕ)
    → (Rounded.rate_of factor low t ≡ Rounded.step_at (largest (Rounded.lower_test factor t) 22001 22001))
    × (Rounded.rate_of factor high t ≡ Rounded.step_at (smallest (Rounded.upper_test factor t) 0 22001 22001))
unfolding Rounded.rate_of
rates-found factor t = (refl, refl)

-- a flow past term 20 is worth its adjusted factor
late-flow :
    Exact.L (with_pension (replicate 20 0 ++ (1 ∷ [])) (case_of file_c5)) base ≐ whole 100 *ᶠ Exact.factor (curve (case_of file_c5) base) 21
unfolding all
late-flow = (lit< tt, lit< tt, refl)

-- the rates of the files of C8, C10 and C11, on each of which their results do not depend
rates-of-files : ((case_of file_c10).days ≡ replicate 60 (pos 0) ∷ [])
    × ((case_of file_c11).days ≡ replicate 60 (pos 0) ∷ [])
    × ((case_of (file_c8 0x17 0x70)).days ≡ (pos 0 ∷ replicate 59 (pos 6000)) ∷ [])
unfolding all
rates-of-files = (refl, refl, refl)

-- the largest flow, at term 32 of a bent curve, as a pension and as a bond: each end by its own factor, the pension by the adjusted one
largest_at_32 : FileCase
largest_at_32 =
    let flows = replicate 31 0 ++ (100000000 ∷ []) in
    record bent_case { pension = flows; bonds = flows }

worth-at-32 :
    let c = curve bent_case base in
    (Rounded.L largest_at_32 base low ≡ divide low (100000000 * Rounded.factor c low 32) (10 ^ 10))
    × (Rounded.L largest_at_32 base high ≡ divide high (100000000 * Rounded.factor c high 32) (10 ^ 10))
    × (Rounded.B largest_at_32 base low ≡ divide low (100000000 * Rounded.unadjusted c low 32) (10 ^ 10))
    × (Rounded.B largest_at_32 base high ≡ divide high (100000000 * Rounded.unadjusted c high 32) (10 ^ 10))
unfolding all largest_at_32
worth-at-32 = (refl, refl, refl, refl)

-- a figure by its two ends
between : ℕ → ℕ → End → ℕ
between l u low = l
between l u high = u

-- verdicts by A, L and S in numbers: at 105 %, one below it, and with an end on either side
verdicts-at-first :
    (Rounded.judge (between 1049 1049) (between 1000 1000) (between 50 50) ≡ Dekkingstekort)
    × (Rounded.judge (between 1050 1050) (between 1000 1000) (between 50 50) ≡ VrijVermogen)
    × (Rounded.judge (between 1049 1050) (between 1000 1000) (between 60 60) ≡ Onbeslist)
unfolding all between
verdicts-at-first = (refl, refl, refl)

-- and at L + S
verdicts-at-second :
    (Rounded.judge (between 1199 1199) (between 1000 1000) (between 200 200) ≡ Reservetekort)
    × (Rounded.judge (between 1200 1200) (between 1000 1000) (between 200 200) ≡ VrijVermogen)
    × (Rounded.judge (between 1199 1200) (between 1000 1000) (between 200 200) ≡ Onbeslist)
unfolding all between
verdicts-at-second = (refl, refl, refl)

-- each loss at the lower end is its own lower end: a thousandth of a euro is a tenth of a cent, and 0 rounded down
small-losses :
    Rounded.buffer_of
    (λ m e. 0)
    (λ m e. 0)
    (record { mature = 1; emerging = 1; private = 1; property = 1; commodities = 1; credit = 1; cash = 0; currency = 1 })
    (record {
      up_shift = 0;
      down_shift = 0;
      mature_fall = 1;
      emerging_fall = 1;
      private_fall = 1;
      property_fall = 1;
      currency_fall = 1;
      commodities_fall = 1;
      spread_rise = 1;
      correlation = 0;
      spread = 1;
      duration = 1;
      equity_correlation = 1000;
    })
    (record { heads = 1; pension_age = 0; mean_age = 0 })
    low
    ≡ 0
unfolding all
small-losses = refl

-- S6 of liabilities between 1,000,000 and 4,000,000 cents, of 9,000 members at the pension age: each end by its own
apart : End → ℕ
apart low = 1000000
apart high = 4000000

mortality-ends : (Rounded.mortality_loss apart (record { heads = 9000; pension_age = 0; mean_age = 0 }) low ≡ 20976)
    × (Rounded.mortality_loss apart (record { heads = 9000; pension_age = 0; mean_age = 0 }) high ≡ 83905)
unfolding all apart
mortality-ends = (refl, refl)

-- short of 105 % of what is owed on the base curve, and not of what would be owed on the up curve
short_at_base : FileCase
short_at_base =
    let k = case_of file_c1 in
    record k { bonds = 1000000 ∷ []; amounts = record k.amounts { cash = 45000 }; shocks = record k.shocks { up_shift = 1000 } }

short-verdict : (Exact.verdict short_at_base ≡ Dekkingstekort) × (Rounded.verdict short_at_base ≡ Dekkingstekort)
unfolding all short_at_base
short-verdict = (refl, refl)

-- past 105 % with the bonds as they are worth on the base curve, and not as on the up curve
past_at_base : FileCase
past_at_base = record short_at_base { amounts = record (short_at_base.amounts) { cash = 55000 } }

past-verdict : (Exact.verdict past_at_base ≡ Reservetekort) × (Rounded.verdict past_at_base ≡ Reservetekort)
unfolding all short_at_base past_at_base
past-verdict = (refl, refl)

-- and what is shown of it is of the base curve too
short-figures :
    let f = Rounded.figures short_at_base in
    (f.l.upper ≡ 100000000) × (f.b.upper ≡ 100000000) × (f.a.upper ≡ 104500000) × (f.s6.upper ≡ 10000000)
unfolding all short_at_base
short-figures = (refl, refl, refl, refl)

searched-for-none : (largest (nat_le 10) 10 99 ≡ 99) × (smallest (nat_le 10) 0 10 99 ≡ 99)
unfolding all
searched-for-none = (refl, refl)

pub c1-listing : listing (answer_of (valuation_of 240 240 file_c1)) ≡ listing_c1
unfolding all
c1-listing = refl

pub c1-exact : Exact.verdict (case_of file_c1) ≡ VrijVermogen
unfolding all
c1-exact = refl

pub c2-verdicts : (Rounded.verdict (case_of file_c2) ≡ Reservetekort) × (Exact.verdict (case_of file_c2) ≡ Reservetekort)
unfolding all
c2-verdicts = (refl, refl)

pub c3-bytes : twos_complement 2 (number (0xfe ∷ 0x0c ∷ []) 0 2) ≡ neg_ℤ (pos 500)
unfolding all
c3-bytes = refl

pub c3-days : (case_of (with_days (flat 0xfe 0x0c))).days ≡ replicate 60 (neg_ℤ (pos 500)) ∷ []
unfolding all
c3-days = refl

pub c3-factor : Exact.factor (curve (case_of (with_days (flat 0xfe 0x0c))) base) 1 ≐ 200 // 199
unfolding all
c3-factor = (lit< tt, lit< tt, refl)

pub c5-factor : Exact.factor (curve (case_of file_c5) base) 1 ≐ 200000 // 200201
unfolding all
c5-factor = (lit< tt, lit< tt, refl)

pub c6-factor : Exact.factor (curve (case_of file_c1) base) 21 ≐ 250000 // 250903
unfolding all
c6-factor = (lit< tt, lit< tt, refl)

pub c7-growth : Exact.growth (curve (case_of (with_days (flat 0x13 0x88))) base) 21 ≐ 1049312 // 1000000
unfolding all
c7-growth = (lit< tt, lit< tt, refl)

pub c9-buffer : (Rounded.buffer low 500 30000 40000 0 0 0 0 ≡ 60827) × (Rounded.buffer high 500 30000 40000 0 0 0 0 ≡ 60828)
unfolding all
c9-buffer = (refl, refl)

pub c9-exact : (Exact.S1 (case_of file_c9) ≐ 30000 // 1)
    × (Exact.S2² (case_of file_c9) ≐ 1600000000 // 1)
    × (whole (60827 * 60827) ≤ʳ Exact.S² (case_of file_c9))
    × (Exact.S² (case_of file_c9) ʳ≤ whole (60828 * 60828))
unfolding all
c9-exact = ((lit< tt, lit< tt, refl), (lit< tt, lit< tt, refl), lit≤ tt, (lit≤ tt, lit≤ tt))

pub c10-TSO : Exact.TSO (case_of file_c10) ≐ 65 // 10
unfolding all
c10-TSO = (lit< tt, lit< tt, refl)

pub c11-TSO : (k : FileCase) → k.people.pension_age < k.people.mean_age → Exact.TSO k ≐ 2 // 1
c11-TSO k h = (lit< tt, lit< tt, omega (arith, h))

pub c11-file : ((case_of file_c11).people.pension_age < (case_of file_c11).people.mean_age) × (Exact.TSO (case_of file_c11) ≐ 2 // 1)
unfolding all
c11-file = (lit< tt, (lit< tt, lit< tt, refl))

pub c12-refusal : refusal [] ≡ 1
unfolding all
c12-refusal = refl

-- "Order: 13; then the map"; the rest of the order is in Refused.antt of the crate `refusals`
order-13 : (valuation_refusal 239 240 [] ≡ 13) × (valuation_refusal 240 239 [] ≡ 13) × (valuation_refusal 240 240 [] ≡ 1)
unfolding all
order-13 = (refl, refl, refl)

-- "A refused file prints R and its number, one space between, as its only line."
listing-refused : (listing (answer_of (valuation_of 0 0 file_c1)) ≡ ascii "R 13\n") × (listing (answer_of (valuation_of 240 240 [])) ≡ ascii "R 1\n")
unfolding all
listing-refused = (refl, refl)

-- entries in front of what a buffer of 241 holds, and of a refused call nothing; an entry that is not there
written-in-front : (written {A = ℕ} None (1 ∷ 2 ∷ []) (replicate 241 7) ≡ 1 ∷ 2 ∷ 7 ∷ []) × (written {A = ℕ} (Some Rate) (1 ∷ []) (7 ∷ []) ≡ 7 ∷ [])
written-in-front = (refl, refl)

no-entry : (entry_of [] low 1 ≡ 0) × (rate_entry_of [] high 1 ≡ pos 0)
no-entry = (refl, refl)

-- the entries are those of the base curve, and zero rates come of its adjusted factors
base-entries : (k : FileCase)
    → (entry_of (factor_entries k) high 2 ≡ Rounded.factor (curve k base) high 2)
    × (rate_entry_of (rate_entries k) low 2 ≡ Rounded.rate_of (Rounded.factor (curve k base)) low 2)
unfolding factor_entries rate_entries by_term
base-entries k = (refl, refl)

-- either buffer too short, and neither call writes
too-short : (valuation_of 239 240 file_c1 ≡ Err Buffers) × (valuation_of 240 239 file_c1 ≡ Err Buffers)
unfolding all
too-short = (refl, refl)

untouched : (factors_after file_c1 (replicate 239 7) (replicate 240 (pos 8)) ≡ replicate 239 7)
    × (rates_after file_c1 (replicate 239 7) (replicate 240 (pos 8)) ≡ replicate 240 (pos 8))
    × (rates_after file_c1 (replicate 240 7) (replicate 239 (pos 8)) ≡ replicate 239 (pos 8))
unfolding all
untouched = (refl, refl, refl)

-- "A refusal .. changes nothing lent.": by 13, where a rate is lent too few, and by 1
lent-after-refusal : (factors_after file_c1 (replicate 241 7) (replicate 239 (pos 8)) ≡ replicate 241 7)
    × (factors_after [] (replicate 241 7) (replicate 240 (pos 8)) ≡ replicate 241 7)
    × (rates_after [] (replicate 241 7) (replicate 241 (pos 8)) ≡ replicate 241 (pos 8))
unfolding all
lent-after-refusal = (refl, refl, refl)

-- one digit, and twenty
decimals : (decimal 9 ≡ ascii "9") × (decimal 10000000000000000000 ≡ ascii "10000000000000000000")
unfolding all
decimals = (refl, refl)

line-of-b : line (ascii "B") (record { lower = 12; upper = 34 }) ≡ ascii "B 12 34\n"
unfolding all
line-of-b = refl

-- a listing of four bytes into a buffer of five, of four and of three
listing-lent : (listing_after (Err 9) (replicate 5 7) ≡ ascii "R 9\n" ++ (7 ∷ []))
    × (listing_after (Err 9) (replicate 4 7) ≡ ascii "R 9\n")
    × (listing_after (Err 9) (replicate 3 7) ≡ replicate 3 7)
unfolding listing_after all
listing-lent = (refl, refl, refl)

listing-lengths : (listing_length (Err 9) 5 ≡ 4) × (listing_length (Err 9) 4 ≡ 4) × (listing_length (Err 9) 3 ≡ 0)
unfolding listing_length all
listing-lengths = (refl, refl, refl)

-- a double holds a whole number up to 2^53, which is 9,007,199,254,740,992
held-by-doubles :
    (holds (record { lower = 9007199254740992; upper = 9007199254740992 }) ≡ true)
    × (holds (record { lower = 9007199254740993; upper = 0 }) ≡ false)
    × (holds (record { lower = 0; upper = 9007199254740993 }) ≡ false)
held-by-doubles = (refl, refl, refl)

-- The window, on 240 entries that are 0 to 239 and ten brackets 1 2, 3 4, .., 19 20: "a factor (1 to 120), a money figure (121 to 130:
-- L B A S1 S2 S3 S4 S5 S6 S) or blank (any other number)".
abbrev counting : List ℕ
counting = table (λ i. i) 240

abbrev ends : ℕ → ℕ → Bracket
ends l u = record { lower = l; upper = u }

abbrev ten_brackets : Figures
ten_brackets = record {
  l = ends 1 2;
  b = ends 3 4;
  a = ends 5 6;
  s1 = ends 7 8;
  s2 = ends 9 10;
  s3 = ends 11 12;
  s4 = ends 13 14;
  s5 = ends 15 16;
  s6 = ends 17 18;
  s = ends 19 20;
}

-- figures of 0 with another S
abbrev with_s : ℕ → ℕ → Figures
with_s l u = record {
  l = ends 0 0;
  b = ends 0 0;
  a = ends 0 0;
  s1 = ends 0 0;
  s2 = ends 0 0;
  s3 = ends 0 0;
  s4 = ends 0 0;
  s5 = ends 0 0;
  s6 = ends 0 0;
  s = ends l u;
}

-- a factor needs its own two entries: 2 are enough for factor 1, 240 for factor 120; and a double holds 2^53
window-factors : (window_point 1 counting ten_brackets ≡ Factor (double 0) (double 1))
    × (window_point 120 counting ten_brackets ≡ Factor (double 238) (double 239))
    × (window_point 1 (5 ∷ 6 ∷ []) ten_brackets ≡ Factor (double 5) (double 6))
    × (window_point 119 (table (λ i. i) 239) ten_brackets ≡ Factor (double 236) (double 237))
    × (window_point 1 (0 ∷ 9007199254740992 ∷ []) ten_brackets ≡ Factor (double 0) (double 9007199254740992))
unfolding all
window-factors = (refl, refl, refl, refl, refl)

-- each of the ten in its place; a money figure needs no factor
window-money : (window_point 121 counting ten_brackets ≡ Money (double 1) (double 2))
    × (window_point 122 counting ten_brackets ≡ Money (double 3) (double 4))
    × (window_point 123 counting ten_brackets ≡ Money (double 5) (double 6))
    × (window_point 124 counting ten_brackets ≡ Money (double 7) (double 8))
    × (window_point 125 counting ten_brackets ≡ Money (double 9) (double 10))
    × (window_point 126 counting ten_brackets ≡ Money (double 11) (double 12))
    × (window_point 127 counting ten_brackets ≡ Money (double 13) (double 14))
    × (window_point 128 counting ten_brackets ≡ Money (double 15) (double 16))
    × (window_point 129 counting ten_brackets ≡ Money (double 17) (double 18))
    × (window_point 130 counting ten_brackets ≡ Money (double 19) (double 20))
    × (window_point 121 [] ten_brackets ≡ Money (double 1) (double 2))
    × (window_point 130 [] ten_brackets ≡ Money (double 19) (double 20))
    × (window_point 123 (replicate 239 0) ten_brackets ≡ Money (double 5) (double 6))
unfolding all
window-money = (refl, refl, refl, refl, refl, refl, refl, refl, refl, refl, refl, refl, refl)

-- any other number, also 2^63, and 131 where 262 entries are lent; a factor that lacks an entry; and 2^53 + 1, which a double does not hold,
-- as either end of a factor or of a money figure
window-blank : (window_point 0 counting ten_brackets ≡ Blank)
    × (window_point 131 counting ten_brackets ≡ Blank)
    × (window_point 131 (replicate 262 0) ten_brackets ≡ Blank)
    × (window_point 9223372036854775808 counting ten_brackets ≡ Blank)
    × (window_point 1 [] ten_brackets ≡ Blank)
    × (window_point 1 (5 ∷ []) ten_brackets ≡ Blank)
    × (window_point 120 (replicate 239 0) ten_brackets ≡ Blank)
    × (window_point 1 (0 ∷ 9007199254740993 ∷ []) ten_brackets ≡ Blank)
    × (window_point 1 (9007199254740993 ∷ 9007199254740993 ∷ []) ten_brackets ≡ Blank)
    × (window_point 130 counting (with_s 0 9007199254740993) ≡ Blank)
    × (window_point 130 counting (with_s 9007199254740993 9007199254740993) ≡ Blank)
    × (window_point 130 counting (with_s 0 9007199254740992) ≡ Money (double 0) (double 9007199254740992))
unfolding all
window-blank = (refl, refl, refl, refl, refl, refl, refl, refl, refl, refl, refl, refl)
