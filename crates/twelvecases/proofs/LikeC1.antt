-- Files like C1: the first border, the answer's number, the rates' part, the lent buffers after a valuation, and the widths of the brackets
-- that a valuation answers. Each statement is computed. Assumes nothing.
use Prim.Native.Nat.{ℕ}
use mathlib.Core.Path.{◌≡◌, refl}
use mathlib.Core.List.{List, [], ◌++◌}
use lib.Dec.{lit≤}
use lib.ListN.{length, get_or, replicate}
use lib.IntN.{pos}
use Rattle.model.specs.Layout.{case_of}
use Rattle.model.specs.Refusals.{rates_part}
use Rattle.method.specs.Exact as Exact
use Rattle.method.specs.Rounded as Rounded
use Rattle.method.specs.Listing.{ascii, word}
use Rattle.model.specs.declared.figures.Verdict.TheVariants.{Dekkingstekort, Reservetekort}
use Rattle.method.specs.Buffers.{valuation_of, refusal_number, factors_after}
use Rattle.model.proofs.Computing.{pairs}
use Rattle.method.proofs.Computing.{all}
use Rattle.method.specs.TwelveFiles.{flat, with_days, with_cash, file_c1, file_c5}
use Rattle.method.proofs.Widths.{Narrow}

-- "DEKKINGSTEKORT if 20 × A < 21 × L": C1 with cash 1,049,999, and with 1,050,000, where both are the same
first-border : (word (Rounded.verdict (case_of (with_cash 0x10 0x05 0x8f))) ≡ ascii "DEKKINGSTEKORT")
    × (Exact.verdict (case_of (with_cash 0x10 0x05 0x8f)) ≡ Dekkingstekort)
    × (Rounded.verdict (case_of (with_cash 0x10 0x05 0x90)) ≡ Reservetekort)
    × (Exact.verdict (case_of (with_cash 0x10 0x05 0x90)) ≡ Reservetekort)
unfolding all
first-border = (refl, refl, refl, refl)

-- the number of an answer
answer-numbers : (refusal_number (valuation_of 240 240 file_c1) ≡ 0)
    × (refusal_number (valuation_of 240 240 []) ≡ 1)
    × (refusal_number (valuation_of 239 240 file_c1) ≡ 13)
unfolding all
answer-numbers = (refl, refl, refl)

-- "all n × 120 bytes; of a file that 1 to 12 refuse, an empty part"
rates-part : (length (rates_part file_c1) ≡ 120)
    × (rates_part file_c5 ≡ pairs 60 0 100 ++ pairs 60 0 101)
    × (rates_part (with_days (flat 0xfc 0x17)) ≡ [])
unfolding all
rates-part = (refl, refl, refl)

-- "into entries 0 to 239; later entries keep their content": C1's factors 1 and 20 are 1
lent-after-valuation : (length (factors_after file_c1 (replicate 241 7) (replicate 240 (pos 8))) ≡ 241)
    × (get_or (factors_after file_c1 (replicate 241 7) (replicate 240 (pos 8))) 0 0 ≡ 1000000000000)
    × (get_or (factors_after file_c1 (replicate 241 7) (replicate 240 (pos 8))) 39 0 ≡ 1000000000000)
    × (get_or (factors_after file_c1 (replicate 241 7) (replicate 240 (pos 8))) 240 0 ≡ 7)
unfolding all
lent-after-valuation = (refl, refl, refl, refl)

-- the widths that are allowed, of the answer to a file and of the case that its bytes hold
abbrev NarrowOn : List ℕ → Type 0
NarrowOn file = Narrow (case_of file) (valuation_of 240 240 file)

-- C1
c1-widths : NarrowOn file_c1
unfolding all
c1-widths = (lit≤ tt, lit≤ tt, lit≤ tt, lit≤ tt)

-- C1 at C3's rates, where L is no whole number of cents
c3-widths : NarrowOn (with_days (flat 0xfe 0x0c))
unfolding all
c3-widths = (lit≤ tt, lit≤ tt, lit≤ tt, lit≤ tt)
