-- What a file is read as, as computed statements about the definitions. Assumes nothing.
use Prim.Native.Nat.{ℕ}
use mathlib.Core.Path.{◌≡◌, refl}
use mathlib.Core.List.{List, [], ◌∷◌, ◌++◌}
use lib.ListN.{replicate}
use lib.IntN.{pos, neg_ℤ}
use Rattle.refusal.specs.declared.Refusal.TheVariants.{FlowCount, Flow}
use Rattle.model.specs.Numbers.{number, twos_complement, unsigned}
use Rattle.model.specs.Case.{all_except_currency, s}
use Rattle.model.specs.Fields.{number_of, counted}
use Rattle.model.specs.Layout.{case_of}
use Rattle.model.specs.Refusals.{first_of}
use Rattle.model.proofs.Computing.{pairs, all}

-- a file with no optional field, one flow and one day of the same rate, -500
abbrev pub low_file : List ℕ
low_file = 0x00 ∷ 0x66 ∷ 1 ∷ pairs 60 0xfe 0x0c ++ (1 ∷ 0x00 ∷ 0x00 ∷ 0x00 ∷ 0x07 ∷ []) ++ pairs 12 0 0 ++ (0 ∷ 0 ∷ 0 ∷ 1 ∷ 0 ∷ 0 ∷ 0 ∷ 0 ∷ [])

c3-number : twos_complement 2 (number (0xfe ∷ 0x0c ∷ []) 0 2) ≡ neg_ℤ (pos 500)
unfolding all
c3-number = refl

-- and back: 65,036 is 0xfe0c
c3-unsigned : unsigned 2 (neg_ℤ (pos 500)) ≡ 65036
unfolding all
c3-unsigned = refl

low-days : (case_of low_file).days ≡ replicate 60 (neg_ℤ (pos 500)) ∷ []
unfolding all
low-days = refl

-- a rate that a day does not have counts as 0; each day of a case has sixty
past-the-day : s ((pos 7 ∷ []) ∷ []) 2 ≡ pos 0
unfolding all
past-the-day = refl

default-ufr : (case_of low_file).ufr ≡ 4200
unfolding all
default-ufr = refl

all-except-currency : all_except_currency (record { mature = 1; emerging = 2; private = 4; property = 8; commodities = 16; credit = 32; cash = 64; currency = 128 }) ≡ 127
unfolding all
all-except-currency = refl

-- "its count byte (1, then 4 or 7), .. its numbers", of a field that is in no file too: two numbers past their limit where one is allowed
count-before-numbers : first_of ((counted 1 FlowCount Flow (number_of 4 0 5)).limits (6 ∷ 6 ∷ [])) ≡ 7
unfolding all
count-before-numbers = refl
