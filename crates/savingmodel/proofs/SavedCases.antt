-- Saving a case: which number it is refused with, its shortest bytes, the answer and the lent buffer afterwards, as computed statements about
-- the definitions.
-- tests/writers wrote this file, from the reference in Python, which was written without the engine's code (tests/reference): change
-- that, not this. Assumes nothing.
use Prim.Native.Nat.{ℕ}
use mathlib.Core.Path.{◌≡◌, refl}
use mathlib.Core.List.{List, [], ◌∷◌, ◌++◌, map}
use lib.ListN.{replicate}
use lib.IntN.{pos, neg_ℤ}
use Rattle.std.specs.Prelude.{Ok, Err}
use Rattle.refusal.specs.declared.Refusal.TheVariants.{Forward, Room}
use Rattle.model.specs.Case.{FileCase}
use Rattle.savingmodel.specs.Saving.{given, case_refusal, shortest, save_refusal, save_answer, saved_after}
use Rattle.model.specs.declared.case.Amounts.{Amounts}
use Rattle.model.specs.declared.case.Shocks.{Shocks}
use Rattle.model.specs.declared.case.CaseFields.{CaseFields}
use Rattle.model.proofs.Computing.{pairs}
use Rattle.savingmodel.proofs.Computing.{all}

-- eight amounts, in the file's order
abbrev pub amounts_of : ℕ → ℕ → ℕ → ℕ → ℕ → ℕ → ℕ → ℕ → Amounts
amounts_of a b c d e f g h = record {
  mature = a;
  emerging = b;
  private = c;
  property = d;
  commodities = e;
  credit = f;
  cash = g;
  currency = h;
}

-- thirteen shocks, as the record has them
abbrev pub shocks_of : ℕ → ℕ → ℕ → ℕ → ℕ → ℕ → ℕ → ℕ → ℕ → ℕ → ℕ → ℕ → ℕ → Shocks
shocks_of a b c d e f g h i j k l m = record {
  up_shift = a;
  down_shift = b;
  mature_fall = c;
  emerging_fall = d;
  private_fall = e;
  property_fall = f;
  currency_fall = g;
  commodities_fall = h;
  spread_rise = i;
  correlation = j;
  spread = k;
  duration = l;
  equity_correlation = m;
}

-- the number of bytes of a rate, UFR, amounts, shocks, head count, pension age and mean age
abbrev pub fields_of : ℕ → ℕ → Amounts → Shocks → ℕ → ℕ → ℕ → CaseFields
fields_of a b c d e f g = record {
  rate_bytes = a;
  ufr = b;
  amounts = c;
  shocks = d;
  people = record {
    heads = e;
    pension_age = f;
    mean_age = g;
  };
}

abbrev pub no_amounts : Amounts
no_amounts =
    amounts_of 0 0 0 0 0 0 0 0

-- the equity classes fall together
abbrev pub no_shocks : Shocks
no_shocks =
    shocks_of 0 0 0 0 0 0 0 0 0 0 0 0 1000

-- Every number at its limits; then one at a time past them.
abbrev pub limits_cases : List FileCase
limits_cases =
    given (fields_of 2 0 no_amounts (shocks_of 0 0 0 0 0 0 0 0 0 0 0 0 0) 1 0 0) (replicate 60 (neg_ℤ (pos 1000))) (0 ∷ []) []  -- all at their lower limits
    ∷ given (fields_of 2 5000 (amounts_of 100000000000 100000000000 100000000000 100000000000 100000000000 100000000000 100000000000 100000000000) (shocks_of 1000 1000 1000 1000 1000 1000 1000 1000 1000 1000 10000 500 1000) 1000000 1200 1200) (replicate 60 (pos 10000)) (100000000 ∷ []) (100000000 ∷ [])  -- all at their upper limits
    ∷ given (fields_of 2 5001 no_amounts no_shocks 1 0 0) (replicate 60 (pos 0)) (7 ∷ []) (0 ∷ [])  -- ufr: 5001
    ∷ given (fields_of 2 4200 no_amounts no_shocks 1 0 0) ((neg_ℤ (pos 1001) ∷ []) ++ replicate 59 (pos 0)) (7 ∷ []) (0 ∷ [])  -- rates 1: -1001
    ∷ given (fields_of 2 4200 no_amounts no_shocks 1 0 0) ((pos 10001 ∷ []) ++ replicate 59 (pos 0)) (7 ∷ []) (0 ∷ [])  -- rates 1: 10001
    ∷ given (fields_of 2 4200 no_amounts no_shocks 1 0 0) (replicate 30 (pos 0) ++ (neg_ℤ (pos 1001) ∷ []) ++ replicate 29 (pos 0)) (7 ∷ []) (0 ∷ [])  -- rates 31: -1001
    ∷ given (fields_of 2 4200 no_amounts no_shocks 1 0 0) (replicate 30 (pos 0) ++ (pos 10001 ∷ []) ++ replicate 29 (pos 0)) (7 ∷ []) (0 ∷ [])  -- rates 31: 10001
    ∷ given (fields_of 2 4200 no_amounts no_shocks 1 0 0) (replicate 59 (pos 0) ++ (neg_ℤ (pos 1001) ∷ [])) (7 ∷ []) (0 ∷ [])  -- rates 60: -1001
    ∷ given (fields_of 2 4200 no_amounts no_shocks 1 0 0) (replicate 59 (pos 0) ++ (pos 10001 ∷ [])) (7 ∷ []) (0 ∷ [])  -- rates 60: 10001
    ∷ given (fields_of 2 4200 no_amounts no_shocks 1 0 0) (replicate 60 (pos 0)) (100000001 ∷ []) (0 ∷ [])  -- pension 1: 100000001
    ∷ given (fields_of 2 4200 no_amounts no_shocks 1 0 0) (replicate 60 (pos 0)) (7 ∷ []) (100000001 ∷ [])  -- bonds 1: 100000001
    ∷ given (fields_of 2 4200 (amounts_of 100000000001 0 0 0 0 0 0 0) no_shocks 1 0 0) (replicate 60 (pos 0)) (7 ∷ []) (0 ∷ [])  -- amounts mature: 100000000001
    ∷ given (fields_of 2 4200 (amounts_of 0 100000000001 0 0 0 0 0 0) no_shocks 1 0 0) (replicate 60 (pos 0)) (7 ∷ []) (0 ∷ [])  -- amounts emerging: 100000000001
    ∷ given (fields_of 2 4200 (amounts_of 0 0 100000000001 0 0 0 0 0) no_shocks 1 0 0) (replicate 60 (pos 0)) (7 ∷ []) (0 ∷ [])  -- amounts private: 100000000001
    ∷ given (fields_of 2 4200 (amounts_of 0 0 0 100000000001 0 0 0 0) no_shocks 1 0 0) (replicate 60 (pos 0)) (7 ∷ []) (0 ∷ [])  -- amounts property: 100000000001
    ∷ given (fields_of 2 4200 (amounts_of 0 0 0 0 100000000001 0 0 0) no_shocks 1 0 0) (replicate 60 (pos 0)) (7 ∷ []) (0 ∷ [])  -- amounts commodities: 100000000001
    ∷ given (fields_of 2 4200 (amounts_of 0 0 0 0 0 100000000001 0 0) no_shocks 1 0 0) (replicate 60 (pos 0)) (7 ∷ []) (0 ∷ [])  -- amounts credit: 100000000001
    ∷ given (fields_of 2 4200 (amounts_of 0 0 0 0 0 0 100000000001 0) no_shocks 1 0 0) (replicate 60 (pos 0)) (7 ∷ []) (0 ∷ [])  -- amounts cash: 100000000001
    ∷ given (fields_of 2 4200 (amounts_of 0 0 0 0 0 0 0 100000000001) no_shocks 1 0 0) (replicate 60 (pos 0)) (7 ∷ []) (0 ∷ [])  -- amounts currency: 100000000001
    ∷ given (fields_of 2 4200 no_amounts (shocks_of 1001 0 0 0 0 0 0 0 0 0 0 0 1000) 1 0 0) (replicate 60 (pos 0)) (7 ∷ []) (0 ∷ [])  -- shocks up_shift: 1001
    ∷ given (fields_of 2 4200 no_amounts (shocks_of 0 1001 0 0 0 0 0 0 0 0 0 0 1000) 1 0 0) (replicate 60 (pos 0)) (7 ∷ []) (0 ∷ [])  -- shocks down_shift: 1001
    ∷ given (fields_of 2 4200 no_amounts (shocks_of 0 0 1001 0 0 0 0 0 0 0 0 0 1000) 1 0 0) (replicate 60 (pos 0)) (7 ∷ []) (0 ∷ [])  -- shocks mature_fall: 1001
    ∷ given (fields_of 2 4200 no_amounts (shocks_of 0 0 0 1001 0 0 0 0 0 0 0 0 1000) 1 0 0) (replicate 60 (pos 0)) (7 ∷ []) (0 ∷ [])  -- shocks emerging_fall: 1001
    ∷ given (fields_of 2 4200 no_amounts (shocks_of 0 0 0 0 1001 0 0 0 0 0 0 0 1000) 1 0 0) (replicate 60 (pos 0)) (7 ∷ []) (0 ∷ [])  -- shocks private_fall: 1001
    ∷ given (fields_of 2 4200 no_amounts (shocks_of 0 0 0 0 0 1001 0 0 0 0 0 0 1000) 1 0 0) (replicate 60 (pos 0)) (7 ∷ []) (0 ∷ [])  -- shocks property_fall: 1001
    ∷ given (fields_of 2 4200 no_amounts (shocks_of 0 0 0 0 0 0 1001 0 0 0 0 0 1000) 1 0 0) (replicate 60 (pos 0)) (7 ∷ []) (0 ∷ [])  -- shocks currency_fall: 1001
    ∷ given (fields_of 2 4200 no_amounts (shocks_of 0 0 0 0 0 0 0 1001 0 0 0 0 1000) 1 0 0) (replicate 60 (pos 0)) (7 ∷ []) (0 ∷ [])  -- shocks commodities_fall: 1001
    ∷ given (fields_of 2 4200 no_amounts (shocks_of 0 0 0 0 0 0 0 0 1001 0 0 0 1000) 1 0 0) (replicate 60 (pos 0)) (7 ∷ []) (0 ∷ [])  -- shocks spread_rise: 1001
    ∷ given (fields_of 2 4200 no_amounts (shocks_of 0 0 0 0 0 0 0 0 0 1001 0 0 1000) 1 0 0) (replicate 60 (pos 0)) (7 ∷ []) (0 ∷ [])  -- shocks correlation: 1001
    ∷ given (fields_of 2 4200 no_amounts (shocks_of 0 0 0 0 0 0 0 0 0 0 10001 0 1000) 1 0 0) (replicate 60 (pos 0)) (7 ∷ []) (0 ∷ [])  -- shocks spread: 10001
    ∷ given (fields_of 2 4200 no_amounts (shocks_of 0 0 0 0 0 0 0 0 0 0 0 501 1000) 1 0 0) (replicate 60 (pos 0)) (7 ∷ []) (0 ∷ [])  -- shocks duration: 501
    ∷ given (fields_of 2 4200 no_amounts (shocks_of 0 0 0 0 0 0 0 0 0 0 0 0 1001) 1 0 0) (replicate 60 (pos 0)) (7 ∷ []) (0 ∷ [])  -- shocks equity_correlation: 1001
    ∷ given (fields_of 2 4200 no_amounts no_shocks 0 0 0) (replicate 60 (pos 0)) (7 ∷ []) (0 ∷ [])  -- heads: 0
    ∷ given (fields_of 2 4200 no_amounts no_shocks 1000001 0 0) (replicate 60 (pos 0)) (7 ∷ []) (0 ∷ [])  -- heads: 1000001
    ∷ given (fields_of 2 4200 no_amounts no_shocks 1 1201 0) (replicate 60 (pos 0)) (7 ∷ []) (0 ∷ [])  -- pension_age: 1201
    ∷ given (fields_of 2 4200 no_amounts no_shocks 1 0 1201) (replicate 60 (pos 0)) (7 ∷ []) (0 ∷ [])  -- mean_age: 1201
    ∷ []

case-limits : map case_refusal limits_cases ≡ 0 ∷ 0 ∷ 9 ∷ 5 ∷ 5 ∷ 5 ∷ 5 ∷ 5 ∷ 5 ∷ 8 ∷ 8 ∷ 10 ∷ 10 ∷ 10 ∷ 10 ∷ 10 ∷ 10 ∷ 10 ∷ 10 ∷ 11 ∷ 11 ∷ 11 ∷ 11 ∷ 11 ∷ 11 ∷ 11 ∷ 11 ∷ 11 ∷ 11 ∷ 11 ∷ 11 ∷ 11 ∷ 12 ∷ 12 ∷ 12 ∷ 12 ∷ []
unfolding all
case-limits = refl

-- n: 1 to 70, and rates that are no whole days; m: 1 to 120; k: 0 to 60.
abbrev pub counts_cases : List FileCase
counts_cases =
    given (fields_of 2 4200 no_amounts no_shocks 1 0 0) (replicate 59 (pos 0)) (7 ∷ []) []  -- 59 rates
    ∷ given (fields_of 2 4200 no_amounts no_shocks 1 0 0) (replicate 61 (pos 0)) (7 ∷ []) []  -- 61 rates
    ∷ given (fields_of 2 4200 no_amounts no_shocks 1 0 0) [] (7 ∷ []) []  -- n = 0
    ∷ given (fields_of 2 4200 no_amounts no_shocks 1 0 0) (replicate 4260 (pos 0)) (7 ∷ []) []  -- n = 71
    ∷ given (fields_of 2 4200 no_amounts no_shocks 1 0 0) (replicate 4200 (pos 10001)) (7 ∷ []) []  -- n = 70, all rates too high
    ∷ given (fields_of 2 4200 no_amounts no_shocks 1 0 0) (replicate 60 (pos 0)) [] []  -- m = 0
    ∷ given (fields_of 2 4200 no_amounts no_shocks 1 0 0) (replicate 60 (pos 0)) (0 ∷ []) []  -- m = 1
    ∷ given (fields_of 2 4200 no_amounts no_shocks 1 0 0) (replicate 60 (pos 0)) (replicate 121 0) []  -- m = 121
    ∷ given (fields_of 2 4200 no_amounts no_shocks 1 0 0) (replicate 60 (pos 0)) (replicate 120 100000001) []  -- m = 120, all flows too high
    ∷ given (fields_of 2 4200 no_amounts no_shocks 1 0 0) (replicate 60 (pos 0)) (7 ∷ []) []  -- k = 0
    ∷ given (fields_of 2 4200 no_amounts no_shocks 1 0 0) (replicate 60 (pos 0)) (7 ∷ []) (0 ∷ [])  -- k = 1
    ∷ given (fields_of 2 4200 no_amounts no_shocks 1 0 0) (replicate 60 (pos 0)) (7 ∷ []) (replicate 61 0)  -- k = 61
    ∷ given (fields_of 2 4200 no_amounts no_shocks 1 0 0) (replicate 60 (pos 0)) (7 ∷ []) (replicate 60 100000001)  -- k = 60, all flows too high
    ∷ []

case-counts : map case_refusal counts_cases ≡ 4 ∷ 4 ∷ 4 ∷ 4 ∷ 5 ∷ 7 ∷ 0 ∷ 7 ∷ 8 ∷ 0 ∷ 0 ∷ 7 ∷ 8 ∷ []
unfolding all
case-counts = refl

-- Error 6, at its limits and one past them.
abbrev pub forwards_cases : List FileCase
forwards_cases =
    given (fields_of 2 4200 no_amounts no_shocks 1 0 0) ((pos 0 ∷ []) ++ replicate 59 (neg_ℤ (pos 1000))) (7 ∷ []) []  -- 1 days, term 2: -2000
    ∷ given (fields_of 2 4200 no_amounts no_shocks 1 0 0) ((pos 1 ∷ []) ++ replicate 59 (neg_ℤ (pos 1000))) (7 ∷ []) []  -- 1 days, term 2: -2001
    ∷ given (fields_of 2 4200 no_amounts no_shocks 1 0 0) ((pos 0 ∷ []) ++ replicate 59 (pos 6000)) (7 ∷ []) []  -- 1 days, term 2: 12000
    ∷ given (fields_of 2 4200 no_amounts no_shocks 1 0 0) ((pos 1 ∷ []) ++ replicate 59 (pos 6001)) (7 ∷ []) []  -- 1 days, term 2: 12001
    ∷ given (fields_of 2 4200 no_amounts no_shocks 1 0 0) ((pos 1 ∷ pos 1 ∷ []) ++ replicate 58 (pos 4001) ++ (neg_ℤ (pos 1) ∷ neg_ℤ (pos 1) ∷ []) ++ replicate 58 (pos 3999)) (7 ∷ []) []  -- 2 days, term 3: 24000
    ∷ given (fields_of 2 4200 no_amounts no_shocks 1 0 0) ((pos 1 ∷ pos 1 ∷ []) ++ replicate 58 (pos 4001) ++ (pos 0 ∷ pos 0 ∷ []) ++ replicate 58 (pos 4000)) (7 ∷ []) []  -- 2 days, term 3: 24001
    ∷ []

case-forwards : map case_refusal forwards_cases ≡ 0 ∷ 6 ∷ 0 ∷ 6 ∷ 0 ∷ 6 ∷ []
unfolding all
case-forwards = refl

-- The order of checks: two faults each.
abbrev pub order_cases : List FileCase
order_cases =
    given (fields_of 3 5001 no_amounts no_shocks 1 0 0) (replicate 60 (pos 0)) (7 ∷ []) []  -- 3 before 9
    ∷ given (fields_of 2 5001 no_amounts no_shocks 1 0 0) (replicate 61 (pos 0)) (7 ∷ []) []  -- 9 before 4
    ∷ given (fields_of 2 4200 no_amounts no_shocks 1 0 0) (replicate 60 (pos 10001) ++ (pos 0 ∷ [])) (7 ∷ []) []  -- 4 before 5
    ∷ given (fields_of 2 4200 no_amounts no_shocks 1 0 0) (replicate 60 (pos 10001)) ((7 ∷ []) ++ replicate 120 0) []  -- 5 before 7 of the pensions
    ∷ given (fields_of 2 4200 no_amounts no_shocks 1 0 0) (replicate 60 (pos 0)) ((100000001 ∷ []) ++ replicate 120 0) []  -- 7 of the pensions before 8 of the pensions
    ∷ given (fields_of 2 4200 no_amounts no_shocks 1 0 0) (replicate 60 (pos 0)) (100000001 ∷ []) (replicate 61 0)  -- 8 of the pensions before 7 of the bonds
    ∷ given (fields_of 2 4200 no_amounts no_shocks 1 0 0) (replicate 60 (pos 0)) (7 ∷ []) ((100000001 ∷ []) ++ replicate 60 0)  -- 7 of the bonds before 8 of the bonds
    ∷ given (fields_of 2 4200 (amounts_of 100000000001 0 0 0 0 0 0 0) no_shocks 1 0 0) (replicate 60 (pos 0)) (7 ∷ []) (100000001 ∷ [])  -- 8 of the bonds before 10
    ∷ given (fields_of 2 4200 (amounts_of 100000000001 0 0 0 0 0 0 0) (shocks_of 1001 0 0 0 0 0 0 0 0 0 0 0 1000) 1 0 0) (replicate 60 (pos 0)) (7 ∷ []) []  -- 10 before 11
    ∷ given (fields_of 2 4200 no_amounts (shocks_of 1001 0 0 0 0 0 0 0 0 0 0 0 1000) 0 0 0) (replicate 60 (pos 0)) (7 ∷ []) []  -- 11 before 12
    ∷ given (fields_of 2 4200 no_amounts (shocks_of 0 0 0 0 0 0 0 0 0 0 0 0 1001) 0 0 0) (replicate 60 (pos 0)) (7 ∷ []) []  -- 12 before 11 of the equity correlation
    ∷ given (fields_of 2 4200 no_amounts (shocks_of 0 0 0 0 0 0 0 0 0 0 0 0 1001) 1 0 0) ((pos 0 ∷ []) ++ replicate 59 (pos 6001)) (7 ∷ []) []  -- 11 of the equity correlation before 6
    ∷ []

case-order : map case_refusal order_cases ≡ 3 ∷ 9 ∷ 4 ∷ 5 ∷ 7 ∷ 8 ∷ 7 ∷ 8 ∷ 10 ∷ 11 ∷ 12 ∷ 11 ∷ []
unfolding all
case-order = refl

-- A UFR of 4,200, an all-zero amounts field, an empty bond list and an equity correlation of 1,000 are left out.
abbrev pub short_cases : List FileCase
short_cases =
    given (fields_of 2 4200 no_amounts (shocks_of 1 2 3 4 5 6 7 8 9 10 11 12 1000) 100 780 460) (replicate 60 (neg_ℤ (pos 500)) ++ replicate 60 (pos 100)) (1000000 ∷ 7 ∷ []) []  -- with no optional field
    ∷ given (fields_of 2 4200 (amounts_of 0 0 0 0 0 0 0 5) (shocks_of 1 2 3 4 5 6 7 8 9 10 11 12 999) 100 780 460) (replicate 60 (neg_ℤ (pos 500)) ++ replicate 60 (pos 100)) (1000000 ∷ 7 ∷ []) []  -- with amounts, equity
    ∷ given (fields_of 2 4200 no_amounts (shocks_of 1 2 3 4 5 6 7 8 9 10 11 12 0) 100 780 460) (replicate 60 (neg_ℤ (pos 500)) ++ replicate 60 (pos 100)) (1000000 ∷ 7 ∷ []) (0 ∷ [])  -- with bonds, equity
    ∷ given (fields_of 2 4200 (amounts_of 0 0 0 0 0 0 0 5) (shocks_of 1 2 3 4 5 6 7 8 9 10 11 12 1000) 100 780 460) (replicate 60 (neg_ℤ (pos 500)) ++ replicate 60 (pos 100)) (1000000 ∷ 7 ∷ []) (0 ∷ [])  -- with bonds, amounts
    ∷ given (fields_of 2 4199 no_amounts (shocks_of 1 2 3 4 5 6 7 8 9 10 11 12 999) 100 780 460) (replicate 60 (neg_ℤ (pos 500)) ++ replicate 60 (pos 100)) (1000000 ∷ 7 ∷ []) []  -- with UFR, equity
    ∷ given (fields_of 2 4199 (amounts_of 0 0 0 0 0 0 0 5) (shocks_of 1 2 3 4 5 6 7 8 9 10 11 12 1000) 100 780 460) (replicate 60 (neg_ℤ (pos 500)) ++ replicate 60 (pos 100)) (1000000 ∷ 7 ∷ []) []  -- with UFR, amounts
    ∷ given (fields_of 2 4201 no_amounts (shocks_of 1 2 3 4 5 6 7 8 9 10 11 12 1000) 100 780 460) (replicate 60 (neg_ℤ (pos 500)) ++ replicate 60 (pos 100)) (1000000 ∷ 7 ∷ []) (0 ∷ [])  -- with UFR, bonds
    ∷ given (fields_of 2 4201 (amounts_of 0 0 0 0 0 0 0 5) (shocks_of 1 2 3 4 5 6 7 8 9 10 11 12 0) 100 780 460) (replicate 60 (neg_ℤ (pos 500)) ++ replicate 60 (pos 100)) (1000000 ∷ 7 ∷ []) (0 ∷ [])  -- with UFR, bonds, amounts, equity
    ∷ []

-- their bytes
abbrev pub short_files : List (List ℕ)
short_files =
    ((0x00 ∷ 0x66 ∷ 0x02 ∷ []) ++ pairs 60 0xfe 0x0c ++ pairs 60 0x00 0x64 ++ (0x02 ∷ 0x00 ∷ 0x0f ∷ 0x42 ∷ 0x40 ∷ 0x00 ∷ 0x00 ∷ 0x00 ∷ 0x07 ∷ 0x00 ∷ 0x01 ∷ 0x00 ∷ 0x02 ∷ 0x00 ∷ 0x03 ∷ 0x00 ∷ 0x04 ∷ 0x00 ∷ 0x05 ∷ 0x00 ∷ 0x06 ∷ 0x00 ∷ 0x07 ∷ 0x00 ∷ 0x08 ∷ 0x00 ∷ 0x09 ∷ 0x00 ∷ 0x0a ∷ 0x00 ∷ 0x0b ∷ 0x00 ∷ 0x0c ∷ 0x00 ∷ 0x00 ∷ 0x00 ∷ 0x64 ∷ 0x03 ∷ 0x0c ∷ 0x01 ∷ 0xcc ∷ []))  -- with no optional field
    ∷ ((0x01 ∷ 0x76 ∷ 0x02 ∷ []) ++ pairs 60 0xfe 0x0c ++ pairs 60 0x00 0x64 ++ (0x02 ∷ 0x00 ∷ 0x0f ∷ 0x42 ∷ 0x40 ∷ 0x00 ∷ 0x00 ∷ 0x00 ∷ 0x07 ∷ []) ++ pairs 31 0x00 0x00 ++ (0x00 ∷ 0x05 ∷ 0x00 ∷ 0x01 ∷ 0x00 ∷ 0x02 ∷ 0x00 ∷ 0x03 ∷ 0x00 ∷ 0x04 ∷ 0x00 ∷ 0x05 ∷ 0x00 ∷ 0x06 ∷ 0x00 ∷ 0x07 ∷ 0x00 ∷ 0x08 ∷ 0x00 ∷ 0x09 ∷ 0x00 ∷ 0x0a ∷ 0x00 ∷ 0x0b ∷ 0x00 ∷ 0x0c ∷ 0x00 ∷ 0x00 ∷ 0x00 ∷ 0x64 ∷ 0x03 ∷ 0x0c ∷ 0x01 ∷ 0xcc ∷ 0x03 ∷ 0xe7 ∷ []))  -- with amounts, equity
    ∷ ((0x01 ∷ 0x6e ∷ 0x02 ∷ []) ++ pairs 60 0xfe 0x0c ++ pairs 60 0x00 0x64 ++ (0x02 ∷ 0x00 ∷ 0x0f ∷ 0x42 ∷ 0x40 ∷ 0x00 ∷ 0x00 ∷ 0x00 ∷ 0x07 ∷ 0x01 ∷ 0x00 ∷ 0x00 ∷ 0x00 ∷ 0x00 ∷ 0x00 ∷ 0x01 ∷ 0x00 ∷ 0x02 ∷ 0x00 ∷ 0x03 ∷ 0x00 ∷ 0x04 ∷ 0x00 ∷ 0x05 ∷ 0x00 ∷ 0x06 ∷ 0x00 ∷ 0x07 ∷ 0x00 ∷ 0x08 ∷ 0x00 ∷ 0x09 ∷ 0x00 ∷ 0x0a ∷ 0x00 ∷ 0x0b ∷ 0x00 ∷ 0x0c ∷ 0x00 ∷ 0x00 ∷ 0x00 ∷ 0x64 ∷ 0x03 ∷ 0x0c ∷ 0x01 ∷ 0xcc ∷ 0x00 ∷ 0x00 ∷ []))  -- with bonds, equity
    ∷ ((0x00 ∷ 0x7e ∷ 0x02 ∷ []) ++ pairs 60 0xfe 0x0c ++ pairs 60 0x00 0x64 ++ (0x02 ∷ 0x00 ∷ 0x0f ∷ 0x42 ∷ 0x40 ∷ 0x00 ∷ 0x00 ∷ 0x00 ∷ 0x07 ∷ 0x01 ∷ []) ++ pairs 33 0x00 0x00 ++ (0x00 ∷ 0x05 ∷ 0x00 ∷ 0x01 ∷ 0x00 ∷ 0x02 ∷ 0x00 ∷ 0x03 ∷ 0x00 ∷ 0x04 ∷ 0x00 ∷ 0x05 ∷ 0x00 ∷ 0x06 ∷ 0x00 ∷ 0x07 ∷ 0x00 ∷ 0x08 ∷ 0x00 ∷ 0x09 ∷ 0x00 ∷ 0x0a ∷ 0x00 ∷ 0x0b ∷ 0x00 ∷ 0x0c ∷ 0x00 ∷ 0x00 ∷ 0x00 ∷ 0x64 ∷ 0x03 ∷ 0x0c ∷ 0x01 ∷ 0xcc ∷ []))  -- with bonds, amounts
    ∷ ((0x01 ∷ 0x67 ∷ 0x10 ∷ 0x67 ∷ 0x02 ∷ []) ++ pairs 60 0xfe 0x0c ++ pairs 60 0x00 0x64 ++ (0x02 ∷ 0x00 ∷ 0x0f ∷ 0x42 ∷ 0x40 ∷ 0x00 ∷ 0x00 ∷ 0x00 ∷ 0x07 ∷ 0x00 ∷ 0x01 ∷ 0x00 ∷ 0x02 ∷ 0x00 ∷ 0x03 ∷ 0x00 ∷ 0x04 ∷ 0x00 ∷ 0x05 ∷ 0x00 ∷ 0x06 ∷ 0x00 ∷ 0x07 ∷ 0x00 ∷ 0x08 ∷ 0x00 ∷ 0x09 ∷ 0x00 ∷ 0x0a ∷ 0x00 ∷ 0x0b ∷ 0x00 ∷ 0x0c ∷ 0x00 ∷ 0x00 ∷ 0x00 ∷ 0x64 ∷ 0x03 ∷ 0x0c ∷ 0x01 ∷ 0xcc ∷ 0x03 ∷ 0xe7 ∷ []))  -- with UFR, equity
    ∷ ((0x00 ∷ 0x77 ∷ 0x10 ∷ 0x67 ∷ 0x02 ∷ []) ++ pairs 60 0xfe 0x0c ++ pairs 60 0x00 0x64 ++ (0x02 ∷ 0x00 ∷ 0x0f ∷ 0x42 ∷ 0x40 ∷ 0x00 ∷ 0x00 ∷ 0x00 ∷ 0x07 ∷ []) ++ pairs 31 0x00 0x00 ++ (0x00 ∷ 0x05 ∷ 0x00 ∷ 0x01 ∷ 0x00 ∷ 0x02 ∷ 0x00 ∷ 0x03 ∷ 0x00 ∷ 0x04 ∷ 0x00 ∷ 0x05 ∷ 0x00 ∷ 0x06 ∷ 0x00 ∷ 0x07 ∷ 0x00 ∷ 0x08 ∷ 0x00 ∷ 0x09 ∷ 0x00 ∷ 0x0a ∷ 0x00 ∷ 0x0b ∷ 0x00 ∷ 0x0c ∷ 0x00 ∷ 0x00 ∷ 0x00 ∷ 0x64 ∷ 0x03 ∷ 0x0c ∷ 0x01 ∷ 0xcc ∷ []))  -- with UFR, amounts
    ∷ ((0x00 ∷ 0x6f ∷ 0x10 ∷ 0x69 ∷ 0x02 ∷ []) ++ pairs 60 0xfe 0x0c ++ pairs 60 0x00 0x64 ++ (0x02 ∷ 0x00 ∷ 0x0f ∷ 0x42 ∷ 0x40 ∷ 0x00 ∷ 0x00 ∷ 0x00 ∷ 0x07 ∷ 0x01 ∷ 0x00 ∷ 0x00 ∷ 0x00 ∷ 0x00 ∷ 0x00 ∷ 0x01 ∷ 0x00 ∷ 0x02 ∷ 0x00 ∷ 0x03 ∷ 0x00 ∷ 0x04 ∷ 0x00 ∷ 0x05 ∷ 0x00 ∷ 0x06 ∷ 0x00 ∷ 0x07 ∷ 0x00 ∷ 0x08 ∷ 0x00 ∷ 0x09 ∷ 0x00 ∷ 0x0a ∷ 0x00 ∷ 0x0b ∷ 0x00 ∷ 0x0c ∷ 0x00 ∷ 0x00 ∷ 0x00 ∷ 0x64 ∷ 0x03 ∷ 0x0c ∷ 0x01 ∷ 0xcc ∷ []))  -- with UFR, bonds
    ∷ ((0x01 ∷ 0x7f ∷ 0x10 ∷ 0x69 ∷ 0x02 ∷ []) ++ pairs 60 0xfe 0x0c ++ pairs 60 0x00 0x64 ++ (0x02 ∷ 0x00 ∷ 0x0f ∷ 0x42 ∷ 0x40 ∷ 0x00 ∷ 0x00 ∷ 0x00 ∷ 0x07 ∷ 0x01 ∷ []) ++ pairs 33 0x00 0x00 ++ (0x00 ∷ 0x05 ∷ 0x00 ∷ 0x01 ∷ 0x00 ∷ 0x02 ∷ 0x00 ∷ 0x03 ∷ 0x00 ∷ 0x04 ∷ 0x00 ∷ 0x05 ∷ 0x00 ∷ 0x06 ∷ 0x00 ∷ 0x07 ∷ 0x00 ∷ 0x08 ∷ 0x00 ∷ 0x09 ∷ 0x00 ∷ 0x0a ∷ 0x00 ∷ 0x0b ∷ 0x00 ∷ 0x0c ∷ 0x00 ∷ 0x00 ∷ 0x00 ∷ 0x64 ∷ 0x03 ∷ 0x0c ∷ 0x01 ∷ 0xcc ∷ 0x00 ∷ 0x00 ∷ []))  -- with UFR, bonds, amounts, equity
    ∷ []

shortest-bytes : map shortest short_cases ≡ short_files
unfolding all
shortest-bytes = refl

-- A case of 160 bytes.
abbrev pub small : FileCase
small =
    given (fields_of 2 4200 no_amounts no_shocks 1 0 0) (replicate 60 (pos 0)) (7 ∷ []) []

-- A case that 6 refuses.
abbrev pub steep : FileCase
steep =
    given (fields_of 2 4200 no_amounts no_shocks 1 0 0) ((pos 1 ∷ []) ++ replicate 59 (pos 6001)) (7 ∷ []) []

room-refusals : (map (save_refusal small) (159 ∷ 160 ∷ 161 ∷ []) ≡ 14 ∷ 0 ∷ 0 ∷ [])
    × (save_refusal steep 0 ≡ 6)
unfolding all
room-refusals = (refl, refl)

save-answers : (save_answer small 159 ≡ Err Room)
    × (save_answer small 160 ≡ Ok 160)
    × (save_answer small 161 ≡ Ok 160)
    × (save_answer steep 160 ≡ Err Forward)
unfolding all
save-answers = (refl, refl, refl, refl)

bytes_after : (saved_after small (pairs 81 0xaa 0x55) ≡ (0x00 ∷ 0x66 ∷ 0x01 ∷ []) ++ pairs 60 0x00 0x00 ++ (0x01 ∷ 0x00 ∷ 0x00 ∷ 0x00 ∷ 0x07 ∷ []) ++ pairs 13 0x00 0x00 ++ (0x00 ∷ 0x01 ∷ 0x00 ∷ 0x00 ∷ 0x00 ∷ 0x00 ∷ 0xaa ∷ 0x55 ∷ []))
    × (saved_after steep (pairs 81 0xaa 0x55) ≡ pairs 81 0xaa 0x55)
unfolding all
bytes_after = (refl, refl)

untouched-on-14 : saved_after small (pairs 79 0xaa 0x55 ++ (0xaa ∷ [])) ≡ pairs 79 0xaa 0x55 ++ (0xaa ∷ [])
unfolding all
untouched-on-14 = refl

untouched-on-refusal : map (λ k. saved_after k (0xaa ∷ 0x55 ∷ [])) order_cases ≡ replicate 12 (0xaa ∷ 0x55 ∷ [])
unfolding all
untouched-on-refusal = refl
