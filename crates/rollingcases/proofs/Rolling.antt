-- Rolling windows, what takes longer to compute: a day added to 70 and to 69, the whole order of checks of a valuation, with a case of
-- two-byte and of four-byte days, and the first zero rate that a valuation leaves.
-- tests/writers wrote this file, from the reference in Python, which was written without the engine's code (tests/reference): change
-- that, not this. Assumes nothing.
use Prim.Native.Nat.{ℕ}
use mathlib.Core.Path.{◌≡◌, refl}
use mathlib.Core.List.{List, [], ◌∷◌, ◌++◌}
use lib.ListN.{replicate, take}
use lib.IntN.{pos, neg_ℤ}
use Rattle.savingmodel.specs.Saving.{given}
use Rattle.rollingmodel.specs.Rolling.{empty_window, add_refusal, rolling_refusal, rolling_rates_after}
use Rattle.rollingmodel.proofs.Computing.{all}
use Rattle.model.proofs.FourByteCases.{finer_case}
use Rattle.savingmodel.proofs.SavedCases.{amounts_of, shocks_of, fields_of, no_amounts, no_shocks, small}
use Rattle.savingmodel.proofs.FourByteCases.{small_four}
use Rattle.rollingmodel.proofs.RollingCases.{window_of, some_day, high_day, full_window, one_day_left, flat_days}

-- 15 before 5
full : add_refusal full_window high_day ≡ 15
unfolding all
full = refl

-- none
one-day-left : add_refusal one_day_left some_day ≡ 0
unfolding all
one-day-left = refl

-- The order of checks of a valuation.
abbrev pub value-order_refusals : List ℕ
value-order_refusals =
    rolling_refusal (window_of 2 0 (replicate 60 (pos 100) ++ replicate 60 (pos 101) ++ replicate 4080 (neg_ℤ (pos 32768))) ((pos 202 ∷ []) ++ replicate 59 (pos 201))) small 239 240  -- 27 before 13
    ∷ rolling_refusal flat_days (given (fields_of 3 4200 no_amounts no_shocks 1 0 0) (replicate 60 (pos 0)) (7 ∷ []) []) 239 240  -- 13 before 3
    ∷ rolling_refusal flat_days (given (fields_of 3 5001 no_amounts no_shocks 1 0 0) (replicate 60 (pos 0)) (7 ∷ []) []) 240 240  -- 3 before 9
    ∷ rolling_refusal flat_days (given (fields_of 2 5001 no_amounts no_shocks 1 0 0) (replicate 61 (pos 0)) (7 ∷ []) []) 240 240  -- 9 before 4
    ∷ rolling_refusal flat_days (given (fields_of 2 4200 no_amounts no_shocks 1 0 0) (replicate 60 (pos 10001) ++ (pos 0 ∷ [])) (7 ∷ []) []) 240 240  -- 4 before 5
    ∷ rolling_refusal flat_days (given (fields_of 2 4200 no_amounts no_shocks 1 0 0) (replicate 60 (pos 10001)) ((7 ∷ []) ++ replicate 120 0) []) 240 240  -- 5 before 7 of the pensions
    ∷ rolling_refusal flat_days (given (fields_of 2 4200 no_amounts no_shocks 1 0 0) (replicate 60 (pos 0)) ((100000001 ∷ []) ++ replicate 120 0) []) 240 240  -- 7 of the pensions before 8 of the pensions
    ∷ rolling_refusal flat_days (given (fields_of 2 4200 no_amounts no_shocks 1 0 0) (replicate 60 (pos 0)) (100000001 ∷ []) (replicate 61 0)) 240 240  -- 8 of the pensions before 7 of the bonds
    ∷ rolling_refusal flat_days (given (fields_of 2 4200 no_amounts no_shocks 1 0 0) (replicate 60 (pos 0)) (7 ∷ []) ((100000001 ∷ []) ++ replicate 60 0)) 240 240  -- 7 of the bonds before 8 of the bonds
    ∷ rolling_refusal flat_days (given (fields_of 2 4200 (amounts_of 100000000001 0 0 0 0 0 0 0) no_shocks 1 0 0) (replicate 60 (pos 0)) (7 ∷ []) (100000001 ∷ [])) 240 240  -- 8 of the bonds before 10
    ∷ rolling_refusal flat_days (given (fields_of 2 4200 (amounts_of 100000000001 0 0 0 0 0 0 0) (shocks_of 1001 0 0 0 0 0 0 0 0 0 0 0 1000) 1 0 0) (replicate 60 (pos 0)) (7 ∷ []) []) 240 240  -- 10 before 11
    ∷ rolling_refusal flat_days (given (fields_of 2 4200 no_amounts (shocks_of 1001 0 0 0 0 0 0 0 0 0 0 0 1000) 0 0 0) (replicate 60 (pos 0)) (7 ∷ []) []) 240 240  -- 11 before 12
    ∷ rolling_refusal flat_days (given (fields_of 2 4200 no_amounts (shocks_of 0 0 0 0 0 0 0 0 0 0 0 0 1001) 0 0 0) (replicate 60 (pos 0)) (7 ∷ []) []) 240 240  -- 12 before 11 of the equity correlation
    ∷ rolling_refusal flat_days (given (fields_of 2 4200 no_amounts (shocks_of 0 0 0 0 0 0 0 0 0 0 0 0 1001) 1 0 0) ((pos 0 ∷ []) ++ replicate 59 (pos 6001)) (7 ∷ []) []) 240 240  -- 11 of the equity correlation before 6
    ∷ rolling_refusal (window_of 0 0 (replicate 60 (pos 100) ++ replicate 60 (pos 101) ++ replicate 4080 (neg_ℤ (pos 32768))) (replicate 60 (pos 0))) (given (fields_of 2 4200 no_amounts no_shocks 1 0 0) ((pos 0 ∷ []) ++ replicate 59 (pos 6001)) (7 ∷ []) []) 240 240  -- 6 before 4 of the window
    ∷ rolling_refusal (window_of 0 0 ((pos 1 ∷ []) ++ replicate 59 (pos 6001) ++ replicate 60 (pos 101) ++ replicate 4080 (neg_ℤ (pos 32768))) (replicate 60 (pos 0))) small 240 240  -- 4 of the window before 6 of the window
    ∷ rolling_refusal (window_of 1 0 ((pos 1 ∷ []) ++ replicate 59 (pos 6001) ++ replicate 60 (pos 101) ++ replicate 4080 (neg_ℤ (pos 32768))) ((pos 1 ∷ []) ++ replicate 59 (pos 6001))) small 240 240  -- 6 of the window
    ∷ rolling_refusal flat_days small 240 240  -- none
    ∷ []

value-order-refusals : value-order_refusals ≡ 27 ∷ 13 ∷ 3 ∷ 9 ∷ 4 ∷ 5 ∷ 7 ∷ 8 ∷ 7 ∷ 8 ∷ 10 ∷ 11 ∷ 12 ∷ 11 ∷ 6 ∷ 4 ∷ 6 ∷ 0 ∷ []
unfolding all
value-order-refusals = refl

window-rates : take 2 (rolling_rates_after flat_days small (replicate 240 7) (replicate 240 (pos 7))) ≡ (pos 100 ∷ pos 101 ∷ [])
unfolding all
window-rates = refl

-- With a case of four-byte days: its own rates and growths by its own step, then those of the window's days.
abbrev pub four-windows_refusals : List ℕ
four-windows_refusals =
    rolling_refusal flat_days (given (fields_of 4 4200 no_amounts no_shocks 1 0 0) (replicate 60 (neg_ℤ (pos 100001))) (7 ∷ []) []) 240 240  -- all own rates -100001
    ∷ rolling_refusal flat_days (given (fields_of 4 4200 no_amounts no_shocks 1 0 0) (replicate 60 (neg_ℤ (pos 100000))) (7 ∷ []) []) 240 240  -- all own rates -100000
    ∷ rolling_refusal flat_days (given (fields_of 4 4200 no_amounts no_shocks 1 0 0) (replicate 60 (pos 1000000)) (7 ∷ []) []) 240 240  -- all own rates 1000000
    ∷ rolling_refusal flat_days (given (fields_of 4 4200 no_amounts no_shocks 1 0 0) (replicate 60 (pos 1000001)) (7 ∷ []) []) 240 240  -- all own rates 1000001
    ∷ rolling_refusal flat_days (given (fields_of 4 4200 no_amounts no_shocks 1 0 0) ((pos 0 ∷ []) ++ replicate 59 (neg_ℤ (pos 100000))) (7 ∷ []) []) 240 240  -- own growth -200000
    ∷ rolling_refusal flat_days (given (fields_of 4 4200 no_amounts no_shocks 1 0 0) ((pos 1 ∷ []) ++ replicate 59 (neg_ℤ (pos 100000))) (7 ∷ []) []) 240 240  -- own growth -200001
    ∷ rolling_refusal flat_days (given (fields_of 4 4200 no_amounts no_shocks 1 0 0) ((pos 0 ∷ []) ++ replicate 59 (pos 600000)) (7 ∷ []) []) 240 240  -- own growth 1200000
    ∷ rolling_refusal flat_days (given (fields_of 4 4200 no_amounts no_shocks 1 0 0) ((pos 1 ∷ []) ++ replicate 59 (pos 600001)) (7 ∷ []) []) 240 240  -- own growth 1200001
    ∷ rolling_refusal flat_days (given (fields_of 3 5001 no_amounts no_shocks 1 0 0) (replicate 60 (pos 0)) (7 ∷ []) []) 240 240  -- 3 before 9
    ∷ rolling_refusal flat_days (given (fields_of 4 4200 no_amounts no_shocks 0 0 0) [] (7 ∷ []) []) 240 240  -- 12 before 4 of the case
    ∷ rolling_refusal empty_window (given (fields_of 4 4200 no_amounts no_shocks 1 0 0) ((pos 1 ∷ []) ++ replicate 59 (pos 600001)) (7 ∷ []) []) 240 240  -- 6 of the case before 4 of the window
    ∷ rolling_refusal (window_of 1 0 ((pos 1 ∷ []) ++ replicate 59 (pos 6001) ++ replicate 4140 (neg_ℤ (pos 32768))) ((pos 1 ∷ []) ++ replicate 59 (pos 6001))) small_four 240 240  -- 6 of the window
    ∷ []

four-windows-refusals : four-windows_refusals ≡ 5 ∷ 0 ∷ 0 ∷ 5 ∷ 0 ∷ 6 ∷ 0 ∷ 6 ∷ 3 ∷ 12 ∷ 6 ∷ 6 ∷ []
unfolding all
four-windows-refusals = refl

in-window-rates : take 2 (rolling_rates_after flat_days finer_case (replicate 240 7) (replicate 240 (pos 7))) ≡ (pos 100 ∷ pos 101 ∷ [])
unfolding all
in-window-rates = refl
