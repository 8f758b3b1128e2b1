-- Rolling windows: which are right, the refusals of a change and of a valuation, the window after a change, and what a valuation leaves in
-- the lent buffers, as computed statements about the definitions.
-- tests/writers wrote this file, from the reference in Python, which was written without the engine's code (tests/reference): change
-- that, not this. Assumes nothing.
use Prim.Native.Nat.{ℕ}
use Prim.Native.String.{String}
use mathlib.Core.Path.{◌≡◌, refl}
use mathlib.Core.Bool.{true, false}
use mathlib.Core.List.{List, [], ◌∷◌, ◌++◌, map}
use lib.Dec.{ltb}
use lib.ListN.{replicate, take, drop}
use lib.IntN.{ℤ, pos, neg_ℤ}
use Rattle.refusal.specs.Numbered.{answer_of}
use Rattle.model.specs.Refusals.{first_of}
use Rattle.savingmodel.specs.Saving.{given}
use Rattle.rollingmodel.specs.Rolling.{
  days_held,
  empty_window,
  rolling_right,
  add_refusal,
  drop_refusal,
  add_day,
  drop_day,
  add,
  drop_oldest,
  queued_by,
  rolling_refusal,
  rolling_valuation,
  rolling_factors_after,
  rolling_rates_after,
}
use Rattle.method.specs.Listing.{listing}
use Rattle.rollingmodel.specs.declared.RollingWindow.{RollingWindow}
use Rattle.rollingmodel.specs.declared.ChangedWindow.{ChangedWindow}
use Rattle.method.proofs.Computing.{text}
use Rattle.rollingmodel.proofs.Computing.{all}
use Rattle.savingmodel.proofs.SavedCases.{amounts_of, shocks_of, fields_of, no_amounts, no_shocks, small}

-- count, start, rates and sums
abbrev pub window_of : ℕ → ℕ → List ℤ → List ℤ → RollingWindow
window_of a b c d = record {
  count = a;
  start = b;
  rates = c;
  sums = d;
}

-- the refusal, or 0, and the window
abbrev pub changed_to : ℕ → RollingWindow → ChangedWindow
changed_to a b = record {
  refusal = a;
  window = b;
}

abbrev pub some_day : List ℤ
some_day =
    (pos 1 ∷ pos 2 ∷ []) ++ replicate 57 (pos 3) ++ (pos 4 ∷ [])

abbrev pub limits_day : List ℤ
limits_day =
    (neg_ℤ (pos 1000) ∷ []) ++ replicate 58 (pos 20) ++ (pos 10000 ∷ [])

abbrev pub low_day : List ℤ
low_day =
    (neg_ℤ (pos 1001) ∷ []) ++ replicate 59 (pos 0)

abbrev pub high_day : List ℤ
high_day =
    replicate 59 (pos 0) ++ (pos 10001 ∷ [])

abbrev pub two_days : RollingWindow
two_days =
    window_of 2 0 (some_day ++ limits_day ++ replicate 4080 (neg_ℤ (pos 32768))) ((neg_ℤ (pos 999) ∷ pos 22 ∷ []) ++ replicate 57 (pos 23) ++ (pos 10004 ∷ []))

abbrev pub wrong_sum : RollingWindow
wrong_sum =
    window_of 2 0 (some_day ++ limits_day ++ replicate 4080 (neg_ℤ (pos 32768))) ((neg_ℤ (pos 998) ∷ pos 22 ∷ []) ++ replicate 57 (pos 23) ++ (pos 10004 ∷ []))

abbrev pub in_last_slot : RollingWindow
in_last_slot =
    window_of 1 69 (replicate 4140 (neg_ℤ (pos 32768)) ++ some_day) some_day

abbrev pub over_the_end : RollingWindow
over_the_end =
    window_of 3 69 (limits_day ++ some_day ++ replicate 4020 (neg_ℤ (pos 32768)) ++ some_day) ((neg_ℤ (pos 998) ∷ pos 24 ∷ []) ++ replicate 57 (pos 26) ++ (pos 10008 ∷ []))

abbrev pub full_window : RollingWindow
full_window =
    window_of 70 1 (replicate 4200 (pos 5)) (replicate 60 (pos 350))

abbrev pub one_day_left : RollingWindow
one_day_left =
    window_of 69 1 (replicate 4200 (pos 5)) (replicate 60 (pos 345))

abbrev pub flat_days : RollingWindow
flat_days =
    window_of 2 0 (replicate 60 (pos 100) ++ replicate 60 (pos 101) ++ replicate 4080 (neg_ℤ (pos 32768))) (replicate 60 (pos 201))

empty-window : empty_window ≡ window_of 0 0 (replicate 4200 (pos 0)) (replicate 60 (pos 0))
unfolding all
empty-window = refl

-- At the limits of 27, on both sides; past a limit nothing else is wrong.
abbrev pub windows : List RollingWindow
windows =
    (window_of 0 69 (replicate 4200 (pos 0)) (replicate 60 (pos 0)))  -- no day, from slot 69 on
    ∷ (window_of 0 70 (replicate 4200 (pos 0)) (replicate 60 (pos 0)))  -- no day, from slot 70 on
    ∷ (window_of 0 0 (replicate 4200 (pos 0)) (replicate 59 (pos 0) ++ (pos 1 ∷ [])))  -- no day, and a sum
    ∷ two_days  -- two days, both limits, anything in the free slots
    ∷ over_the_end  -- three days, from slot 69 on
    ∷ (window_of 2 70 (some_day ++ limits_day ++ replicate 4080 (neg_ℤ (pos 32768))) ((neg_ℤ (pos 999) ∷ pos 22 ∷ []) ++ replicate 57 (pos 23) ++ (pos 10004 ∷ [])))  -- two days, from slot 70 on
    ∷ (window_of 71 1 (replicate 4200 (pos 5)) (replicate 60 (pos 355)))  -- 71 days
    ∷ wrong_sum  -- the sum of term 1 too high
    ∷ (window_of 2 0 (some_day ++ limits_day ++ replicate 4080 (neg_ℤ (pos 32768))) ((neg_ℤ (pos 999) ∷ pos 22 ∷ []) ++ replicate 57 (pos 23) ++ (pos 10003 ∷ [])))  -- the sum of term 60 too low
    ∷ (window_of 2 0 (low_day ++ some_day ++ replicate 4080 (neg_ℤ (pos 32768))) ((neg_ℤ (pos 1000) ∷ pos 2 ∷ []) ++ replicate 57 (pos 3) ++ (pos 4 ∷ [])))  -- the first rate held: -1001
    ∷ (window_of 2 0 (some_day ++ replicate 59 (pos 0) ++ (neg_ℤ (pos 1001) ∷ []) ++ replicate 4080 (neg_ℤ (pos 32768))) ((pos 1 ∷ pos 2 ∷ []) ++ replicate 57 (pos 3) ++ (neg_ℤ (pos 997) ∷ [])))  -- the last rate held: -1001
    ∷ (window_of 2 0 ((pos 10001 ∷ []) ++ replicate 59 (pos 0) ++ some_day ++ replicate 4080 (neg_ℤ (pos 32768))) ((pos 10002 ∷ pos 2 ∷ []) ++ replicate 57 (pos 3) ++ (pos 4 ∷ [])))  -- the first rate held: 10001
    ∷ (window_of 2 0 (some_day ++ high_day ++ replicate 4080 (neg_ℤ (pos 32768))) ((pos 1 ∷ pos 2 ∷ []) ++ replicate 57 (pos 3) ++ (pos 10005 ∷ [])))  -- the last rate held: 10001
    ∷ []

windows-right : map rolling_right windows ≡ true ∷ false ∷ false ∷ true ∷ true ∷ false ∷ false ∷ false ∷ false ∷ false ∷ false ∷ false ∷ false ∷ []
unfolding all
windows-right = refl

days-held : days_held over_the_end ≡ some_day ∷ limits_day ∷ some_day ∷ []
unfolding all
days-held = refl

-- The order of checks of an addition.
abbrev pub add_refusals : List ℕ
add_refusals =
    add_refusal two_days high_day  -- 5
    ∷ add_refusal wrong_sum high_day  -- 27 before 5
    ∷ add_refusal (window_of 70 70 (replicate 4200 (pos 5)) (replicate 60 (pos 350))) some_day  -- 27 before 15
    ∷ []

add-refusals : add_refusals ≡ 5 ∷ 27 ∷ 27 ∷ []
unfolding all
add-refusals = refl

-- 15 before 5, of every window of 70 days that is right
full-window : (w : RollingWindow) → rolling_right w ≡ true → ltb w.count 70 ≡ false → add_refusal w high_day ≡ 15
unfolding add_refusal first_of
full-window w right full = simp (right, full)

-- and that window is given back
full-window-kept : (w : RollingWindow) → rolling_right w ≡ true → ltb w.count 70 ≡ false → add_day w high_day ≡ changed_to 15 w
unfolding add_refusal add_day first_of
full-window-kept w right full = simp (right, full)

-- The order of checks of a drop.
abbrev pub drop_refusals : List ℕ
drop_refusals =
    drop_refusal (window_of 0 69 (replicate 4200 (pos 0)) (replicate 60 (pos 0)))  -- 16
    ∷ drop_refusal (window_of 0 0 (replicate 4200 (pos 0)) ((neg_ℤ (pos 1) ∷ []) ++ replicate 59 (pos 0)))  -- 27 before 16
    ∷ []

drop-refusals : drop_refusals ≡ 16 ∷ 27 ∷ []
unfolding all
drop-refusals = refl

added-first : add_day empty_window some_day ≡ changed_to 0 (window_of 1 0 (some_day ++ replicate 4140 (pos 0)) some_day)
unfolding all
added-first = refl

added-over-the-end : add_day in_last_slot limits_day ≡ changed_to 0 (window_of 2 69 (limits_day ++ replicate 4080 (neg_ℤ (pos 32768)) ++ some_day) ((neg_ℤ (pos 999) ∷ pos 22 ∷ []) ++ replicate 57 (pos 23) ++ (pos 10004 ∷ [])))
unfolding all
added-over-the-end = refl

added-to-damaged : add_day wrong_sum some_day ≡ changed_to 27 wrong_sum
unfolding all
added-to-damaged = refl

dropped-of-two : drop_day two_days ≡ changed_to 0 (window_of 1 1 (some_day ++ limits_day ++ replicate 4080 (neg_ℤ (pos 32768))) limits_day)
unfolding all
dropped-of-two = refl

dropped-over-the-end : drop_day over_the_end ≡ changed_to 0 (window_of 2 0 (limits_day ++ some_day ++ replicate 4020 (neg_ℤ (pos 32768)) ++ some_day) ((neg_ℤ (pos 999) ∷ pos 22 ∷ []) ++ replicate 57 (pos 23) ++ (pos 10004 ∷ [])))
unfolding all
dropped-over-the-end = refl

dropped-of-damaged : drop_day wrong_sum ≡ changed_to 27 wrong_sum
unfolding all
dropped-of-damaged = refl

refused-day : add_day two_days high_day ≡ changed_to 5 two_days
unfolding all
refused-day = refl

dropped-of-none : drop_day (window_of 0 69 (replicate 4200 (pos 0)) (replicate 60 (pos 0))) ≡ changed_to 16 (window_of 0 69 (replicate 4200 (pos 0)) (replicate 60 (pos 0)))
unfolding all
dropped-of-none = refl

queued-days : (queued_by [] (drop_oldest ∷ add some_day ∷ add high_day ∷ add limits_day ∷ drop_oldest ∷ []) ≡ (limits_day ∷ []))
    × (queued_by (replicate 70 some_day) (add limits_day ∷ drop_oldest ∷ add limits_day ∷ []) ≡ (replicate 69 some_day ++ (limits_day ∷ [])))
unfolding all
queued-days = (refl, refl)

-- The order of checks of a valuation, up to the case's own, and after them.
abbrev pub value_refusals : List ℕ
value_refusals =
    rolling_refusal (window_of 2 0 (replicate 60 (pos 100) ++ replicate 60 (pos 101) ++ replicate 4080 (neg_ℤ (pos 32768))) ((pos 202 ∷ []) ++ replicate 59 (pos 201))) small 239 240  -- 27 before 13
    ∷ rolling_refusal flat_days (given (fields_of 3 4200 no_amounts no_shocks 1 0 0) (replicate 60 (pos 0)) (7 ∷ []) []) 239 240  -- 13 before 3
    ∷ rolling_refusal flat_days (given (fields_of 2 4200 no_amounts (shocks_of 0 0 0 0 0 0 0 0 0 0 0 0 1001) 0 0 0) (replicate 60 (pos 0)) (7 ∷ []) []) 240 240  -- 12 before 11 of the equity correlation
    ∷ rolling_refusal flat_days (given (fields_of 2 4200 no_amounts (shocks_of 0 0 0 0 0 0 0 0 0 0 0 0 1001) 1 0 0) ((pos 0 ∷ []) ++ replicate 59 (pos 6001)) (7 ∷ []) []) 240 240  -- 11 of the equity correlation before 6
    ∷ rolling_refusal (window_of 0 0 (replicate 60 (pos 100) ++ replicate 60 (pos 101) ++ replicate 4080 (neg_ℤ (pos 32768))) (replicate 60 (pos 0))) (given (fields_of 2 4200 no_amounts no_shocks 1 0 0) ((pos 0 ∷ []) ++ replicate 59 (pos 6001)) (7 ∷ []) []) 240 240  -- 6 before 4 of the window
    ∷ rolling_refusal (window_of 0 0 ((pos 1 ∷ []) ++ replicate 59 (pos 6001) ++ replicate 60 (pos 101) ++ replicate 4080 (neg_ℤ (pos 32768))) (replicate 60 (pos 0))) small 240 240  -- 4 of the window before 6 of the window
    ∷ rolling_refusal (window_of 1 0 ((pos 1 ∷ []) ++ replicate 59 (pos 6001) ++ replicate 60 (pos 101) ++ replicate 4080 (neg_ℤ (pos 32768))) ((pos 1 ∷ []) ++ replicate 59 (pos 6001))) small 240 240  -- 6 of the window
    ∷ rolling_refusal flat_days small 240 240  -- none
    ∷ []

value-refusals : value_refusals ≡ 27 ∷ 13 ∷ 12 ∷ 11 ∷ 6 ∷ 4 ∷ 6 ∷ 0 ∷ []
unfolding all
value-refusals = refl

abbrev pub flat_listing : List String
flat_listing =
    "L 699 700"
    ∷ "B 0 0"
    ∷ "A 0 0"
    ∷ "S1 0 1"
    ∷ "S2 0 0"
    ∷ "S3 0 0"
    ∷ "S4 0 0"
    ∷ "S5 0 0"
    ∷ "S6 419 421"
    ∷ "S 419 422"
    ∷ "V DEKKINGSTEKORT"
    ∷ []

flat-listing : listing (answer_of (rolling_valuation flat_days small 240 240)) ≡ text flat_listing
unfolding all
flat-listing = refl

-- A case with losses in four equity classes, whose correlation is 500.
abbrev pub classes_listing : List String
classes_listing =
    "L 699 700"
    ∷ "B 0 0"
    ∷ "A 4800 4800"
    ∷ "S1 0 1"
    ∷ "S2 988 989"
    ∷ "S3 0 0"
    ∷ "S4 0 0"
    ∷ "S5 0 0"
    ∷ "S6 419 421"
    ∷ "S 1073 1075"
    ∷ "V VRIJ VERMOGEN"
    ∷ []

classes-listing : listing (answer_of (rolling_valuation flat_days (given (fields_of 2 4200 (amounts_of 7 11 13 17 0 0 0 0) (shocks_of 0 0 301 453 207 151 0 0 0 0 0 0 500) 1 0 0) (replicate 60 (pos 0)) (7 ∷ []) []) 240 240)) ≡ text classes_listing
unfolding all
classes-listing = refl

window-factors : take 2 (rolling_factors_after flat_days small (replicate 242 7) (replicate 241 (pos 7))) ≡ (998996009010 ∷ 998996009011 ∷ [])
unfolding all
window-factors = refl

window-kept : (drop 240 (rolling_factors_after flat_days small (replicate 242 7) (replicate 241 (pos 7))) ≡ (7 ∷ 7 ∷ []))
    × (drop 240 (rolling_rates_after flat_days small (replicate 242 7) (replicate 241 (pos 7))) ≡ (pos 7 ∷ []))
unfolding all
window-kept = (refl, refl)

window-untouched : (rolling_factors_after flat_days small (replicate 240 7) (replicate 239 (pos 7)) ≡ replicate 240 7)
    × (rolling_rates_after flat_days small (replicate 239 7) (replicate 240 (pos 7)) ≡ replicate 240 (pos 7))
unfolding all
window-untouched = (refl, refl)
