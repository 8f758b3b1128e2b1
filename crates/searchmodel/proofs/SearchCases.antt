-- The search for a zero rate: the step that is tested next, what a test leaves, the steps left after each test, and how many tests are
-- made, as computed statements about the definitions.
-- tests/writers wrote this file, from the reference in Python, which was written without the engine's code (tests/reference): change
-- that, not this. Assumes nothing.
use Prim.Native.Nat.{ℕ, ◌-◌, ◌*◌}
use mathlib.Core.Path.{◌≡◌, refl}
use mathlib.Core.Bool.{Bool, true, false}
use mathlib.Core.List.{List, [], ◌∷◌, map}
use Rattle.arith.specs.Rounding.{End, low, high}
use Rattle.searchmodel.specs.Bisection.{middle, halved, after_tests, tests_made, rate_test, steps_left, is_left, how_many, most_left}
use Rattle.searchmodel.specs.declared.StepsLeft.{StepsLeft}
use Rattle.searchmodel.proofs.Computing.{all}

-- the steps a to b, both included
abbrev pub between : ℕ → ℕ → StepsLeft
between a b = record {
  first = a;
  last = b;
}

abbrev pub every_test : List ℕ
every_test =
    0 ∷ 1 ∷ 2 ∷ 3 ∷ 4 ∷ 5 ∷ 6 ∷ 7 ∷ 8 ∷ 9 ∷ 10 ∷ 11 ∷ 12 ∷ 13 ∷ 14 ∷ 15 ∷ []

-- a step that passes, and one that fails, whichever it is
abbrev pub passing : ℕ → Bool
passing step = true

abbrev pub failing : ℕ → Bool
failing step = false

-- a factor that has these ends at term 0 and falls by 1000000000 a term
abbrev pub falling : ℕ → ℕ → End → ℕ → ℕ
falling a b low t = a - 1000000000 * t
falling a b high t = b - 1000000000 * t

middles : (middle low (between 0 22000) ≡ 11000)
    × (middle high (between 0 22000) ≡ 11000)
    × (middle low (between 0 10999) ≡ 5500)
    × (middle high (between 0 10999) ≡ 5499)
    × (middle low (between 11001 22000) ≡ 16501)
    × (middle high (between 11001 22000) ≡ 16500)
    × (middle low (between 3 5) ≡ 4)
    × (middle high (between 3 5) ≡ 4)
    × (middle low (between 7 8) ≡ 8)
    × (middle high (between 7 8) ≡ 7)
    × (middle low (between 8 11) ≡ 10)
    × (middle high (between 8 11) ≡ 9)
    × (middle low (between 6 6) ≡ 6)
    × (middle high (between 6 6) ≡ 6)
unfolding all
middles = (refl, refl, refl, refl, refl, refl, refl, refl, refl, refl, refl, refl, refl, refl)

halved-on-pass : (halved low passing (between 0 22000) ≡ between 11000 22000)
    × (halved high passing (between 0 22000) ≡ between 0 11000)
    × (halved low passing (between 0 10999) ≡ between 5500 10999)
    × (halved high passing (between 0 10999) ≡ between 0 5499)
    × (halved low passing (between 3 5) ≡ between 4 5)
    × (halved high passing (between 3 5) ≡ between 3 4)
    × (halved low passing (between 7 8) ≡ between 8 8)
    × (halved high passing (between 7 8) ≡ between 7 7)
    × (halved low passing (between 6 6) ≡ between 6 6)
    × (halved high passing (between 6 6) ≡ between 6 6)
unfolding all
halved-on-pass = (refl, refl, refl, refl, refl, refl, refl, refl, refl, refl)

halved-on-fail : (halved low failing (between 0 22000) ≡ between 0 10999)
    × (halved high failing (between 0 22000) ≡ between 11001 22000)
    × (halved low failing (between 0 10999) ≡ between 0 5499)
    × (halved high failing (between 0 10999) ≡ between 5500 10999)
    × (halved low failing (between 3 5) ≡ between 3 3)
    × (halved high failing (between 3 5) ≡ between 5 5)
    × (halved low failing (between 7 8) ≡ between 7 7)
    × (halved high failing (between 7 8) ≡ between 8 8)
    × (halved low failing (between 6 6) ≡ between 6 6)
    × (halved high failing (between 6 6) ≡ between 6 6)
unfolding all
halved-on-fail = (refl, refl, refl, refl, refl, refl, refl, refl, refl, refl)

halved-by-the-middle : (halved low (is_left (between 0 10999)) (between 0 22000) ≡ between 0 10999)
    × (halved high (is_left (between 0 10999)) (between 0 22000) ≡ between 11001 22000)
    × (halved low (is_left (between 11000 11000)) (between 0 22000) ≡ between 11000 22000)
    × (halved high (is_left (between 11000 11000)) (between 0 22000) ≡ between 0 11000)
    × (halved low (is_left (between 11001 22000)) (between 0 22000) ≡ between 0 10999)
    × (halved high (is_left (between 11001 22000)) (between 0 22000) ≡ between 11001 22000)
    × (halved low (is_left (between 9 9)) (between 8 11) ≡ between 8 9)
    × (halved high (is_left (between 9 9)) (between 8 11) ≡ between 8 9)
    × (halved low (is_left (between 10 10)) (between 8 11) ≡ between 10 11)
    × (halved high (is_left (between 10 10)) (between 8 11) ≡ between 10 11)
unfolding all
halved-by-the-middle = (refl, refl, refl, refl, refl, refl, refl, refl, refl, refl)

after-passes : (map (after_tests low passing) every_test ≡ between 0 22000 ∷ between 11000 22000 ∷ between 16500 22000 ∷ between 19250 22000 ∷ between 20625 22000 ∷ between 21313 22000 ∷ between 21657 22000 ∷ between 21829 22000 ∷ between 21915 22000 ∷ between 21958 22000 ∷ between 21979 22000 ∷ between 21990 22000 ∷ between 21995 22000 ∷ between 21998 22000 ∷ between 21999 22000 ∷ between 22000 22000 ∷ [])
    × (map (after_tests high passing) every_test ≡ between 0 22000 ∷ between 0 11000 ∷ between 0 5500 ∷ between 0 2750 ∷ between 0 1375 ∷ between 0 687 ∷ between 0 343 ∷ between 0 171 ∷ between 0 85 ∷ between 0 42 ∷ between 0 21 ∷ between 0 10 ∷ between 0 5 ∷ between 0 2 ∷ between 0 1 ∷ between 0 0 ∷ [])
unfolding all
after-passes = (refl, refl)

after-fails : (map (after_tests low failing) every_test ≡ between 0 22000 ∷ between 0 10999 ∷ between 0 5499 ∷ between 0 2749 ∷ between 0 1374 ∷ between 0 686 ∷ between 0 342 ∷ between 0 170 ∷ between 0 84 ∷ between 0 41 ∷ between 0 20 ∷ between 0 9 ∷ between 0 4 ∷ between 0 1 ∷ between 0 0 ∷ between 0 0 ∷ [])
    × (map (after_tests high failing) every_test ≡ between 0 22000 ∷ between 11001 22000 ∷ between 16501 22000 ∷ between 19251 22000 ∷ between 20626 22000 ∷ between 21314 22000 ∷ between 21658 22000 ∷ between 21830 22000 ∷ between 21916 22000 ∷ between 21959 22000 ∷ between 21980 22000 ∷ between 21991 22000 ∷ between 21996 22000 ∷ between 21999 22000 ∷ between 22000 22000 ∷ between 22000 22000 ∷ [])
unfolding all
after-fails = (refl, refl)

after-tests : (map (after_tests low (is_left (between 0 6200))) every_test ≡ between 0 22000 ∷ between 0 10999 ∷ between 5500 10999 ∷ between 5500 8249 ∷ between 5500 6874 ∷ between 6187 6874 ∷ between 6187 6530 ∷ between 6187 6358 ∷ between 6187 6272 ∷ between 6187 6229 ∷ between 6187 6207 ∷ between 6197 6207 ∷ between 6197 6201 ∷ between 6199 6201 ∷ between 6200 6201 ∷ between 6200 6200 ∷ [])
    × (map (after_tests high (is_left (between 6200 22000))) every_test ≡ between 0 22000 ∷ between 0 11000 ∷ between 5501 11000 ∷ between 5501 8250 ∷ between 5501 6875 ∷ between 6189 6875 ∷ between 6189 6532 ∷ between 6189 6360 ∷ between 6189 6274 ∷ between 6189 6231 ∷ between 6189 6210 ∷ between 6200 6210 ∷ between 6200 6205 ∷ between 6200 6202 ∷ between 6200 6201 ∷ between 6200 6200 ∷ [])
unfolding all
after-tests = (refl, refl)

steps-left-1 : (map (steps_left (falling 1003982200409 1003982200410) low 1) every_test ≡ between 0 22000 ∷ between 0 10999 ∷ between 0 5499 ∷ between 0 2749 ∷ between 1375 2749 ∷ between 1375 2061 ∷ between 1375 1717 ∷ between 1546 1717 ∷ between 1632 1717 ∷ between 1675 1717 ∷ between 1696 1717 ∷ between 1696 1706 ∷ between 1701 1706 ∷ between 1701 1703 ∷ between 1702 1703 ∷ between 1702 1702 ∷ [])
    × (map (steps_left (falling 1003982200409 1003982200410) high 1) every_test ≡ between 0 22000 ∷ between 0 11000 ∷ between 0 5500 ∷ between 0 2750 ∷ between 1376 2750 ∷ between 1376 2063 ∷ between 1376 1719 ∷ between 1548 1719 ∷ between 1634 1719 ∷ between 1677 1719 ∷ between 1699 1719 ∷ between 1699 1709 ∷ between 1699 1704 ∷ between 1702 1704 ∷ between 1702 1703 ∷ between 1703 1703 ∷ [])
unfolding all
steps-left-1 = (refl, refl)

steps-left-21 : (map (steps_left (falling 938880681054 938880681093) low 21) every_test ≡ between 0 22000 ∷ between 0 10999 ∷ between 0 5499 ∷ between 0 2749 ∷ between 1375 2749 ∷ between 2062 2749 ∷ between 2406 2749 ∷ between 2406 2577 ∷ between 2406 2491 ∷ between 2406 2448 ∷ between 2406 2426 ∷ between 2406 2415 ∷ between 2406 2410 ∷ between 2408 2410 ∷ between 2408 2408 ∷ between 2408 2408 ∷ [])
    × (map (steps_left (falling 938880681054 938880681093) high 21) every_test ≡ between 0 22000 ∷ between 0 11000 ∷ between 0 5500 ∷ between 0 2750 ∷ between 1376 2750 ∷ between 2064 2750 ∷ between 2408 2750 ∷ between 2408 2579 ∷ between 2408 2493 ∷ between 2408 2450 ∷ between 2408 2429 ∷ between 2408 2418 ∷ between 2408 2413 ∷ between 2408 2410 ∷ between 2408 2409 ∷ between 2409 2409 ∷ [])
unfolding all
steps-left-21 = (refl, refl)

steps-left-120 : (steps_left (falling 138582910617 138582910646) low 120 1 ≡ between 0 10999)
    × (steps_left (falling 138582910617 138582910646) low 120 8 ≡ between 5328 5413)
    × (steps_left (falling 138582910617 138582910646) low 120 15 ≡ between 5377 5377)
    × (steps_left (falling 138582910617 138582910646) high 120 1 ≡ between 0 11000)
    × (steps_left (falling 138582910617 138582910646) high 120 8 ≡ between 5330 5415)
    × (steps_left (falling 138582910617 138582910646) high 120 15 ≡ between 5378 5378)
unfolding all
steps-left-120 = (refl, refl, refl, refl, refl, refl)

steps-left-reached : (map (steps_left (falling 936304916369 977769424722) low 2) every_test ≡ between 0 22000 ∷ between 0 10999 ∷ between 0 5499 ∷ between 2750 5499 ∷ between 2750 4124 ∷ between 2750 3436 ∷ between 3093 3436 ∷ between 3093 3264 ∷ between 3179 3264 ∷ between 3222 3264 ∷ between 3222 3242 ∷ between 3232 3242 ∷ between 3232 3236 ∷ between 3234 3236 ∷ between 3234 3234 ∷ between 3234 3234 ∷ [])
    × (map (steps_left (falling 936304916369 977769424722) high 2) every_test ≡ between 0 22000 ∷ between 0 11000 ∷ between 0 5500 ∷ between 2751 5500 ∷ between 4126 5500 ∷ between 4814 5500 ∷ between 5158 5500 ∷ between 5330 5500 ∷ between 5416 5500 ∷ between 5416 5458 ∷ between 5438 5458 ∷ between 5449 5458 ∷ between 5454 5458 ∷ between 5454 5456 ∷ between 5456 5456 ∷ between 5456 5456 ∷ [])
unfolding all
steps-left-reached = (refl, refl)

steps-left-missed : (map (steps_left (falling 936304916368 977769424723) low 2) every_test ≡ between 0 22000 ∷ between 0 10999 ∷ between 0 5499 ∷ between 2750 5499 ∷ between 2750 4124 ∷ between 2750 3436 ∷ between 3093 3436 ∷ between 3093 3264 ∷ between 3179 3264 ∷ between 3222 3264 ∷ between 3222 3242 ∷ between 3232 3242 ∷ between 3232 3236 ∷ between 3232 3233 ∷ between 3233 3233 ∷ between 3233 3233 ∷ [])
    × (map (steps_left (falling 936304916368 977769424723) high 2) every_test ≡ between 0 22000 ∷ between 0 11000 ∷ between 0 5500 ∷ between 2751 5500 ∷ between 4126 5500 ∷ between 4814 5500 ∷ between 5158 5500 ∷ between 5330 5500 ∷ between 5416 5500 ∷ between 5416 5458 ∷ between 5438 5458 ∷ between 5449 5458 ∷ between 5454 5458 ∷ between 5457 5458 ∷ between 5457 5457 ∷ between 5457 5457 ∷ [])
unfolding all
steps-left-missed = (refl, refl)

-- no test, one, around the most, and many more
abbrev pub some_halvings : List ℕ
some_halvings =
    0 ∷ 1 ∷ 13 ∷ 14 ∷ 15 ∷ 16 ∷ 30 ∷ []

tests-counted : (map (tests_made low passing) some_halvings ≡ 0 ∷ 1 ∷ 13 ∷ 14 ∷ 15 ∷ 15 ∷ 15 ∷ [])
    × (map (tests_made high passing) some_halvings ≡ 0 ∷ 1 ∷ 13 ∷ 14 ∷ 15 ∷ 15 ∷ 15 ∷ [])
    × (map (tests_made low failing) some_halvings ≡ 0 ∷ 1 ∷ 13 ∷ 14 ∷ 14 ∷ 14 ∷ 14 ∷ [])
    × (map (tests_made high failing) some_halvings ≡ 0 ∷ 1 ∷ 13 ∷ 14 ∷ 14 ∷ 14 ∷ 14 ∷ [])
unfolding all
tests-counted = (refl, refl, refl, refl)

tests-made-2 : (map (tests_made low (rate_test (falling 1006756904105 1006756904107) low 2)) some_halvings ≡ 0 ∷ 1 ∷ 13 ∷ 14 ∷ 14 ∷ 14 ∷ 14 ∷ [])
    × (map (tests_made high (rate_test (falling 1006756904105 1006756904107) high 2)) some_halvings ≡ 0 ∷ 1 ∷ 13 ∷ 14 ∷ 15 ∷ 15 ∷ 15 ∷ [])
unfolding all
tests-made-2 = (refl, refl)

tests-made-4 : (map (tests_made low (rate_test (falling 1008693721096 1008693721100) low 4)) some_halvings ≡ 0 ∷ 1 ∷ 13 ∷ 14 ∷ 15 ∷ 15 ∷ 15 ∷ [])
    × (map (tests_made high (rate_test (falling 1008693721096 1008693721100) high 4)) some_halvings ≡ 0 ∷ 1 ∷ 13 ∷ 14 ∷ 14 ∷ 14 ∷ 14 ∷ [])
unfolding all
tests-made-4 = (refl, refl)

tests-made-21 : (map (tests_made low (rate_test (falling 938880681054 938880681093) low 21)) some_halvings ≡ 0 ∷ 1 ∷ 13 ∷ 14 ∷ 14 ∷ 14 ∷ 14 ∷ [])
    × (map (tests_made high (rate_test (falling 938880681054 938880681093) high 21)) some_halvings ≡ 0 ∷ 1 ∷ 13 ∷ 14 ∷ 15 ∷ 15 ∷ 15 ∷ [])
unfolding all
tests-made-21 = (refl, refl)

is-left : (map (is_left (between 5 9)) (0 ∷ 4 ∷ 5 ∷ 7 ∷ 9 ∷ 10 ∷ 22000 ∷ []) ≡ false ∷ false ∷ true ∷ true ∷ true ∷ false ∷ false ∷ [])
    × (map (is_left (between 0 1)) (0 ∷ 1 ∷ 2 ∷ []) ≡ true ∷ true ∷ false ∷ [])
    × (map (is_left (between 6 6)) (5 ∷ 6 ∷ 7 ∷ []) ≡ false ∷ true ∷ false ∷ [])
    × (map (is_left (between 0 22000)) (0 ∷ 11000 ∷ 22000 ∷ 22001 ∷ []) ≡ true ∷ true ∷ true ∷ false ∷ [])
unfolding all
is-left = (refl, refl, refl, refl)

how-many : (how_many (is_left (between 3 7)) 12 ≡ 5)
    × (how_many (is_left (between 4 4)) 12 ≡ 1)
    × (how_many (is_left (between 0 0)) 12 ≡ 1)
    × (how_many (is_left (between 11 11)) 12 ≡ 1)
    × (how_many (is_left (between 12 12)) 12 ≡ 0)
    × (how_many (is_left (between 0 11)) 12 ≡ 12)
    × (how_many (is_left (between 9 30)) 12 ≡ 3)
    × (how_many (is_left (between 12 30)) 12 ≡ 0)
    × (how_many (is_left (between 0 22000)) 12 ≡ 12)
    × (how_many (is_left (between 3 7)) 0 ≡ 0)
    × (how_many (is_left (between 3 7)) 4 ≡ 1)
    × (how_many (is_left (between 3 7)) 8 ≡ 5)
unfolding all
how-many = (refl, refl, refl, refl, refl, refl, refl, refl, refl, refl, refl, refl)

most-left : map most_left every_test ≡ 22001 ∷ 11001 ∷ 5501 ∷ 2751 ∷ 1376 ∷ 688 ∷ 344 ∷ 172 ∷ 86 ∷ 43 ∷ 22 ∷ 11 ∷ 6 ∷ 3 ∷ 2 ∷ 1 ∷ []
unfolding all
most-left = refl
