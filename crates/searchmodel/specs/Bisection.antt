-- The search for a zero rate (METHOD, The search for a zero rate): which steps are left after j tests, and what is promised of them. Step i
-- is the rate i - 2,000, as in the rounded working.
use Rattle.std.specs.Prelude.{ℕ, zero, suc, ◌+◌, ◌-◌, ◌/◌, ◌^◌, ◌≤◌, ◌≡◌, Bool, true, ◌&&◌, if◌then◌else◌, nat_le, ℤ}
use Rattle.arith.specs.Rounding.{End, low, high, divide}
use Rattle.method.specs.Rounded.{step_at, lower_test, upper_test, rate_of}
use Rattle.searchmodel.specs.declared.StepsLeft.{StepsLeft}

-- ---- the state of a search

-- "the interval from -2,000 to 20,000"
abbrev pub all_steps : StepsLeft
all_steps = record { first = 0; last = 22000 }

-- the step that is tested next, in the middle. Of two such steps the lower rate takes the later and the upper rate the earlier: a test of
-- the other would leave both of the last two steps where it passes.
abbrev pub middle : End → StepsLeft → ℕ
middle low p = (p.first + p.last + 1) / 2
middle high p = (p.first + p.last) / 2

-- what is left of p where step i passes its test, and where it does not. The lower rate is the largest step that passes, and the upper
-- rate the smallest, so a step that passes is left.
abbrev pub leaves : End → ℕ → Bool → StepsLeft → StepsLeft
leaves low i passes p = if passes then record { first = i; last = p.last } else record { first = p.first; last = i - 1 }
leaves high i passes p = if passes then record { first = p.first; last = i } else record { first = i + 1; last = p.last }

-- "is to halve": what one test leaves. A single step is not tested.
abbrev pub halved : End → (ℕ → Bool) → StepsLeft → StepsLeft
halved e test p = if nat_le p.last p.first then p else leaves e (middle e p) (test (middle e p)) p

-- "After j tests"
unfoldable pub after_tests : End → (ℕ → Bool) → ℕ → StepsLeft
after_tests e test zero = all_steps
after_tests e test (suc j) = halved e test (after_tests e test j)

-- ---- how many tests are made
-- A test asks whether one step passes, which is to compare its result with the factor. It counts as a test however it is answered: by the
-- result, which is then worked out, by bounds of it, or because it was known before the search that the result is above or below the factor.
-- So "j tests" are j halvings, whatever was known before, and no more than j results are worked out. What is known before a search comes from
-- bounds of two results, which rule out no step and are no tests.

-- how many tests a halving makes: one, and none of a single step
abbrev pub tests_of : StepsLeft → ℕ
tests_of p = if nat_le p.last p.first then 0 else 1

-- how many tests a search makes that has a budget of j
unfoldable pub tests_made : End → (ℕ → Bool) → ℕ → ℕ
tests_made e test zero = 0
tests_made e test (suc j) = tests_made e test j + tests_of (after_tests e test j)

-- the search for the lower and the upper rate: by the tests of term t in the rounded working, from the factors at both ends
abbrev pub rate_test : (End → ℕ → ℕ) → End → ℕ → ℕ → Bool
rate_test factor low t i = lower_test factor t i
rate_test factor high t i = upper_test factor t i

abbrev pub steps_left : (End → ℕ → ℕ) → End → ℕ → ℕ → StepsLeft
steps_left factor e t j = after_tests e (rate_test factor e t) j

-- ---- what is promised

-- whether step i is left, and how many of the numbers below n pass a test
abbrev pub is_left : StepsLeft → ℕ → Bool
is_left p i = nat_le p.first i && nat_le i p.last

unfoldable pub how_many : (ℕ → Bool) → ℕ → ℕ
how_many test zero = 0
how_many test (suc n) = let r = how_many test n in if test n then suc r else r

-- how many of the 22,001 steps are left
abbrev pub count_left : StepsLeft → ℕ
count_left p = how_many (is_left p) 22001

-- "22,001 ÷ 2^j steps, rounded up"
abbrev pub most_left : ℕ → ℕ
most_left j = divide high 22001 (2 ^ j)

-- rate z is the rate of a step that is left
pub record RateLeft (p : StepsLeft) (z : ℤ) : Type 0 where
  pub step : ℕ
  pub rate : z ≡ step_at step
  pub among : is_left p step ≡ true

-- The promise, of the rate of term t at an end: that rate is the one that the rounded working defines.
pub record ShortSearch (factor : End → ℕ → ℕ) (e : End) (t : ℕ) : Type 0 where
  -- "After j tests at most 22,001 ÷ 2^j steps, rounded up, are left"
  pub few : (j : ℕ) → count_left (steps_left factor e t j) ≤ most_left j
  -- "the rate among them"
  pub left : (j : ℕ) → RateLeft (steps_left factor e t j) (rate_of factor e t)
  -- "so a budget of 15 tests always suffices": one step is left then, and it is the rate
  pub one : count_left (steps_left factor e t 15) ≡ 1
  pub found : rate_of factor e t ≡ step_at (steps_left factor e t 15).first
  -- no search makes more tests than its budget, and none makes more than 15, whatever its budget
  pub within : (j : ℕ) → tests_made e (rate_test factor e t) j ≤ j
  pub most : (j : ℕ) → tests_made e (rate_test factor e t) j ≤ 15
