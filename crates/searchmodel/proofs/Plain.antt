-- The promise of specs/Promises.antt used once in plain numbers, at its largest and its smallest: the terms 1 and 120, both ends, no test and 15
-- tests. Nothing else rests on this: a promise that said less would not give it. Assumes nothing.
use Rattle.std.specs.Prelude.{ℕ, ◌≤◌, ◌<◌, ◌≡◌, true, List, ℤ}
use native.Mathlib.Omega.{arith}
use Rattle.arith.specs.Rounding.{End, low, high, divide}
use Rattle.model.specs.Case.{FileCase}
use Rattle.model.specs.Layout.{case_of}
use Rattle.model.specs.Limits.{WithinLimits}
use Rattle.model.specs.Refusals.{refusal}
use Rattle.method.specs.Curve.{base, curve}
use Rattle.method.specs.Rounded as Rounded
use Rattle.method.specs.Rounded.{step_at, zero_rate}
use Rattle.searchmodel.specs.Bisection.{rate_test, steps_left, count_left, is_left, most_left, tests_made, RateLeft, ShortSearch}
use Rattle.searchmodel.specs.declared.StepsLeft.{StepsLeft}
use Rattle.searchmodel.specs.Promises.{SearchesAreShort}

-- the rate is that of a step that is left
record Left (p : StepsLeft) (z : ℤ) : Type 0 where
  step : ℕ
  rate : z ≡ step_at step
  among : is_left p step ≡ true

left-indeed : (p : StepsLeft) (z : ℤ) → RateLeft p z → Left p z
left-indeed p z r = record { step = r.step; rate = r.rate; among = r.among }

-- What is said of one search: 22,001 steps at most at first, and one after 15 tests; the zero rate among the steps that are left after this
-- many tests, and the one that is left; no more tests than the budget, none of a budget of none, and 15 of any.
record Searched (k : FileCase) (e : End) (t : ℕ) : Type 0 where
  at_first : count_left (steps_left (Rounded.factor (curve k base)) e t 0) ≤ 22001
  after_one : count_left (steps_left (Rounded.factor (curve k base)) e t 1) ≤ 11001
  after_15 : count_left (steps_left (Rounded.factor (curve k base)) e t 15) ≤ 1
  after_any : (j : ℕ) → count_left (steps_left (Rounded.factor (curve k base)) e t j) ≤ most_left j
  one : count_left (steps_left (Rounded.factor (curve k base)) e t 15) ≡ 1
  rate : zero_rate (curve k base) e t ≡ step_at (steps_left (Rounded.factor (curve k base)) e t 15).first
  among : (j : ℕ) → Left (steps_left (Rounded.factor (curve k base)) e t j) (zero_rate (curve k base) e t)
  no_test : tests_made e (rate_test (Rounded.factor (curve k base)) e t) 0 ≤ 0
  one_test : tests_made e (rate_test (Rounded.factor (curve k base)) e t) 1 ≤ 1
  any_tests : (j : ℕ) → tests_made e (rate_test (Rounded.factor (curve k base)) e t) j ≤ j
  most_tests : (j : ℕ) → tests_made e (rate_test (Rounded.factor (curve k base)) e t) j ≤ 15

searched : (k : FileCase) (e : End) (t : ℕ) → ShortSearch (Rounded.factor (curve k base)) e t → Searched k e t
unfolding divide
searched k e t s = record {
  at_first = s.few 0;
  after_one = s.few 1;
  after_15 = s.few 15;
  after_any = s.few;
  one = s.one;
  rate = s.found;
  among = λ j. left-indeed (steps_left (Rounded.factor (curve k base)) e t j) (zero_rate (curve k base) e t) (s.left j);
  no_test = s.within 0;
  one_test = s.within 1;
  any_tests = s.within;
  most_tests = s.most;
}

-- both ends at the terms 1 and 120
abbrev BothEnds : FileCase → ℕ → Type 0
BothEnds k t = Searched k low t × Searched k high t

search-of-a-case : SearchesAreShort → (k : FileCase) → WithinLimits k → BothEnds k 1 × BothEnds k 120
search-of-a-case p k w = (
  (searched k low 1 (p.of_cases k w low 1 (omega arith) (omega arith)), searched k high 1 (p.of_cases k w high 1 (omega arith) (omega arith))),
  (searched k low 120 (p.of_cases k w low 120 (omega arith) (omega arith)), searched k high 120 (p.of_cases k w high 120 (omega arith) (omega arith))),
)

search-of-a-file : SearchesAreShort → (file : List ℕ) → refusal file ≡ 0 → BothEnds (case_of file) 1 × BothEnds (case_of file) 120
search-of-a-file p file h =
    let k = case_of file in (
      (searched k low 1 (p.of_files file h low 1 (omega arith) (omega arith)), searched k high 1 (p.of_files file h high 1 (omega arith) (omega arith))),
      (
        searched k low 120 (p.of_files file h low 120 (omega arith) (omega arith)),
        searched k high 120 (p.of_files file h high 120 (omega arith) (omega arith)),
      ),
    )

-- every term between
search-of-every-term : SearchesAreShort → (k : FileCase) → WithinLimits k → (e : End) (t : ℕ) → 0 < t → t < 121 → Searched k e t
search-of-every-term p k w e t least most = searched k e t (p.of_cases k w e t least (omega arith))
