-- The search for a zero rate, proved: after j tests at most 22,001 ÷ 2^j steps, rounded up, are left, the zero rate is among them, and
-- after 15 it is the only one. Of n steps a test leaves at most n ÷ 2, rounded up, whichever way it goes (`halves`). The rate stays among them
-- because the results fall as the step rises: the tests change at the rate and nowhere else (`Splits`).
-- And no search makes more tests than its budget, or than 15. Assumes nothing.
use Prim.Native.Nat.{ℕ, zero, suc, ◌+◌, ◌-◌, ◌*◌, ◌^◌, ◌≤◌, ◌<◌}
use mathlib.Core.Path.{◌≡◌, refl, sym, ◌∙◌, ap}
use mathlib.Core.Bool.{Bool, true, false, cond}
use native.Mathlib.Omega.{arith}
use native.Mathlib.Nat.{le_trans, mul-le-mul_left, mul-le-mul_right, pow-suc, one-le-pow}
use Rattle.std.proofs.Math.Pow.{pow_mono}
use native.Mathlib.Decide.{dec_le}
use borrow.Author.Tests.{le-leb, lt-leb, leb-true, leb-false}
use lib.Dec.{leb, T, leb→le, le→leb, lit<, lit≤}
use Rattle.arith.specs.Rounding.{End, low, high}
use Rattle.arith.proofs.Rounding.{divide-ceiling}
use Rattle.method.specs.Rounded.{step_at, tested, lower_test, upper_test, rate_of}
use Rattle.method.specs.Brackets.{largest, smallest}
use Rattle.searchmodel.specs.Bisection.{middle, leaves, halved, after_tests, tests_of, tests_made, rate_test, steps_left}
use Rattle.searchmodel.specs.Bisection.{is_left, how_many, count_left, most_left, ShortSearch}
use Rattle.searchmodel.specs.declared.StepsLeft.{StepsLeft}
use Rattle.theory.proofs.general.Search.{largest-found, smallest-found, largest-splits, smallest-splits}
use Rattle.theory.proofs.curve.RateTests.{tested-anti}

-- ---- how many steps are left

-- after j tests: an interval of steps, halved j times
pub record Halved (j : ℕ) (p : StepsLeft) : Type 0 where
  pub order : p.first ≤ p.last
  pub most : p.last ≤ 22000
  pub near : 2 ^ j * (p.last - p.first) ≤ 22000

half : (j m n : ℕ) → 2 * m ≤ n → 2 ^ j * n ≤ 22000 → 2 ^ suc j * m ≤ 22000
half j m n h k = rw (pow-suc 2 j) (omega (arith, mul-le-mul_left (2 ^ j) h))

pub halves : (e : End) (test : ℕ → Bool) (j : ℕ) (p : StepsLeft) → Halved j p → Halved (suc j) (halved e test p)
halves e test j p k = go e (leb p.last p.first) refl (test (middle e p))
  where
    go : (e : End) (ended : Bool) → leb p.last p.first ≡ ended → (passes : Bool)
        → Halved (suc j) (cond ended p (leaves e (middle e p) passes p))
    go e true h b = record {
      order = k.order;
      most = k.most;
      near = half j (p.last - p.first) (p.last - p.first) (omega (arith, leb-true p.last p.first h)) k.near;
    }
    go low false h true = record {
      order = omega (arith, leb-false p.last p.first h);
      most = k.most;
      near = half j (p.last - middle low p) (p.last - p.first) (omega arith) k.near;
    }
    go low false h false = record {
      order = omega (arith, leb-false p.last p.first h);
      most = omega (arith, k.most, leb-false p.last p.first h);
      near = half j (middle low p - 1 - p.first) (p.last - p.first) (omega arith) k.near;
    }
    go high false h true = record {
      order = omega (arith, leb-false p.last p.first h);
      most = omega (arith, k.most, leb-false p.last p.first h);
      near = half j (middle high p - p.first) (p.last - p.first) (omega arith) k.near;
    }
    go high false h false = record {
      order = omega (arith, leb-false p.last p.first h);
      most = k.most;
      near = half j (p.last - (middle high p + 1)) (p.last - p.first) (omega arith) k.near;
    }

pub after-halves : (e : End) (test : ℕ → Bool) (j : ℕ) → Halved j (after_tests e test j)
unfolding after_tests
after-halves e test zero = record { order = omega arith; most = omega arith; near = omega arith }
after-halves e test (suc j) = halves e test j (after_tests e test j) (after-halves e test j)

-- the steps that are left, counted one by one
module _ (p : StepsLeft) (order : p.first ≤ p.last) where
  before-first : (n : ℕ) → n ≤ p.first → how_many (is_left p) n ≡ 0
  unfolding how_many
  before-first zero h = refl
  before-first (suc n) h = rw (lt-leb p.first n h) (before-first n (omega arith))

  up-to-last : (n : ℕ) → p.first + n ≤ p.last + 1 → how_many (is_left p) (p.first + n) ≡ n
  unfolding how_many
  up-to-last zero h = let e : p.first + 0 ≡ p.first = omega arith in rw e (before-first p.first (omega arith))
  up-to-last (suc n) h =
      let e : p.first + suc n ≡ suc (p.first + n) = omega arith in
      rw (e, le-leb p.first (p.first + n) (omega arith), le-leb (p.first + n) p.last (omega arith)) (ap suc (up-to-last n (omega arith)))

  past-last : (n : ℕ) → how_many (is_left p) (p.last + 1 + n) ≡ p.last + 1 - p.first
  unfolding how_many
  past-last zero =
      let e : p.last + 1 + 0 ≡ p.first + (p.last + 1 - p.first) = omega arith in
      rw e (up-to-last (p.last + 1 - p.first) (omega arith))
  past-last (suc n) =
      let e : p.last + 1 + suc n ≡ suc (p.last + 1 + n) = omega arith in
      rw (e, le-leb p.first (p.last + 1 + n) (omega arith), lt-leb (p.last + 1 + n) p.last (omega arith)) (past-last n)

  pub count-is : p.last ≤ 22000 → count_left p ≡ p.last + 1 - p.first
  count-is h = let e : 22001 ≡ p.last + 1 + (22000 - p.last) = omega arith in rw e (past-last (22000 - p.last))

few-left : (j : ℕ) (p : StepsLeft) → Halved j p → count_left p ≤ most_left j
few-left j p k = rw (count-is p k.order k.most) (go (dec_le (p.last + 1 - p.first) (most_left j)))
  where
    go : Dec (p.last + 1 - p.first ≤ most_left j) → p.last + 1 - p.first ≤ most_left j
    go (yes h) = h
    go (no h) =
        let most : 2 ^ j * most_left j ≤ 2 ^ j * (p.last - p.first) = mul-le-mul_left (2 ^ j) (omega (arith, k.order)) in
        omega (arith, most, k.near, (divide-ceiling 22001 (2 ^ j) (one-le-pow j 2 (omega arith))).0)

-- ---- how many tests are made

one-test : (p : StepsLeft) → tests_of p ≤ 1
one-test p = go (leb p.last p.first)
  where
    go : (ended : Bool) → cond ended 0 1 ≤ 1
    go true = omega arith
    go false = omega arith

pub tests-within : (e : End) (test : ℕ → Bool) (j : ℕ) → tests_made e test j ≤ j
unfolding tests_made
tests-within e test zero = omega arith
tests-within e test (suc j) = omega (arith, tests-within e test j, one-test (after_tests e test j))

-- after 15 tests one step is left, which is not tested
no-more : (e : End) (test : ℕ → Bool) (n : ℕ) → tests_of (after_tests e test (15 + n)) ≡ 0
no-more e test n =
    let p = after_tests e test (15 + n) in
    let k = after-halves e test (15 + n) in
    let d = p.last - p.first in
    let near : 2 ^ 15 * d ≤ 22000 = le_trans (mul-le-mul_right d (pow_mono {i = 15} {j = 15 + n} (omega arith))) k.near in
    let alone : p.last ≤ p.first = omega (arith, near) in
    rw (le-leb p.last p.first alone) refl

past-15 : (e : End) (test : ℕ → Bool) (n : ℕ) → tests_made e test (15 + n) ≤ 15
unfolding tests_made
past-15 e test zero = tests-within e test 15
past-15 e test (suc n) = let is : 15 + suc n ≡ suc (15 + n) = omega arith in rw is (omega (arith, past-15 e test n, no-more e test n))

pub tests-most : (e : End) (test : ℕ → Bool) (j : ℕ) → tests_made e test j ≤ 15
tests-most e test j = go j (dec_le j 15)
  where
    go : (j : ℕ) → Dec (j ≤ 15) → tests_made e test j ≤ 15
    go j (yes h) = le_trans (tests-within e test j) h
    go j (no h) = let is : j ≡ 15 + (j - 15) = omega arith in rw is (past-15 e test (j - 15))

-- ---- the rate is among them

-- a test changes at step r and nowhere else: r is the last step that passes, or the first
abbrev pub Splits : End → (ℕ → Bool) → ℕ → Type 0
Splits low test r = (i : ℕ) → i < 22001 → test i ≡ leb i r
Splits high test r = (i : ℕ) → i < 22001 → test i ≡ leb r i

record Among (r : ℕ) (p : StepsLeft) : Type 0 where
  least : p.first ≤ r
  most : r ≤ p.last

keeps : (e : End) (test : ℕ → Bool) (r : ℕ) → Splits e test r → (p : StepsLeft) → p.last ≤ 22000 → Among r p → Among r (halved e test p)
keeps e test r splits p m k = go e splits (leb p.last p.first) refl (test (middle e p)) refl
  where
    go : (e : End) → Splits e test r → (ended : Bool) → leb p.last p.first ≡ ended → (passes : Bool) → test (middle e p) ≡ passes
        → Among r (cond ended p (leaves e (middle e p) passes p))
    go e s true h b is = k
    go low s false h true is =
        let at = leb-true (middle low p) r (sym (s (middle low p) (omega (arith, leb-false p.last p.first h))) ∙ is) in
        record { least = at; most = k.most }
    go low s false h false is =
        let past = leb-false (middle low p) r (sym (s (middle low p) (omega (arith, leb-false p.last p.first h))) ∙ is) in
        record { least = k.least; most = omega (arith, past) }
    go high s false h true is =
        let at = leb-true r (middle high p) (sym (s (middle high p) (omega (arith, leb-false p.last p.first h))) ∙ is) in
        record { least = k.least; most = at }
    go high s false h false is =
        let past = leb-false r (middle high p) (sym (s (middle high p) (omega (arith, leb-false p.last p.first h))) ∙ is) in
        record { least = omega (arith, past); most = k.most }

after-keeps : (e : End) (test : ℕ → Bool) (r : ℕ) → r ≤ 22000 → Splits e test r → (j : ℕ) → Among r (after_tests e test j)
unfolding after_tests
after-keeps e test r h splits zero = record { least = omega arith; most = h }
after-keeps e test r h splits (suc j) =
    keeps e test r splits (after_tests e test j) (after-halves e test j).most (after-keeps e test r h splits j)

is-left : (r : ℕ) (p : StepsLeft) → Among r p → is_left p r ≡ true
is-left r p k = rw (le-leb p.first r k.least, le-leb r p.last k.most)

-- ---- of the tests of a zero rate

-- the rate is a step, because the first step passes the lower test, or the last one the upper test
abbrev pub RateExists : (End → ℕ → ℕ) → End → ℕ → Type 0
RateExists factor low t = T (lower_test factor t 0)
RateExists factor high t = T (upper_test factor t 22000)

module _ (factor : End → ℕ → ℕ) (t : ℕ) where
  -- the step of the rate
  pub found : End → ℕ
  found low = largest (lower_test factor t) 22001 22001
  found high = smallest (upper_test factor t) 0 22001 22001

  pub rate-is : (e : End) → rate_of factor e t ≡ step_at (found e)
  unfolding rate_of found
  rate-is low = refl
  rate-is high = refl

  pub found-passes : (e : End) → RateExists factor e t → T (rate_test factor e t (found e)) × (found e ≤ 22000)
  unfolding found
  found-passes low h = let r = largest-found (lower_test factor t) 22001 22001 0 (lit< tt) h in (r.0, omega (arith, r.1))
  found-passes high h = smallest-found (upper_test factor t) 0 22001 22001 22000 (lit≤ tt) (lit< tt) h

  falls : (i j : ℕ) → i ≤ j → T (lower_test factor t j) → T (lower_test factor t i)
  falls i j h q = le→leb (factor high t) (tested low t i) (le_trans (leb→le (factor high t) (tested low t j) q) (tested-anti low t i j h))

  rises : (i j : ℕ) → i ≤ j → T (upper_test factor t i) → T (upper_test factor t j)
  rises i j h q = le→leb (tested high t j) (factor low t) (le_trans (tested-anti high t i j h) (leb→le (tested high t i) (factor low t) q))

  pub splits : (e : End) → RateExists factor e t → Splits e (rate_test factor e t) (found e)
  unfolding found
  splits low h = largest-splits (lower_test factor t) falls 22001 22001 0 (lit< tt) h
  splits high h = smallest-splits (upper_test factor t) rises 22001 22001 22000 (lit< tt) h

  pub short-search : (e : End) → RateExists factor e t → ShortSearch factor e t
  short-search e h =
      let among = after-keeps e (rate_test factor e t) (found e) (found-passes e h).1 (splits e h) in
      let halved = after-halves e (rate_test factor e t) in
      let p = steps_left factor e t 15 in
      let alone : p.last ≡ p.first = omega (arith, (halved 15).near, (halved 15).order) in
      record {
        few = λ j. few-left j (steps_left factor e t j) (halved j);
        left = λ j. record { step = found e; rate = rate-is e; among = is-left (found e) (steps_left factor e t j) (among j) };
        one = count-is p (halved 15).order (halved 15).most ∙ (let q : p.last + 1 - p.first ≡ 1 = omega (arith, alone) in q);
        found = rate-is e ∙ ap step_at (let q : found e ≡ p.first = omega (arith, alone, (among 15).least, (among 15).most) in q);
        within = tests-within e (rate_test factor e t);
        most = tests-most e (rate_test factor e t);
      }
