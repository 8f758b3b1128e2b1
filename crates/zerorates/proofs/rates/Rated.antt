-- One term of the zero rates, from the list of factors. Assumes nothing.
use Rattle.arith.specs.Brackets.{end_of}
use Rattle.arith.specs.declared.bracket.Bracket.{Bracket}
use Rattle.curves.specs.inner.ByTerm.{factor_at}
use Rattle.zerorates.specs.inner.ByTerm.{rate_bracket}
use Rattle.zerorates.specs.inner.Results.{passed}
use Prim.Native.Nat.{ℕ, zero, suc, ◌+◌, ◌*◌, ◌-◌, ◌^◌, ◌≤◌, ◌<◌}
use mathlib.Core.Path.{◌≡◌, ap, sym, ◌∙◌}
use mathlib.Core.List.{List}
use native.Mathlib.Numerals.{add-one}
use native.Mathlib.Omega.{arith}
use native.Mathlib.Nat.{le_trans, mul-le-mul, div-le_self, one-le-pow}
use lib.Dec.{le→leb}
use lib.ListN.{get_or}
use lib.IntN.{ℤ}
use mir.Syntax.{w64}
use mir.Val.{to_z, of_z}
use Rattle.arith.specs.Rounding.{End, low, high}
use Rattle.model.specs.Constants.{unit, steps_per_one}
use Rattle.method.specs.Rounded.{step_at, tested, rate_of}
use Rattle.searchmodel.specs.Bisection.{after_tests, steps_left}
use Rattle.searchmodel.specs.declared.StepsLeft.{StepsLeft}
use Rattle.theory.proofs.curve.Steps.{scaled-in}
use Rattle.theory.proofs.curve.RateTests.{tested-small}
use Rattle.theory.proofs.curve.Bisection.{RateExists, short-search}
use Rattle.zerorates.specs.inner.Ranges.{GuessWithin, RatesWithin}
use Rattle.zerorates.proofs.rates.Signed.{stored}
use Rattle.zerorates.proofs.Left.{first-most}

tested-some : (t i : ℕ) → 0 < tested high t i
tested-some t i = go (tested high t i) (scaled-in high steps_per_one (98000 + i) t (omega arith)).is.le
  where
    go : (n : ℕ) → unit * steps_per_one ^ t ≤ n * (98000 + i) ^ t → 0 < n
    go zero h = absurd (let z : ⊥ = omega (arith, one-le-pow t steps_per_one (omega arith)) in z)
    go (suc n) h = omega arith

module _ (factors : List Bracket) (t : ℕ) where
  abbrev pub factor : Bracket
  factor = get_or factors t (record { lower = 0; upper = 0 })

  factor-is : (e : End) → end_of factor e ≡ factor_at factors e (t + 1)
  factor-is e = ap (λ (n : ℕ). end_of (get_or factors n (record { lower = 0; upper = 0 })) e) (let k : t ≡ t + 1 - 1 = omega arith in k)

  module _ (w : RatesWithin factors) (h : t + 1 ≤ 120) where
    -- what a guess asks: no upper factor is above 12 × 10^12, and no lower factor is 0
    pub factor-most : factor.upper ≤ 12 * 10 ^ 12
    factor-most = rw (factor-is high) (le_trans (w.lower (t + 1) (omega arith) h) (tested-small low (t + 1) 0 h))

    pub guess-within : {step last : ℕ} → step ≤ 22000 → last ≤ 12 * 10 ^ 12 → GuessWithin t step last factor.lower
    guess-within {step} {last} step_most last_most = record {
      some = rw (factor-is low) (le_trans (tested-some (t + 1) 22000) (w.upper (t + 1) (omega arith) h));
      product = omega arith;
      growth = le_trans (div-le_self (last * 100000) factor.lower) (omega arith);
      years = mul-le-mul {n₁ = t} {m₁ = 98000 + step} {n₂ = 120} {m₂ = 120000} (omega arith) (omega arith);
      term = omega arith;
      last = step_most;
    }

    exists : (e : End) → RateExists (factor_at factors) e (t + 1)
    exists low = le→leb (factor_at factors high (t + 1)) (tested low (t + 1) 0) (w.lower (t + 1) (omega arith) h)
    exists high = le→leb (tested high (t + 1) 22000) (factor_at factors low (t + 1)) (w.upper (t + 1) (omega arith) h)

    -- what is stored for the step that 15 tests leave is the rate of the definition
    rate-stored : (z : ℤ) (p : StepsLeft) (e : End) → z ≡ step_at p.first → p ≡ steps_left (factor_at factors) e (t + 1) 15
        → to_z w64 (of_z w64 z) ≡ rate_of (factor_at factors) e (t + 1)
    rate-stored z p e is left =
        stored z p.first is (first-most e _ 15 left)
        ∙ ap (λ (q : StepsLeft). step_at q.first) left
        ∙ sym (short-search (factor_at factors) (t + 1) e (exists e)).found

    pub lower-rate : (z : ℤ) (p : StepsLeft) → z ≡ step_at p.first → p ≡ after_tests low (passed low (t + 1) factor.upper) 15
        → to_z w64 (of_z w64 z) ≡ rate_of (factor_at factors) low (t + 1)
    lower-rate z p is left = rate-stored z p low is (left ∙ ap (λ (n : ℕ). after_tests low (passed low (t + 1) n) 15) (factor-is high))

    pub upper-rate : (z : ℤ) (p : StepsLeft) → z ≡ step_at p.first → p ≡ after_tests high (passed high (t + 1) factor.lower) 15
        → to_z w64 (of_z w64 z) ≡ rate_of (factor_at factors) high (t + 1)
    upper-rate z p is left = rate-stored z p high is (left ∙ ap (λ (n : ℕ). after_tests high (passed high (t + 1) n) 15) (factor-is low))

  pub rates-are : (a b : ℤ) → a ≡ rate_of (factor_at factors) low (t + 1) → b ≡ rate_of (factor_at factors) high (t + 1)
      → record { lower = a; upper = b } ≡ rate_bracket (λ e. rate_of (factor_at factors) e (suc t))
  rates-are a b p q = rw (p, q, add-one t)
