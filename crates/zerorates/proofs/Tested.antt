-- The results of the tests of a zero rate: that they fit 64 bits, one year more, and what bounds of the unrounded result say of them.
-- Assumes nothing.
use Prim.Native.Nat.{ℕ, ◌+◌, ◌*◌, ◌^◌, ◌≤◌, ◌<◌}
use mathlib.Core.Path.{◌≡◌, refl}
use native.Mathlib.Nat.{one-le-pow}
use Rattle.std.specs.Ordering.{nat_cmp}
use Rattle.std.specs.Cmp.{nat_cmp_is}
use Rattle.std.specs.declared.cmp.Ordering.TheVariants.{Less, Greater}
use Rattle.std.proofs.lemmas.Bool.Decides.{nat_tests}
use native.Mathlib.Omega.{arith}
use native.Mathlib.Numerals.{add-one}
use Rattle.arith.specs.Rounding.{End, low, high, divide}
use Rattle.model.specs.Constants.{unit, steps_per_one}
use Rattle.model.specs.Numbers.{every}
use Rattle.method.specs.Rounded.{scaled, tested}
use Rattle.arith.specs.Brackets.{bracket, end_of}
use Rattle.arith.specs.declared.bracket.Bracket.{Bracket}
use Rattle.theory.proofs.general.ByEnds.{end_is}
use Rattle.theory.proofs.general.Lists.{every-le}
use Rattle.theory.proofs.curve.Steps.{ends, scaled-in, scaled-ends, width_after}
use Rattle.theory.proofs.curve.RateTests.{tested-small, tested-width}
use Rattle.zerorates.specs.inner.Powers.{Encloses, power_most}
use Rattle.zerorates.specs.inner.Ranges.{StepWithin}
use Rattle.zerorates.specs.inner.Results.{BothCompare, passed, passing}
use Rattle.zerorates.proofs.Powers.{in-units, in-units-most}

-- over no years
pub tested-none : (e : End) (i : ℕ) → tested e 0 i ≡ unit
unfolding scaled
tested-none e i = refl

pub test_fits : (e : End) (x t i k : ℕ) → StepWithin t i → k ≤ t → x ≡ tested e k i → x < 2 ^ 46
test_fits e x t i k w h q = omega (arith, tested-small e k i (omega (arith, w.term)))

pub test-more : (e : End) (x r k i : ℕ) → x ≡ tested e k i → r ≡ divide e (x * 100000) (98000 + i) → r ≡ tested e (k + 1) i
unfolding scaled
test-more e x r k i q l = rw (add-one k, ← q) l

pub test-all : (e : End) (x k t i : ℕ) → x ≡ tested e k i → k ≤ t → t ≤ k → x ≡ tested e t i
test-all e x k t i q h l = let p : k ≡ t = omega arith in rw p at q

-- the two results are at most 1,000 apart: computed of each term
near : (t : ℕ) → t < 121 → width_after t ≤ 1000
unfolding every width_after divide
near t = every-le width_after (λ _. 1000) 121 t refl

-- ---- the unrounded result is between the two, so its bounds are at most 1,000 from bounds of both
module _ {x r : Bracket} {t i : ℕ} (w : StepWithin t i) (p : Encloses x t i (power_most t))
    (is : r ≡ bracket (λ e. divide e (end_of x e * 5 ^ 12) (2 ^ 18))) where
  some : 0 < (98000 + i) ^ t
  some = one-le-pow t (98000 + i) (omega arith)

  widest : tested high t i ≤ tested low t i + 1000
  widest = omega (arith, tested-width t i, near t (omega (arith, w.term)))

  end-is : (e : End) → end_of r e ≡ divide e (end_of x e * 5 ^ 12) (2 ^ 18)
  end-is e = end_is r (λ e. divide e (end_of x e * 5 ^ 12) (2 ^ 18)) is e

  pub lower-bound : r.lower ≤ tested low t i + 1000
  lower-bound = omega (arith, end-is low, widest, ends some (in-units w p low) (scaled-in high steps_per_one (98000 + i) t (omega arith)))

  pub upper-bound : tested high t i ≤ r.upper + 1000
  upper-bound = omega (arith, end-is high, widest, ends some (scaled-in low steps_per_one (98000 + i) t (omega arith)) (in-units w p high))

  pub upper-most : r.upper ≤ 2 ^ 46
  upper-most = rw (end-is high) (in-units-most w p)

-- ---- a test whose results are both above the factor, or both below it
results-order : (t i : ℕ) → tested low t i ≤ tested high t i
results-order t i = scaled-ends steps_per_one (98000 + i) t (omega arith)

compared-above : (e : End) (t factor i : ℕ) → factor < tested low t i → Greater ≡ nat_cmp (tested e t i) factor
compared-above low t factor i h = nat_cmp_is (tested low t i) factor Greater h
compared-above high t factor i h = nat_cmp_is (tested high t i) factor Greater (omega (arith, results-order t i))

compared-below : (e : End) (t factor i : ℕ) → tested high t i < factor → Less ≡ nat_cmp (tested e t i) factor
compared-below low t factor i h = nat_cmp_is (tested low t i) factor Less (omega (arith, results-order t i))
compared-below high t factor i h = nat_cmp_is (tested high t i) factor Less h

pub both-above : {t factor i : ℕ} → factor < tested low t i → BothCompare Greater t i factor
both-above {t} {factor} {i} h = record { by = λ e. compared-above e t factor i h }

pub both-below : {t factor i : ℕ} → tested high t i < factor → BothCompare Less t i factor
both-below {t} {factor} {i} h = record { by = λ e. compared-below e t factor i h }

-- the test of the definition, by the comparison
pub passing-is : (e : End) (t factor i : ℕ) → passing e (nat_cmp (tested e t i) factor) ≡ passed e t factor i
passing-is low t factor i = grind (arith, nat_tests)
passing-is high t factor i = grind (arith, nat_tests)
