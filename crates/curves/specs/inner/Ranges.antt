-- What the functions of `curves` ask of their numbers, so that nothing on the way overflows.
use Rattle.std.specs.Prelude.{ℕ, ◌+◌, ◌*◌, ◌-◌, ◌^◌, ◌≤◌, ◌<◌, ◌≡◌, slice_index}
use Rattle.arith.specs.Rounding.{high}
use Rattle.heldcase.specs.declared.Case.{Case}
use Rattle.arith.specs.declared.bracket.Bracket.{Bracket}
use Rattle.arith.specs.declared.ratio.Ratio.{Ratio}
use Rattle.model.specs.Constants.{steps_per_one}
use Rattle.method.specs.Rounded as Rounded
use Rattle.method.specs.Rounded.{scaled}
use Rattle.arith.specs.Brackets.{bracket}
use Rattle.method.specs.inner.CurveWithin.{CurveWithin}
use Rattle.curves.specs.declared.sums.CurveSums.{CurveSums}
use Rattle.curves.specs.inner.Shifted.{curve_of}
use Rattle.curves.specs.inner.Years.{scaled_from}

-- of a curve that is shifted: mean rates from -1,000 to 10,000 steps, and a shift of at most 1,000
pub record ShiftWithin (k : Case) (more less : ℕ) : Type 0 where
  pub per_step : k.per_step ≤ 7000
  pub least : (i : ℕ) → i < 60 → 99000 * k.per_step ≤ slice_index k.sums i
  pub most : (i : ℕ) → i < 60 → slice_index k.sums i ≤ 110000 * k.per_step
  pub more_most : more ≤ 1000
  pub less_most : less ≤ 1000

-- of 10^12, j times × a ÷ b: no result on the way reaches 2^42
pub record ScaledWithin (a b j : ℕ) : Type 0 where
  pub few : j ≤ 60
  pub some : 0 < b
  pub most : b ≤ 2 ^ 34
  pub ratio : a ≤ 2 * b
  pub years : (i : ℕ) → i ≤ j → scaled high a b i < 2 ^ 42

-- of a bracket, j times × p ÷ q: each result on the way can be taken once more
pub record YearsWithin (p q : ℕ) (x : Bracket) (j : ℕ) : Type 0 where
  pub some : 0 < q
  pub order : x.lower ≤ x.upper
  pub years : (i : ℕ) → i < j → scaled_from high p q x.upper i < 2 ^ 46

-- of the growth of term j + 1, where p is P(j + 1) and q is P(j)
pub record GrowthWithin (n p q j : ℕ) : Type 0 where
  pub years : ScaledWithin p q j
  pub some : 0 < n
  pub most : n ≤ 2 ^ 40
  pub ratio : p ≤ 2 * n

-- of a growth that is weighed
pub record WeighWithin (growth : Bracket) (w u : ℕ) : Type 0 where
  pub lower : growth.lower ≤ 2 * 10 ^ 12
  pub upper : growth.upper ≤ 2 * 10 ^ 12
  pub weight : w ≤ 1000
  pub ufr : u ≤ 2 * 10 ^ 12

-- of a curve: what the checks of a file leave true of it, where a step adds at most 7,000 to a sum
pub record FactorsWithin (c : CurveSums) : Type 0 where
  pub within : CurveWithin (curve_of c)
  pub most : c.n ≤ 700000000

-- of the factor of term t, that f is the one before it; the ratio is what a factor from term 61 on is of the one before it
pub record NextWithin (c : CurveSums) (late : Ratio) (f : Bracket) (t : ℕ) : Type 0 where
  pub curve : FactorsWithin c
  pub dividend : late.dividend ≡ steps_per_one
  pub divisor : late.divisor ≡ steps_per_one + c.ufr
  pub some : 1 ≤ t
  pub before : f ≡ bracket (λ e. Rounded.factor (curve_of c) e (t - 1))
