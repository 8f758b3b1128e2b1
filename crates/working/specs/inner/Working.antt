-- What is worked out of a case as the engine holds it, in the words of `method`.
use Rattle.std.specs.Prelude.{ℕ, List, ℤ}
use Rattle.arith.specs.Rounding.{End}
use Rattle.arith.specs.declared.bracket.Bracket.{Bracket}
use Rattle.model.specs.Constants.{last_term}
use Rattle.method.specs.Curve.{Move, base}
use Rattle.method.specs.Buffers.{by_term}
use Rattle.method.specs.Rounded as Rounded
use Rattle.method.specs.Rounded.{worth}
use Rattle.heldcase.specs.declared.Case.{Case}
use Rattle.curves.specs.declared.sums.CurveSums.{CurveSums}
use Rattle.curves.specs.declared.three.Three.{Three}
use Rattle.curves.specs.inner.Three.{on, three}
use Rattle.curves.specs.inner.ByTerm.{brackets}
use Rattle.curves.specs.inner.Shifted.{curve_of, moved_sums, curve_held}
use Rattle.money.specs.inner.ByWorths.{money_by}
use Rattle.model.specs.declared.figures.Valuation.{Valuation}

-- the sums of its three curves
abbrev pub sums_on : Case → Three CurveSums
sums_on c = three (λ m. moved_sums m c)

-- the adjusted factors of three curves
abbrev pub adjusted_by : Three CurveSums → Three (List Bracket)
adjusted_by s = three (λ m. brackets (Rounded.factor (curve_of (on s m))) last_term)

-- the adjusted factors of one of its curves, and the zero rates of the base curve: lower, upper, term by term
abbrev pub factors_on : Case → Move → List ℕ
factors_on c m = by_term (Rounded.factor (curve_held c m)) last_term

abbrev pub rates_on : Case → List ℤ
rates_on c = by_term (Rounded.zero_rate (curve_held c base)) last_term

-- what its pension flows and its bonds are worth, each at any factors of the three curves, and its figures and verdict
abbrev pub owed : (Move → End → ℕ → ℕ) → Case → Move → End → ℕ
owed f c m e = worth e (f m e) 1 c.pension

abbrev pub bonds : (Move → End → ℕ → ℕ) → Case → Move → End → ℕ
bonds g c m e = worth e (g m e) 1 c.bonds

abbrev pub money_on : (Move → End → ℕ → ℕ) → (Move → End → ℕ → ℕ) → Case → Valuation
money_on f g c = money_by (owed f c) (bonds g c) c.amounts c.shocks c.people

-- its figures and verdict, at the adjusted and the unadjusted factors of its own curves
abbrev pub money_of : Case → Valuation
money_of c = money_on (λ m. Rounded.factor (curve_held c m)) (λ m. Rounded.unadjusted (curve_held c m)) c
