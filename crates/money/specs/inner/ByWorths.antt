-- The figures and the verdict together, by what flows are worth on the three curves.
use Rattle.std.specs.Prelude.{ℕ}
use Rattle.arith.specs.Rounding.{End}
use Rattle.method.specs.Curve.{Move}
use Rattle.method.specs.Rounded.{figures_of, verdict_of}
use Rattle.model.specs.declared.case.Amounts.{Amounts}
use Rattle.model.specs.declared.case.Shocks.{Shocks}
use Rattle.model.specs.declared.case.People.{People}
use Rattle.model.specs.declared.figures.Valuation.{Valuation}

abbrev pub money_by : (Move → End → ℕ) → (Move → End → ℕ) → Amounts → Shocks → People → Valuation
money_by l b a x p = record { figures = figures_of l b a x p; verdict = verdict_of l b a x p }
