-- `working::value_into` meets its contract. Assumes nothing. The check leaves each of these goals open without its answer.
use Rattle.std.proofs.Common.{◌≡◌}
use Rattle.method.specs.Curve.{base}
use Rattle.method.specs.Rounded as Rounded
use Rattle.curves.specs.inner.ByTerm.{brackets}
use Rattle.curves.specs.inner.Shifted.{curve_held}
use Rattle.working.specs.inner.Working.{adjusted_by}
use Rattle.working.proofs.Working.{sums-fit, adjusted-is, adjusted-by, adjusted-on, base-within, factors-lent, rates-lent}
use Rattle.working.proofs.value_into.Goals.{After-map-adjusted}
use Rattle.working.proofs.value_into.Goals as goal

-- the factors of the three curves, and those of the base curve
of-curves : (c : After-map-adjusted) → c.map-adjusted.result ≡ adjusted_by c.sums_of-sums.result
of-curves c = adjusted-is c.requires _ c.sums_of-sums.ensures _ (λ m. let r = c.map-adjusted.ensures m in adjusted-by _ _ r.shows _ r.says.met)

of-base : (c : After-map-adjusted) → c.map-adjusted.result.base ≡ brackets (Rounded.factor (curve_held c.args.case.now base)) 120
of-base c = adjusted-on c.requires _ c.sums_of-sums.ensures _ (of-curves c) base

pub map-adjusted-requires : goal.map-adjusted-requires
map-adjusted-requires c m p is = sums-fit c.requires _ c.sums_of-sums.ensures m p.now is

pub zero_rates-requires : goal.zero_rates-requires
zero_rates-requires c = base-within c.args.case.now c.requires _ (of-base (goal.at.zero_rates-requires c).After-map-adjusted)

pub money_at-requires : goal.money_at-requires
money_at-requires c = record { case = c.requires; sums = c.sums_of-sums.ensures; adjusted = of-curves (goal.at.money_at-requires c).After-map-adjusted }

pub returns-clause-factors : goal.returns-clause-factors
returns-clause-factors c = factors-lent c.args.case.now c.requires _ (of-base (goal.at.returns-clause-factors c).After-map-adjusted) _ c.lend.ensures

pub returns-clause-rates : goal.returns-clause-rates
returns-clause-rates c =
    rates-lent c.args.case.now c.requires _ (of-base (goal.at.returns-clause-rates c).After-map-adjusted) _ c.zero_rates.ensures _ c.lend-2.ensures
