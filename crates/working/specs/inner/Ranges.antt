-- The range in which a case that the engine holds is worked out: what the reader leaves true of every case that it accepts.
use Rattle.std.specs.Prelude.{◌≤◌, length}
use Rattle.model.specs.Constants.{last_market_term}
use Rattle.model.specs.Limits.{AmountsWithin, ShocksWithin, PeopleWithin}
use Rattle.method.specs.Curve.{Move, base}
use Rattle.method.specs.inner.CurveWithin.{CurveWithin, BaseWithin}
use Rattle.heldcase.specs.declared.Case.{Case}
use Rattle.curves.specs.inner.Shifted.{curve_held}
use Rattle.money.specs.inner.Ranges.{FlowsFit}

pub record CaseFits (c : Case) : Type 0 where
  pub per_step : c.per_step ≤ 7000
  pub base : BaseWithin (curve_held c base)
  pub curves : (m : Move) → CurveWithin (curve_held c m)
  pub pension : FlowsFit c.pension
  pub bonds : FlowsFit c.bonds
  pub bond_terms : length c.bonds ≤ last_market_term
  pub amounts : AmountsWithin c.amounts
  pub shocks : ShocksWithin c.shocks
  pub people : PeopleWithin c.people
