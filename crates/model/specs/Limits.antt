-- The limits of the numbers of a case (METHOD, The case file; of forward rates: METHOD, Refusals), without the refusals.
use Rattle.std.specs.Prelude.{ℕ, ◌*◌, ◌-◌, ◌≤◌, ◌<◌, ◌≡◌, true, List, [], length, slice_index, slice_index_or, ℤ, pos, neg_ℤ, ◌-ℤ◌, ◌*ℤ◌, ◌≤ℤ◌}
use Rattle.model.specs.Case.{FileCase, known_form, units_per_step, s}
use Rattle.model.specs.declared.case.Amounts.{Amounts}
use Rattle.model.specs.declared.case.Shocks.{Shocks}
use Rattle.model.specs.declared.case.People.{People}

pub record Between (a b z : ℤ) : Type 0 where
  pub least : a ≤ℤ z
  pub most : z ≤ℤ b

-- each of a list of flows: "0 to 100,000,000 euros"
pub record FlowsWithin (flows : List ℕ) : Type 0 where
  pub each : (i : ℕ) → i < length flows → slice_index flows i ≤ 100000000

-- 60 zero rates, terms 1 to 60, "each -1,000 to 10,000 steps", in units of which `units` are a step: of four bytes -100,000 to 1,000,000
pub record DayWithin (units : ℕ) (day : List ℤ) : Type 0 where
  pub terms : length day ≡ 60
  pub each : (t : ℕ) → t < 60 → Between (neg_ℤ (pos (1000 * units))) (pos (10000 * units)) (slice_index_or day t (pos 0))

-- "t × s(t) - (t - 1) × s(t-1)"
abbrev pub forward : List (List ℤ) → ℕ → ℤ
forward days t = pos t *ℤ s days t -ℤ pos (t - 1) *ℤ s days (t - 1)

-- "a byte n, 1 to 70", and what error 6 asks of the sums, -2,000 × n to 12,000 × n steps
pub record DaysWithin (units : ℕ) (days : List (List ℤ)) : Type 0 where
  pub some : 1 ≤ length days
  pub most : length days ≤ 70
  pub each : (d : ℕ) → d < length days → DayWithin units (slice_index_or days d [])
  pub forwards : (t : ℕ) → 1 ≤ t → t ≤ 60
      → Between (neg_ℤ (pos (2000 * (units * length days)))) (pos (12000 * (units * length days))) (forward days t)

-- "eight .. 0 to 100,000,000,000 euros"
pub record AmountsWithin (a : Amounts) : Type 0 where
  pub mature : a.mature ≤ 100000000000
  pub emerging : a.emerging ≤ 100000000000
  pub private : a.private ≤ 100000000000
  pub property : a.property ≤ 100000000000
  pub commodities : a.commodities ≤ 100000000000
  pub credit : a.credit ≤ 100000000000
  pub cash : a.cash ≤ 100000000000
  pub currency : a.currency ≤ 100000000000

-- "Up shift and down shift (steps, 0 to 1,000); then in thousandths (0 to 1,000) ..; credit spread (steps, 0 to 10,000); credit
-- duration (tenths of a year, 0 to 500)"
pub record ShocksWithin (x : Shocks) : Type 0 where
  pub up_shift : x.up_shift ≤ 1000
  pub down_shift : x.down_shift ≤ 1000
  pub mature_fall : x.mature_fall ≤ 1000
  pub emerging_fall : x.emerging_fall ≤ 1000
  pub private_fall : x.private_fall ≤ 1000
  pub property_fall : x.property_fall ≤ 1000
  pub currency_fall : x.currency_fall ≤ 1000
  pub commodities_fall : x.commodities_fall ≤ 1000
  pub spread_rise : x.spread_rise ≤ 1000
  pub correlation : x.correlation ≤ 1000
  pub spread : x.spread ≤ 10000
  pub duration : x.duration ≤ 500
  -- "0 to 1,000 thousandths"
  pub equity_correlation : x.equity_correlation ≤ 1000

-- "head count H, .. 1 to 1,000,000; pension age and mean age, .. 0 to 1,200 months"
pub record PeopleWithin (p : People) : Type 0 where
  pub some : 1 ≤ p.heads
  pub most : p.heads ≤ 1000000
  pub pension_age : p.pension_age ≤ 1200
  pub mean_age : p.mean_age ≤ 1200

pub record WithinLimits (k : FileCase) : Type 0 where
  pub form : known_form k.rate_bytes ≡ true
  pub ufr : k.ufr ≤ 5000
  pub days : DaysWithin (units_per_step k.rate_bytes) k.days
  pub some_pension : 1 ≤ length k.pension
  pub most_pension : length k.pension ≤ 120
  pub pension : FlowsWithin k.pension
  pub most_bonds : length k.bonds ≤ 60
  pub bonds : FlowsWithin k.bonds
  pub amounts : AmountsWithin k.amounts
  pub shocks : ShocksWithin k.shocks
  pub people : PeopleWithin k.people
