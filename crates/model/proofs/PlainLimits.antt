-- The limits of specs/Limits.antt in plain numbers, each as the layout of a case file writes it. Nothing else rests on this: a limit that was
-- another number, or was left out, would not give it. Assumes nothing.
use Prim.Native.Nat.{ℕ, ◌≤◌, ◌<◌}
use mathlib.Core.Path.{◌≡◌, refl}
use mathlib.Core.List.{List, [], ◌∷◌}
use lib.IntN.{ℤ, pos, neg_ℤ}
use lib.ListN.{length, get_or}
use lib.Signed.{◌≤ℤ◌}
use Rattle.std.specs.Prelude.{true, false, slice_index, ◌-ℤ◌, ◌*ℤ◌}
use Rattle.model.specs.Case.{FileCase, known_form, units_per_step, s}
use Rattle.model.specs.Limits.{Between, FlowsWithin, DayWithin, forward, DaysWithin, AmountsWithin, ShocksWithin, PeopleWithin, WithinLimits}
use Rattle.model.specs.Layout.{Present, no_amounts, Agrees, Keeps, file_of}
use Rattle.model.specs.declared.case.Amounts.{Amounts}
use Rattle.model.specs.declared.case.Shocks.{Shocks}
use Rattle.model.specs.declared.case.People.{People}

between : (z : ℤ) → Between (neg_ℤ (pos 1000)) (pos 10000) z → (neg_ℤ (pos 1000) ≤ℤ z) × (z ≤ℤ pos 10000)
between z h = (h.least, h.most)

-- each flow, to the last
flow : (flows : List ℕ) → FlowsWithin flows → (i : ℕ) → i < length flows → slice_index flows i ≤ 100000000
flow flows h = h.each

-- a day of two-byte rates and one of four-byte rates: sixty rates, terms 1 to 60
day : (rates : List ℤ) → DayWithin 1 rates
    → (length rates ≡ 60) × ((t : ℕ) → t < 60 → Between (neg_ℤ (pos 1000)) (pos 10000) (get_or rates t (pos 0)))
day rates h = (h.terms, h.each)

long-day : (rates : List ℤ) → DayWithin 100 rates → (t : ℕ) → t < 60 → Between (neg_ℤ (pos 100000)) (pos 1000000) (get_or rates t (pos 0))
long-day rates h = h.each

-- the forward of term 7
seventh : (days : List (List ℤ)) → forward days 7 ≡ pos 7 *ℤ s days 7 -ℤ pos 6 *ℤ s days 6
seventh days = refl

-- one to seventy days, each of them within its limits, and their forwards: of a day in either form, and of seventy
module _ (days : List (List ℤ)) where
  count : DaysWithin 1 days → (1 ≤ length days) × (length days ≤ 70)
  count h = (h.some, h.most)

  each-day : DaysWithin 100 days → (d : ℕ) → d < length days → DayWithin 100 (get_or days d [])
  each-day h = h.each

one-forward : (rates : List ℤ) → DaysWithin 1 (rates ∷ [])
    → (t : ℕ) → 1 ≤ t → t ≤ 60 → Between (neg_ℤ (pos 2000)) (pos 12000) (forward (rates ∷ []) t)
one-forward rates h = h.forwards

two-forwards : (a b : List ℤ) → DaysWithin 100 (a ∷ b ∷ [])
    → (t : ℕ) → 1 ≤ t → t ≤ 60 → Between (neg_ℤ (pos 400000)) (pos 2400000) (forward (a ∷ b ∷ []) t)
two-forwards a b h = h.forwards

-- 100,000,000,000 euros
amounts : (a : Amounts) → AmountsWithin a
    → (a.mature ≤ 100000000000) × (a.emerging ≤ 100000000000) × (a.private ≤ 100000000000) × (a.property ≤ 100000000000)
    × (a.commodities ≤ 100000000000) × (a.credit ≤ 100000000000) × (a.cash ≤ 100000000000) × (a.currency ≤ 100000000000)
amounts a h = (h.mature, h.emerging, h.private, h.property, h.commodities, h.credit, h.cash, h.currency)

-- shifts in steps, falls and both correlations in thousandths, the spread in steps, the duration in tenths of a year
shocks : (x : Shocks) → ShocksWithin x
    → (x.up_shift ≤ 1000) × (x.down_shift ≤ 1000) × (x.mature_fall ≤ 1000) × (x.emerging_fall ≤ 1000) × (x.private_fall ≤ 1000)
    × (x.property_fall ≤ 1000) × (x.currency_fall ≤ 1000) × (x.commodities_fall ≤ 1000) × (x.spread_rise ≤ 1000) × (x.correlation ≤ 1000)
    × (x.spread ≤ 10000) × (x.duration ≤ 500) × (x.equity_correlation ≤ 1000)
shocks x h = (
  h.up_shift,
  h.down_shift,
  h.mature_fall,
  h.emerging_fall,
  h.private_fall,
  h.property_fall,
  h.currency_fall,
  h.commodities_fall,
  h.spread_rise,
  h.correlation,
  h.spread,
  h.duration,
  h.equity_correlation,
)

-- a million members at most, and a hundred years
people : (p : People) → PeopleWithin p → (1 ≤ p.heads) × (p.heads ≤ 1000000) × (p.pension_age ≤ 1200) × (p.mean_age ≤ 1200)
people p h = (h.some, h.most, h.pension_age, h.mean_age)

-- a case: the form of its rates, the UFR in steps, and its three lists
module _ (k : FileCase) (h : WithinLimits k) where
  form-and-ufr : (known_form k.rate_bytes ≡ true) × (k.ufr ≤ 5000)
  form-and-ufr = (h.form, h.ufr)

  lists : DaysWithin (units_per_step k.rate_bytes) k.days × (1 ≤ length k.pension) × (length k.pension ≤ 120) × (length k.bonds ≤ 60)
  lists = (h.days, h.some_pension, h.most_pension, h.most_bonds)

  flows : FlowsWithin k.pension × FlowsWithin k.bonds
  flows = (h.pension, h.bonds)

  records : AmountsWithin k.amounts × ShocksWithin k.shocks × PeopleWithin k.people
  records = (h.amounts, h.shocks, h.people)

-- what a file may leave out: a UFR of 4,200 steps, no bonds, no amounts, and a correlation of 1,000 thousandths between the equity classes; a
-- field of bonds that is there has one at least
left-out : (p : Present) (k : FileCase) → Agrees p k
    → (p.ufr ≡ false → k.ufr ≡ 4200) × (p.bonds ≡ false → k.bonds ≡ []) × (p.bonds ≡ true → 1 ≤ length k.bonds)
    × (p.amounts ≡ false → k.amounts ≡ no_amounts) × (p.equity ≡ false → k.shocks.equity_correlation ≡ 1000)
left-out p k h = (h.ufr_absent, h.bonds_absent, h.bonds_there, h.amounts_absent, h.equity_absent)

-- a file that keeps the layout and the limits: it is the bytes of a case within them, with what may be left out left out or not
kept : (file : List ℕ) (x : Keeps file) → WithinLimits x.held × Agrees x.present x.held × (file ≡ file_of x.present x.held)
kept file x = (x.within, x.agrees, x.bytes)
