-- The case file as one expression, field by field (METHOD, The case file; the second days field: METHOD, Rates in four bytes; the correlation
-- between the equity classes: METHOD, Equity classes). The bytes of a case, the case of the bytes and the checks of each field follow from it.
-- Refusals has the order of all checks.
use Rattle.std.specs.Prelude.{ℕ, ◌+◌, ◌*◌, ◌/◌, ◌%◌, ◌^◌, ◌≤◌, ◌≡◌, Bool, true, false, if◌then◌else◌, List, [], ◌∷◌, ◌++◌, ◌==◌, length, slice_index, ℤ, pos, neg_ℤ}
use Rattle.refusal.specs.declared.Refusal.TheVariants.{DayCount, Rate, FlowCount, Flow, Ufr, Amount, Shock}
use Rattle.refusal.specs.declared.Refusal.TheVariants as Refusal
use Rattle.model.specs.Constants.{default_ufr, default_equity_correlation, last_market_term}
use Rattle.model.specs.Numbers.{number, bytes_of, twos_complement, unsigned}
use Rattle.model.specs.Case.{FileCase, units_per_step}
use Rattle.model.specs.Limits.{WithinLimits}
use Rattle.model.specs.Fields.{Fixed, number_of, pair_of, several, named, within_z, Field, field, counted, optional, ◌then◌}
use Rattle.model.specs.declared.case.Amounts.{Amounts}
use Rattle.model.specs.declared.case.Shocks.{Shocks}
use Rattle.model.specs.declared.case.People.{People}

-- "two's complement, -1,000 to 10,000 steps": a rate of w bytes, in units of which `scale` are a step
abbrev pub rate : ℕ → ℕ → Fixed ℤ
rate w scale = record {
  size = w;
  bytes = λ z. bytes_of w (unsigned w z);
  value = λ file at. twos_complement w (number file at w);
  right = within_z (neg_ℤ (pos (1000 * scale))) (pos (10000 * scale));
}

-- "n days of 60 zero rates, terms 1 to 60", each of w bytes in two's complement: of two bytes -1,000 to 10,000 steps, of four bytes
-- -100,000 to 1,000,000 hundredths of a step; a rate, and a day of them
abbrev pub daily_rate : ℕ → Fixed ℤ
daily_rate w = rate w (units_per_step w)

abbrev pub day : ℕ → Fixed (List ℤ)
day w = several last_market_term (daily_rate w)

-- "a byte n, 1 to 70; then n days"; refusals 4 and 5
abbrev pub days : ℕ → Field (List (List ℤ))
days w = counted 70 DayCount Rate (day w)

-- "flows of 4 bytes, 0 to 100,000,000 euros"
abbrev pub flow : Fixed ℕ
flow = number_of 4 0 100000000

-- "mature, emerging and private equity, property, commodities, credit, cash, currency exposure": by name, and in this order
abbrev pub amounts_from : List ℕ → Amounts
amounts_from v = record {
  mature = slice_index v 0;
  emerging = slice_index v 1;
  private = slice_index v 2;
  property = slice_index v 3;
  commodities = slice_index v 4;
  credit = slice_index v 5;
  cash = slice_index v 6;
  currency = slice_index v 7;
}

abbrev pub amounts_in_order : Amounts → List ℕ
amounts_in_order a =
    a.mature ∷ a.emerging ∷ a.private ∷ a.property ∷ a.commodities ∷ a.credit ∷ a.cash ∷ a.currency ∷ []

-- "eight of 8 bytes, 0 to 100,000,000,000 euros"
abbrev pub amounts : Fixed Amounts
amounts = named amounts_from amounts_in_order (several 8 (number_of 8 0 100000000000))

-- "Absent: all zero.", as an entry that a list lacks counts as 0
abbrev pub no_amounts : Amounts
no_amounts = amounts_from []

-- "twelve of 2 bytes": ten of one limit, the credit spread and the credit duration
abbrev pub TwelveShocks : Type 0
TwelveShocks = List ℕ × (ℕ × ℕ)

-- "Up shift and down shift ..; then .. mature, emerging, private, property, currency, commodities, spread rise, correlation; credit
-- spread ..; credit duration": by name, and in this order, which is another than that of the amounts; and, from a field of its own, the
-- correlation between the equity classes, "the thirteenth number of the shocks"
abbrev pub shocks_from : TwelveShocks → ℕ → Shocks
shocks_from v equity = record {
  up_shift = slice_index v.0 0;
  down_shift = slice_index v.0 1;
  mature_fall = slice_index v.0 2;
  emerging_fall = slice_index v.0 3;
  private_fall = slice_index v.0 4;
  property_fall = slice_index v.0 5;
  currency_fall = slice_index v.0 6;
  commodities_fall = slice_index v.0 7;
  spread_rise = slice_index v.0 8;
  correlation = slice_index v.0 9;
  spread = v.1.0;
  duration = v.1.1;
  equity_correlation = equity;
}

abbrev pub shocks_in_order : Shocks → TwelveShocks
shocks_in_order x = (
  x.up_shift ∷ x.down_shift
      ∷ x.mature_fall ∷ x.emerging_fall ∷ x.private_fall ∷ x.property_fall ∷ x.currency_fall ∷ x.commodities_fall
      ∷ x.spread_rise ∷ x.correlation ∷ [],
  (x.spread, x.duration),
)

-- "twelve of 2 bytes": ten of "0 to 1,000", "0 to 10,000", "0 to 500"
abbrev pub shocks : Fixed TwelveShocks
shocks = pair_of (several 10 (number_of 2 0 1000)) (pair_of (number_of 2 0 10000) (number_of 2 0 500))

-- "2 bytes, 0 to 1,000 thousandths"
abbrev pub equity_correlation : Fixed ℕ
equity_correlation = number_of 2 0 1000

-- the shocks of which nothing is said: 0 each, and the correlation of a file without its field
abbrev pub default_shocks : Shocks
default_shocks = shocks_from ([], (0, 0)) default_equity_correlation

-- "head count H, 4 bytes, 1 to 1,000,000; pension age and mean age, 2 bytes each, 0 to 1,200 months"
abbrev pub people_from : ℕ × (ℕ × ℕ) → People
people_from v = record { heads = v.0; pension_age = v.1.0; mean_age = v.1.1 }

abbrev pub people_in_order : People → ℕ × (ℕ × ℕ)
people_in_order p = (p.heads, (p.pension_age, p.mean_age))

abbrev pub people : Fixed People
people = named people_from people_in_order (pair_of (number_of 4 1 1000000) (pair_of (number_of 2 0 1200) (number_of 2 0 1200)))

-- which of the optional fields a file has
pub record Present : Type 0 where
  pub ufr : Bool
  pub bonds : Bool
  pub amounts : Bool
  pub equity : Bool

-- "a 16-bit map (bit 0 is the lowest)": bits 2, 5 and 6 stand, the bit of the days field, whose rates have w bytes, and the bits of the
-- optional fields that are there
abbrev pub map_of : ℕ → Present → ℕ
map_of w p =
    2 ^ 2 + 2 ^ 5 + 2 ^ 6 + (if p.ufr then 2 ^ 0 else 0) + (if w == 2 then 2 ^ 1 else 0) + (if p.bonds then 2 ^ 3 else 0) + (if p.amounts then 2 ^ 4 else 0)
    + (if w == 4 then 2 ^ 7 else 0) + (if p.equity then 2 ^ 8 else 0)

-- the other way: a bit of a map stands; the bytes of a rate and the optional fields that a map announces; the map of a file
abbrev pub stands : ℕ → ℕ → Bool
stands bit map = (map / 2 ^ bit % 2) == 1

abbrev pub rate_bytes_in : ℕ → ℕ
rate_bytes_in map = if stands 7 map then 4 else 2

abbrev pub present_in : ℕ → Present
present_in map = record { ufr = stands 0 map; bonds = stands 3 map; amounts = stands 4 map; equity = stands 8 map }

unfoldable pub file_map : List ℕ → ℕ
file_map file = number file 0 2

-- what the fields of bits 0 to 6 hold, in bit order
abbrev pub FirstParts : Type 0
FirstParts = ℕ × (List (List ℤ) × (List ℕ × (List ℕ × (Amounts × (TwelveShocks × People)))))

-- "then only the fields whose bit stands, in bit order": those of bits 0 to 6
abbrev pub first_fields : ℕ → Present → Field FirstParts
first_fields w p =
    -- "Bit 0, UFR: 2 bytes, in rate steps, 0 to 5,000. A file without this field has a UFR of 4,200."; refusal 9
    optional p.ufr default_ufr (field Ufr (number_of 2 0 5000))
    -- "Bit 1, days"
    then optional (w == 2) [] (days 2)
    -- "Bit 2, pension flows: a byte m, 1 to 120; then m flows"; refusals 7 and 8
    then counted 120 FlowCount Flow flow
    -- "Bit 3, bond flows: a byte k, 1 to 60; then k flows, the same form and limit. Absent: k = 0."; refusals 7 and 8
    then optional p.bonds [] (counted 60 FlowCount Flow flow)
    -- "Bit 4, amounts"; refusal 10
    then optional p.amounts no_amounts (field Amount amounts)
    -- "Bit 5, shocks"; refusal 11
    then field Shock shocks
    -- "Bit 6, people"; refusal 12
    then field Refusal.People people

-- what all fields hold
abbrev pub Parts : Type 0
Parts = FirstParts × (List (List ℤ) × ℕ)

-- all fields
abbrev pub layout : ℕ → Present → Field Parts
layout w p =
    first_fields w p
    -- "Bit 7 announces a days field of the same form whose rates are four bytes"; refusals 4 and 5
    then optional (w == 4) [] (days 4)
    -- "Bit 8, the correlation between the equity classes: 2 bytes, 0 to 1,000 thousandths. A file without this field has 1,000."; refusal 11
    then optional p.equity default_equity_correlation (field Shock equity_correlation)

-- the case with these fields, whose rates have w bytes
abbrev pub case_from : ℕ → Parts → FileCase
case_from w v = record {
  rate_bytes = w;
  ufr = v.0.0;
  days = if w == 4 then v.1.0 else v.0.1.0;
  pension = v.0.1.1.0;
  bonds = v.0.1.1.1.0;
  amounts = v.0.1.1.1.1.0;
  shocks = shocks_from v.0.1.1.1.1.1.0 v.1.1;
  people = v.0.1.1.1.1.1.1;
}

-- the fields of a case: its days stand in the field whose rates have their bytes, and the other has none
abbrev pub days_if : ℕ → FileCase → List (List ℤ)
days_if w k = if k.rate_bytes == w then k.days else []

abbrev pub parts_of : FileCase → Parts
parts_of k = (
  (k.ufr, (days_if 2 k, (k.pension, (k.bonds, (k.amounts, (shocks_in_order k.shocks, k.people)))))),
  (days_if 4 k, k.shocks.equity_correlation),
)

-- "First a 16-bit map"
unfoldable pub file_of : Present → FileCase → List ℕ
file_of p k = bytes_of 2 (map_of k.rate_bytes p) ++ (layout k.rate_bytes p).bytes (parts_of k)

-- the fields that the map of a file announces, and the case that its bytes hold
abbrev pub fields_of : List ℕ → Field Parts
fields_of file = layout (rate_bytes_in (file_map file)) (present_in (file_map file))

unfoldable pub case_of : List ℕ → FileCase
case_of file = case_from (rate_bytes_in (file_map file)) ((fields_of file).value file 2)

-- what a field that is absent, or there, says of the case
pub record Agrees (p : Present) (k : FileCase) : Type 0 where
  pub ufr_absent : p.ufr ≡ false → k.ufr ≡ default_ufr
  pub bonds_absent : p.bonds ≡ false → k.bonds ≡ []
  pub bonds_there : p.bonds ≡ true → 1 ≤ length k.bonds
  pub amounts_absent : p.amounts ≡ false → k.amounts ≡ no_amounts
  pub equity_absent : p.equity ≡ false → k.shocks.equity_correlation ≡ default_equity_correlation

-- the file keeps the layout and limits: it is the bytes of some case within the limits, with some of the optional fields there
pub record Keeps (file : List ℕ) : Type 0 where
  pub present : Present
  pub held : FileCase
  pub within : WithinLimits held
  pub agrees : Agrees present held
  pub bytes : file ≡ file_of present held
