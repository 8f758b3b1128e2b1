-- A case: what one case file says (METHOD, The case file).
use Rattle.std.specs.Prelude.{ℕ, zero, suc, ◌+◌, ◌*◌, ◌-◌, Bool, ◌||◌, if◌then◌else◌, List, [], ◌∷◌, ◌==◌, length, slice_index_or, ℤ, pos, ◌+ℤ◌}
use Rattle.model.specs.declared.case.Amounts.{Amounts}
use Rattle.model.specs.declared.case.Shocks.{Shocks}
use Rattle.model.specs.declared.case.People.{People}

-- The case of a file. The bytes of a rate say which of the two days fields it has. A day is its 60 zero rates of terms 1 to 60, in the
-- units of that field, and n, m and k are the lengths of the three lists. Amounts, shocks and people are named in the structs of
-- src/case.rt.
pub record FileCase : Type 0 where
  pub rate_bytes : ℕ
  pub ufr : ℕ
  pub days : List (List ℤ)
  pub pension : List ℕ
  pub bonds : List ℕ
  pub amounts : Amounts
  pub shocks : Shocks
  pub people : People

-- "n days of 60 zero rates" of two bytes each, or of four: "A file has one of the two days fields, never both."
abbrev pub known_form : ℕ → Bool
known_form w = w == 2 || w == 4

-- A rate step is 0.00001; rates in four bytes count hundredths of a step, 0.0000001: how many units of a rate of w bytes are a rate step
abbrev pub units_per_step : ℕ → ℕ
units_per_step w = if w == 4 then 100 else 1

-- what one rate step adds to a sum over the days: n, or 100 × n of rates of four bytes
unfoldable pub per_step : FileCase → ℕ
per_step k = units_per_step k.rate_bytes * length k.days

-- The same case with another UFR, with other days and the bytes of their rates, with other pension flows.
abbrev pub with_ufr : ℕ → FileCase → FileCase
with_ufr ufr k = record k { ufr = ufr }

abbrev pub with_days : ℕ → List (List ℤ) → FileCase → FileCase
with_days w days k = record k { rate_bytes = w; days = days }

abbrev pub with_pension : List ℕ → FileCase → FileCase
with_pension flows k = record k { pension = flows }

-- "s(t) the sum of term t's rates over the days and s(0) = 0"
unfoldable pub s : List (List ℤ) → ℕ → ℤ
s days zero = pos 0
s [] (suc t) = pos 0
s (day ∷ days) (suc t) = slice_index_or day t (pos 0) +ℤ s days (suc t)

-- "all amounts except currency exposure"
abbrev pub all_except_currency : Amounts → ℕ
all_except_currency a = a.mature + a.emerging + a.private + a.property + a.commodities + a.credit + a.cash

-- the months by which the pension age exceeds the mean age; 0 if it does not
abbrev pub age_gap : People → ℕ
age_gap p = p.pension_age - p.mean_age
