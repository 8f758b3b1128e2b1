-- The fields of the layout under a name each, and where each field of a file starts: at the end of the field before it.
use Rattle.std.specs.Prelude.{ℕ, if◌then◌else◌, List, [], ◌==◌, slice_index, ℤ}
use Rattle.refusal.specs.declared.Refusal.TheVariants.{FlowCount, Flow, Ufr, Amount, Shock, People}
use Rattle.model.specs.Constants.{default_ufr, default_equity_correlation}
use Rattle.model.specs.Fields.{number_of, Field, field, counted, optional}
use Rattle.model.specs.Layout.{days, flow, amounts, no_amounts, shocks, people, equity_correlation, Present, rate_bytes_in, present_in, file_map}
use Rattle.model.specs.Refusals.{ufr_end}
use Rattle.model.specs.declared.case.Amounts.{Amounts}

abbrev pub ufr_field : Present → Field ℕ
ufr_field p = optional p.ufr default_ufr (field Ufr (number_of 2 0 5000))

-- the days field whose rates have v bytes, of a case whose rates have w
abbrev pub days_field : ℕ → ℕ → Field (List (List ℤ))
days_field v w = optional (w == v) [] (days v)

abbrev pub pension_field : Field (List ℕ)
pension_field = counted 120 FlowCount Flow flow

abbrev pub bonds_field : Present → Field (List ℕ)
bonds_field p = optional p.bonds [] (counted 60 FlowCount Flow flow)

abbrev pub amounts_field : Present → Field Amounts
amounts_field p = optional p.amounts no_amounts (field Amount amounts)

abbrev pub equity_field : Present → Field ℕ
equity_field p = optional p.equity default_equity_correlation (field Shock equity_correlation)

-- the bytes of a rate and the optional fields that a file has
abbrev pub rate_bytes : List ℕ → ℕ
rate_bytes file = rate_bytes_in (file_map file)

abbrev pub present : List ℕ → Present
present file = present_in (file_map file)

-- where the count m of the pension flows stands, and m
unfoldable pub pension_at : List ℕ → ℕ
pension_at file = (days_field 2 (rate_bytes file)).end file (ufr_end file)

unfoldable pub pension_count : List ℕ → ℕ
pension_count file = slice_index file (pension_at file)

-- where the count k of the bond flows stands, and k: 0 where they are absent
unfoldable pub bonds_at : List ℕ → ℕ
bonds_at file = pension_field.end file (pension_at file)

unfoldable pub bond_count : List ℕ → ℕ
bond_count file = if (present file).bonds then slice_index file (bonds_at file) else 0

unfoldable pub amounts_at : List ℕ → ℕ
amounts_at file = (bonds_field (present file)).end file (bonds_at file)

unfoldable pub shocks_at : List ℕ → ℕ
shocks_at file = (amounts_field (present file)).end file (amounts_at file)

unfoldable pub people_at : List ℕ → ℕ
people_at file = (field Shock shocks).end file (shocks_at file)

-- where the people end, which is where four-byte days stand; where these end, which is where the correlation between the equity classes
-- stands; and where the last field ends
unfoldable pub people_end : List ℕ → ℕ
people_end file = (field People people).end file (people_at file)

unfoldable pub equity_at : List ℕ → ℕ
equity_at file = (days_field 4 (rate_bytes file)).end file (people_end file)

unfoldable pub file_end : List ℕ → ℕ
file_end file = (equity_field (present file)).end file (equity_at file)
