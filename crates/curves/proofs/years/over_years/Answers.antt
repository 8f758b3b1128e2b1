-- `curves::years::over_years` meets its contract: all years are taken from 10^12. Assumes nothing.
-- The check leaves each of these goals open without its answer.
use Rattle.curves.proofs.YearLaws.{years-within, all-years}
use Rattle.curves.proofs.years.over_years.Goals as goal

pub take_years-requires : goal.take_years-requires
take_years-requires c = rw (c.exactly-growth.ensures, c.of-year.ensures.0, c.of-year.ensures.1) (years-within _ _ _ c.requires)

pub returns : goal.returns
returns c = all-years _ _ _ _ (rw (c.exactly-growth.ensures, c.of-year.ensures.0, c.of-year.ensures.1) at c.take_years.ensures)
