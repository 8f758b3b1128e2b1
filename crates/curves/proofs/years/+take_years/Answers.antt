-- `curves::years::take_years` meets its contract. It takes a year and calls itself at a year less, until no year is left. Assumes nothing.
-- The check leaves each of these goals open without its answer.
use Rattle.std.proofs.Common.{arith}
use Rattle.curves.proofs.YearLaws.{none_taken, both-in, year-less, then-taken}
use Rattle.curves.proofs.years.+take_years.Goals as goal

pub returns-then-j-eq0 : goal.returns-then-j-eq0
returns-then-j-eq0 t c = none_taken _ _ _ _ c.if-j-eq0.true

pub scaled_by-requires : goal.scaled_by-requires
scaled_by-requires t c = both-in _ _ _ _ c.requires (omega arith)

pub take_years-requires : goal.take_years-requires
take_years-requires t c = (omega (arith, c.decreases), year-less _ _ _ _ c.requires (omega arith) _ c.scaled_by.ensures)

pub returns : goal.returns
returns t c = then-taken _ _ _ _ c.requires (omega arith) _ c.scaled_by.ensures _ c.take_years.ensures
