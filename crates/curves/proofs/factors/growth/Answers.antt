-- `curves::factors::growth` meets its contract. Assumes nothing. The check leaves each of these goals open without its answer.
use Rattle.curves.proofs.YearLaws.{last-year-within}
use Rattle.curves.proofs.factors.growth.Goals as goal

pub scaled_either_way-requires : goal.scaled_either_way-requires
scaled_either_way-requires c = last-year-within _ _ _ _ _ c.requires c.over_years.ensures
