-- The calls end: each leaves a year less to the next.
use Rattle.curves.proofs.years.+take_years.Given as goal

abbrev pub decreases-take_years : goal.decreases-take_years
decreases-take_years l = l.j
