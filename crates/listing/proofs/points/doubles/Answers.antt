-- `doubles`: an end up to 2^53 becomes its double.
-- The check leaves this goal open without its answer.
use Rattle.listing.proofs.points.Whole.{holds}
use Rattle.listing.proofs.points.doubles.Goals as goal

pub returns : goal.returns
returns c = (holds _ c.requires.0, holds _ c.requires.1)
