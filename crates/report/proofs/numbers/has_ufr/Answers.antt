-- `has_ufr`: the map is read from its low byte.
-- The check leaves this goal open without its answer.
use Rattle.std.proofs.Common.{rules}
use Rattle.model.specs.Layout.{file_map}
use Rattle.model.specs.Numbers.{number}
use Rattle.report.proofs.numbers.has_ufr.Goals as goal

pub returns : goal.returns
unfolding file_map number
returns c = rw (c.low_byte.ensures) search rules
