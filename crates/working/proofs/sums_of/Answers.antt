-- `working::sums_of` meets its contract. Assumes nothing. The check leaves each of these goals open without its answer.
use Rattle.method.specs.Curve.{base, up, down}
use Rattle.working.proofs.Working.{shift-within}
use Rattle.working.proofs.sums_of.Goals as goal

pub shifted-requires : goal.shifted-requires
shifted-requires c = shift-within c.requires base

pub shifted-requires-2 : goal.shifted-requires-2
shifted-requires-2 c = shift-within c.requires up

pub shifted-requires-3 : goal.shifted-requires-3
shifted-requires-3 c = shift-within c.requires down
