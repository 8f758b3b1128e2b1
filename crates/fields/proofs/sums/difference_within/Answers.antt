-- `days::difference_within` meets its contract. The check leaves each of these goals open without its answer.
use Rattle.fields.proofs.Forwards.{when-low, when-below}
use Rattle.fields.proofs.sums.difference_within.Goals as goal

pub returns-then-step-forward : goal.returns-then-step-forward
returns-then-step-forward c = when-low _ _ _ c.requires.step c.requires.last c.requires.next c.if-step-forward.true

pub returns-else-step-forward : goal.returns-else-step-forward
returns-else-step-forward c = when-below _ _ _ c.requires.step c.requires.last c.requires.next c.if-step-forward.false
