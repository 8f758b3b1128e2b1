-- `zerorates::step::TermStep::known` meets its contract. Assumes nothing.
-- The check leaves each of these goals open without its answer.
use Rattle.zerorates.proofs.step.Sure.{above-known, below-known}
use Rattle.zerorates.proofs.step.TermStep.known.Goals as goal

pub returns-then-factor-bounds-2-clause-lower : goal.returns-then-factor-bounds-2-clause-lower
returns-then-factor-bounds-2-clause-lower c = above-known _ c.result_bounds-bounds.ensures c.if-factor-bounds.true

pub returns-then-factor-bounds-2-clause-upper : goal.returns-then-factor-bounds-2-clause-upper
returns-then-factor-bounds-2-clause-upper c = above-known _ c.result_bounds-bounds.ensures c.if-factor-bounds-2.true

pub returns-then-bounds-factor-2-clause-lower : goal.returns-then-bounds-factor-2-clause-lower
returns-then-bounds-factor-2-clause-lower c = below-known _ c.result_bounds-bounds.ensures c.if-bounds-factor.true

pub returns-then-bounds-factor-2-clause-upper : goal.returns-then-bounds-factor-2-clause-upper
returns-then-bounds-factor-2-clause-upper c = below-known _ c.result_bounds-bounds.ensures c.if-bounds-factor-2.true
