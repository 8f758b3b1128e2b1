-- `zerorates::step::TermStep::sure_order` meets its contract. Assumes nothing. The check leaves each of these goals open without its answer.
use Rattle.std.proofs.Common.{arith}
use Rattle.zerorates.proofs.Tested.{both-above, both-below}
use Rattle.zerorates.proofs.step.TermStep.sure_order.Goals as goal

pub returns-then-above : goal.returns-then-above
returns-then-above c = both-above (c.requires.above _ c.if-above.true)

pub returns-else-above : goal.returns-else-above
returns-else-above c = both-below (c.requires.below _ (omega (arith, c.if-known.true, c.if-above.false)) (omega (arith, c.args.self.within.step)))

pub returns-then-self-known : goal.returns-then-self-known
returns-then-self-known c = both-above (c.requires.above _ c.if-self-known.true)

pub returns-then-known-self : goal.returns-then-known-self
returns-then-known-self c = both-below (c.requires.below _ c.if-known-self.true (omega (arith, c.args.self.within.step)))

pub returns-then-factor-bounds : goal.returns-then-factor-bounds
returns-then-factor-bounds c = both-above (omega (arith, c.result_bounds-bounds.ensures.lower))

pub returns-then-bounds-factor : goal.returns-then-bounds-factor
returns-then-bounds-factor c = both-below (omega (arith, c.result_bounds-bounds.ensures.upper))
