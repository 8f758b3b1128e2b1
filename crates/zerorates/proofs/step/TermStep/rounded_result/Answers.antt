-- `zerorates::step::TermStep::rounded_result` meets its contract. Assumes nothing.
-- The check leaves each of these goals open without its answer.
use Rattle.std.proofs.Common.{sym}
use Rattle.zerorates.proofs.Tested.{tested-none, test_fits, test-more}
use Rattle.zerorates.proofs.step.TermStep.rounded_result.Goals as goal

pub loop-init : goal.loop-init
loop-init g c = sym (tested-none _ _)

pub times-x-requires : goal.times-x-requires
times-x-requires g c = test_fits _ _ _ _ _ c.args.self.within c.loop.auto.counter-end c.loop.invariant

pub loop-preserved : goal.loop-preserved
loop-preserved g c = test-more _ _ _ _ _ c.loop.invariant (rw (c.of-year.ensures.0, c.of-year.ensures.1) at c.times-x.ensures)
