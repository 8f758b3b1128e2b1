-- `zerorates::step::TermStep::result_bounds` meets its contract. Assumes nothing.
-- The check leaves each of these goals open without its answer.
use Rattle.std.proofs.Common.{arith}
use Rattle.zerorates.proofs.Powers.{both-fit}
use Rattle.zerorates.proofs.Tested.{lower-bound, upper-bound, upper-most}
use Rattle.zerorates.proofs.step.TermStep.result_bounds.Goals as goal

pub scaled-unrounded-requires : goal.scaled-unrounded-requires
scaled-unrounded-requires c = both-fit c.args.self.within c.power_bounds.ensures

pub overflow_add-result : goal.overflow_add-result
overflow_add-result c = omega (arith, upper-most c.args.self.within c.power_bounds.ensures c.scaled-unrounded.ensures)

pub returns : goal.returns
returns c = record {
  lower = omega (arith, lower-bound c.args.self.within c.power_bounds.ensures c.scaled-unrounded.ensures);
  upper = upper-bound c.args.self.within c.power_bounds.ensures c.scaled-unrounded.ensures;
}
