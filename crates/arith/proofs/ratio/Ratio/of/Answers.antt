-- `arith::ratio::Ratio::of`: the three digits are the units. Assumes nothing.
use Rattle.arith.proofs.Units.{three-digits}
use Rattle.arith.proofs.ratio.Ratio.of.Goals as goal

pub invariant_of-result-clause-is : goal.invariant_of-result-clause-is
invariant_of-result-clause-is c = three-digits _ _ c.requires.0
