-- `curves::weights::weight_of` meets its contract: the array is the list of the definition. Assumes nothing.
-- The check leaves each of these goals open without its answer.
use Rattle.std.proofs.Common.{refl}
use Rattle.method.specs.Curve.{weight, weights}
use Rattle.curves.proofs.Weighing.{weight-of-most}
use Rattle.curves.proofs.weights.weight_of.Goals as goal

pub returns-clause-is : goal.returns-clause-is
unfolding weight weights
returns-clause-is c = refl

pub returns-clause-most : goal.returns-clause-most
unfolding weight weights
returns-clause-most c = weight-of-most c.args.t
