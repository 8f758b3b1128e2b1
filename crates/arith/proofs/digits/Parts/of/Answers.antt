-- `arith::digits::Parts::of` meets its contract: the number by its digits, put in pairs. Assumes nothing.
use Rattle.std.proofs.Common.{arith}
use Rattle.arith.specs.inner.Value.{val}
use Rattle.arith.proofs.digits.Parts.of.Goals as goal

pub returns : goal.returns
unfolding val
returns c = omega arith
