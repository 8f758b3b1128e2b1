-- `arith::digits::Parts::joined` meets its contract: two digits hold the word, and four the number above it. Assumes nothing.
use Rattle.std.proofs.Common.{arith}
use Rattle.arith.specs.inner.Value.{val}
use Rattle.arith.proofs.digits.Parts.joined.Goals as goal

pub returns : goal.returns
unfolding val
returns c = omega arith
