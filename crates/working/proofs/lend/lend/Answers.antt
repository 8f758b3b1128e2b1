-- `working::lend::lend` meets its contract. Assumes nothing. The check leaves each of these goals open without its answer.
use Rattle.std.proofs.Common.{arith}
use Rattle.working.proofs.Entries.{none-lent, one-lent}
use Rattle.working.proofs.lend.lend.Goals as goal

pub loop-i-init : goal.loop-i-init
loop-i-init g c = none-lent _ _ _

pub loop-i-preserved : goal.loop-i-preserved
loop-i-preserved g c =
    one-lent g.B.Pair.low g.B.Pair.high _ _ _ _ _ _ _ (omega arith) (omega arith) c.lower.ensures c.upper.ensures c.loop-i.invariant
