-- After i turns the entries of the first i brackets are written.
use Rattle.std.proofs.Common.{◌≡◌, ◌*◌, ◌++◌, take, drop}
use Rattle.working.specs.inner.Entries.{entries}
use Rattle.working.proofs.lend.lend.Given as goal

abbrev pub invariant-loop-i : goal.invariant-loop-i
invariant-loop-i g l = l.out ≡ entries g.B.Pair.low g.B.Pair.high (take l.i l.brackets) ++ drop (2 * l.i) l.initial.out
