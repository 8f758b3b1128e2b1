-- After i turns of `big_endian_all` the first i numbers are read.
use Rattle.std.proofs.Common.{◌≡◌, ◌+◌, ◌*◌, ◌++◌, drop, replicate}
use Rattle.model.specs.Numbers.{number, table}
use Rattle.fields.proofs.numbers.big_endian_all.Given as goal

abbrev pub invariant-loop-i : goal.invariant-loop-i
invariant-loop-i g l = l.number-items ≡ table (λ j. number l.bytes (0 + g.row.W * j) g.row.W) l.i ++ drop l.i (replicate g.row.N 0)
