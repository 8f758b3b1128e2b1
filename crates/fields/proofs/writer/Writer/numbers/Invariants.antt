-- `numbers`: those of a front of the numbers are written.
use Rattle.std.proofs.Common.{take}
use Rattle.fields.specs.Wrote.{Wrote, bytes_of_each}
use Rattle.fields.proofs.writer.Writer.numbers.Given as goal

abbrev pub invariant-loop-v : goal.invariant-loop-v
invariant-loop-v l = Wrote l.fn.self (bytes_of_each l.width (take l.v-index l.values)) l.self
