-- The zeros so far are written.
use Rattle.model.specs.Numbers.{bytes_of}
use Rattle.fields.specs.Wrote.{Wrote}
use Rattle.fields.proofs.writer.Writer.wide_number.Given as goal

abbrev pub invariant-loop : goal.invariant-loop
invariant-loop l = Wrote l.fn.self (bytes_of l.counter 0) l.self
