-- `batch::read_full` ends, since each turn leaves less to fill; what it has put to the front of the buffer is what the input has lost.
use Rattle.std.proofs.Common.{◌≡◌, ◌-◌, length}
use Rattle.batch.specs.Input.{LosesFront}
use Rattle.batch.proofs.read_full.Given as goal

abbrev pub invariant-loop-done : goal.invariant-loop-done
invariant-loop-done g l = (length l.buf ≡ length l.initial.buf) × LosesFront (g.R.Read.remaining l.initial.input) (g.R.Read.remaining l.input) l.buf l.done

abbrev pub decreases-loop-done : goal.decreases-loop-done
decreases-loop-done g l = length l.initial.buf - l.done
