-- A turn puts what it has read after what is at the front.
-- The check leaves each of these goals open without its answer.
use Rattle.std.proofs.Common.{rules}
use Rattle.batch.proofs.Reading.{consumes-more}
use Rattle.batch.proofs.read_full.Goals as goal

pub loop-done-preserved : goal.loop-done-preserved
loop-done-preserved g c = (
  search rules,
  record {
    within = search rules;
    lost = consumes-more _ _ _ c.loop-done.done _ c.in-Ok.n c.loop-done.buf c.read.new.buf c.loop-done.invariant.1.within c.in-Ok.ensures.bound.0 c.loop-done.invariant.1.lost c.in-Ok.ensures.bytes.0;
  },
)
