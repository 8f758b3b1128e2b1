-- `WideDaySums::forwards_within` meets its contract: its sums are within what `sums::forwards_within` asks. The check leaves this goal open
-- without its answer.
use Rattle.fields.proofs.Forwards.{days-bounded}
use Rattle.fields.proofs.sums.WideDaySums.forwards_within.Goals as goal

pub forwards_within-within-requires-clause-small : goal.forwards_within-within-requires-clause-small
forwards_within-within-requires-clause-small c = let held = c.args.self.now in days-bounded held.per_step held.few held.bounded
