-- `write` of flows: the count, then the flows. The check leaves this goal open without its answer.
use Rattle.std.proofs.Common.{sym}
use Rattle.fields.proofs.Bytes.{run_is}
use Rattle.fields.proofs.Written.{then, as-text}
use Rattle.fields.proofs.flows.FlowsField.write.Goals as goal

pub returns : goal.returns
returns g c = then c.number.ensures (as-text (sym (run_is 4 0 100000000 c.args.given.now.now)) c.numbers.ensures)
