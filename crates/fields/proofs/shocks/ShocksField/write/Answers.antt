-- `write` of the shocks: the ten of one limit, then the credit spread and the credit duration.
-- The check leaves this goal open without its answer.
use Rattle.std.proofs.Common.{◌∙◌, ap, sym}
use Rattle.model.specs.Layout.{shocks_in_order}
use Rattle.fields.specs.Wrote.{bytes_of_each}
use Rattle.fields.proofs.Bytes.{run_is}
use Rattle.fields.proofs.Written.{then, as-text}
use Rattle.fields.proofs.shocks.ShocksField.write.Goals as goal

pub returns : goal.returns
returns c =
    let ten = ap (bytes_of_each 2) c.shocks_in_order.ensures ∙ sym (run_is 2 0 1000 (shocks_in_order c.args.given.now).0) in
    then (as-text ten c.numbers.ensures) (then c.number.ensures c.number-2.ensures)
