-- `write` of days: their count, and their rates one after another. The check leaves each of these goals open without its answer.
use Rattle.std.proofs.Common.{arith, length}
use Rattle.theory.proofs.acceptance.Encoding.{length-bytes}
use Rattle.fields.proofs.RatesOf.{field-length}
use Rattle.fields.proofs.Written.{then}
use Rattle.fields.proofs.days.DaysField.write.Goals as goal

pub write_days-requires-clause-room : goal.write_days-requires-clause-room
write_days-requires-clause-room g c =
    let d = c.args.given.now in
    let w = g.F.RateForm.WIDTH in
    let long = field-length w d.held.now c.requires.right in
    omega (arith, long, c.requires.room, c.number.ensures.place, c.number.ensures.long, length-bytes 1 (length d.held.now))

pub returns : goal.returns
returns g c = then c.number.ensures c.write_days.ensures
