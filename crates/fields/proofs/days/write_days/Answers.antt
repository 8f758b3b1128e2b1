-- `write_days`: a day more. The check leaves each of these goals open without its answer.
use Rattle.std.proofs.Common.{[], arith}
use Rattle.model.specs.Layout.{day}
use Rattle.theory.proofs.acceptance.Runs.{right-at}
use Rattle.fields.proofs.RatesOf.{room-for-day}
use Rattle.fields.proofs.Written.{one-more}
use Rattle.fields.proofs.days.write_days.Goals as goal

pub write_day-requires-clause-right : goal.write_day-requires-clause-right
write_day-requires-clause-right g c =
    right-at (day g.F.RateForm.WIDTH) c.args.held.now c.loop-day.day-index [] (omega arith) c.requires.right

pub write_day-requires-clause-room : goal.write_day-requires-clause-room
write_day-requires-clause-room g c =
    let l = c.loop-day in
    room-for-day g.F.RateForm.WIDTH c.args.held.now l.day-index (omega arith) c.requires.right c.requires.room l.invariant

pub loop-day-preserved : goal.loop-day-preserved
loop-day-preserved g c =
    let l = c.loop-day in
    one-more (day g.F.RateForm.WIDTH) c.args.held.now l.day-index [] (omega arith) l.invariant c.write_day.ensures
