-- `write_day`: a rate more. The check leaves each of these goals open without its answer.
use Rattle.std.proofs.Common.{FitsSigned, arith, get_or, pos, rules, w32}
use Rattle.std.proofs.lemmas.Int.{to_z-of_z}
use Rattle.model.specs.Layout.{daily_rate}
use Rattle.model.specs.Numbers.{unsigned}
use Rattle.theory.proofs.acceptance.Encoding.{length-bytes}
use Rattle.theory.proofs.acceptance.Runs.{right-at}
use Rattle.fields.proofs.RatesOf.{rates-right, day-long}
use Rattle.fields.proofs.Written.{room-next, one-more}
use Rattle.fields.proofs.days.write_day.Goals as goal

pub write_rate-requires-clause-right : goal.write_rate-requires-clause-right
write_rate-requires-clause-right g c =
    let x = daily_rate g.F.RateForm.WIDTH in
    let rates = c.args.rates.now in
    let i = c.loop-rate.rate-index in
    let fits : FitsSigned w32 (get_or rates i (pos 0)) = search rules in
    let right = rates-right g.F.RateForm.WIDTH rates c.requires.right in
    rw (to_z-of_z w32 (get_or rates i (pos 0)) fits) (right-at x rates i (pos 0) (omega arith) right)

pub write_rate-requires-clause-room : goal.write_rate-requires-clause-room
write_rate-requires-clause-room g c =
    let w = g.F.RateForm.WIDTH in
    let rates = c.args.rates.now in
    let room = rw (← day-long w rates c.requires.right) at c.requires.room in
    room-next (daily_rate w) (λ z. length-bytes w (unsigned w z)) rates c.loop-rate.rate-index (omega arith) room c.loop-rate.invariant

pub loop-rate-preserved : goal.loop-rate-preserved
loop-rate-preserved g c =
    let w = g.F.RateForm.WIDTH in
    let rates = c.args.rates.now in
    let i = c.loop-rate.rate-index in
    let fits : FitsSigned w32 (get_or rates i (pos 0)) = search rules in
    one-more (daily_rate w) rates i (pos 0) (omega arith) c.loop-rate.invariant
    (rw (to_z-of_z w32 (get_or rates i (pos 0)) fits) at c.write_rate.ensures)
