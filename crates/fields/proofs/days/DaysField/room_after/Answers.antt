-- `room_after` of days: their count, and their rates one after another. The check leaves this goal open without its answer.
use Rattle.std.proofs.Common.{◌≡◌, ◌∙◌, ◌+◌, ◌*◌, ap, length, sym, ℕ}
use Rattle.model.specs.Layout.{days}
use Rattle.fields.proofs.RatesOf.{field-length, sized}
use Rattle.fields.proofs.days.DaysField.room_after.Goals as goal

pub returns : goal.returns
returns g c =
    let w = g.F.RateForm.WIDTH in
    let ds = c.args.given.now.held.now in
    let long : length ((days w).bytes ds) ≡ 1 + c.WIDTH.result * 60 * length ds =
    field-length w ds c.requires ∙ ap (λ (k : ℕ). 1 + k * 60 * length ds) (sym c.WIDTH.ensures) in
    sized c.checked_sub.result c.args.room long c.checked_sub.ensures
