-- `read` of the shocks: one of them is out of its limits. The check leaves this goal open without its answer.
use Rattle.std.proofs.Common.{◌∙◌, ◌+◌, [], ◌∷◌, ap}
use Rattle.refusal.specs.declared.Refusal.TheVariants.{EndsEarly, Shock}
use Rattle.model.specs.Fields.{reaches}
use Rattle.model.specs.Layout.{shocks, shocks_in_order}
use Rattle.model.specs.Refusals.{failing}
use Rattle.fields.proofs.Fields.{shocks-are}
use Rattle.fields.proofs.Steps.{go, refused}
use Rattle.fields.proofs.shocks.ShocksField.read.Goals as goal

pub returns-in_err-check : goal.returns-in_err-check
returns-in_err-check c =
    let file = c.args.cursor.now.file.now in
    let at = c.args.cursor.now.at in
    let (none, (are, moved)) = c.in_ok-up_shift.ensures in
    let right = c.shocks_within.ensures ∙ ap (λ x. shocks.right (shocks_in_order x)) (shocks-are c.in_ok-up_shift.field-0 file at are) in
    rw (refused _ _ c.from_residual-in_err-check.ensures)
    (go ((reaches file (at + 24), EndsEarly) ∷ []) ((shocks.right (shocks.value file at), Shock) ∷ []) none
    (c.in_err-check.ensures.checked ∙ ap (λ b. failing ((b, Shock) ∷ [])) right))
