-- `check` of two fields: the first refuses, or the second answers. The check leaves each of these goals open without its answer.
use Rattle.std.proofs.Common.{◌∙◌, sym}
use Rattle.std.proofs.lemmas.Result.{err_from_is_err_and}
use Rattle.theory.proofs.acceptance.Checks.{fails-first, holds-first}
use Rattle.fields.proofs.field.ThenField.check.Goals as goal

pub returns-in_err-check : goal.returns-in_err-check
returns-in_err-check g c =
    let s = c.args.self.now in
    let given = c.args.given.now in
    let p = err_from_is_err_and c.from_residual.result c.from_residual.ensures.1 in
    rw (p.1, p.2) (sym (fails-first ((g.A.Field.told s.0).limits (g.A.Field.said given.0)) ((g.B.Field.told s.1).limits (g.B.Field.said given.1)) _ (sym c.in_err-check.ensures)))

pub returns : goal.returns
returns g c =
    let s = c.args.self.now in
    let given = c.args.given.now in
    c.check-2.ensures ∙ sym (holds-first ((g.A.Field.told s.0).limits (g.A.Field.said given.0)) ((g.B.Field.told s.1).limits (g.B.Field.said given.1)) (sym c.in_ok-check.ensures))
