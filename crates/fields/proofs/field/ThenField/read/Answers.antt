-- `read` of two fields: the second goes on where the first one ended. The check leaves each of these goals open without its answer.
use Rattle.fields.proofs.Steps.{refused, stop}
use Rattle.fields.proofs.InOrder.{halt_behind, both_read}
use Rattle.fields.proofs.field.ThenField.read.Goals as goal

pub returns-in_err-first : goal.returns-in_err-first
returns-in_err-first g c =
    let s = c.args.self.now in
    let old = c.args.cursor.now in
    let f = g.A.Field.told s.0 in
    let h = g.B.Field.told s.1 in
    rw (refused _ _ c.from_residual.ensures)
    (stop c.in_err-first.field-0.0 (f.checks old.file.now old.at) (h.checks old.file.now (f.end old.file.now old.at)) c.in_err-first.ensures)

pub returns-in_err-second : goal.returns-in_err-second
returns-in_err-second g c =
    let s = c.args.self.now in
    rw (refused _ _ c.from_residual-in_err-second.ensures)
    (halt_behind (g.A.Field.told s.0) (g.B.Field.told s.1) c.in_err-second.field-0.0 c.in_ok-first.ensures.0 c.in_ok-first.ensures.1.1 c.in_err-second.ensures)

pub returns : goal.returns
returns g c =
    let s = c.args.self.now in
    both_read (g.A.Field.told s.0) (g.B.Field.told s.1) (g.A.Field.is_read s.0) (g.B.Field.is_read s.1) c.in_ok-first.ensures c.in_ok-second.ensures
