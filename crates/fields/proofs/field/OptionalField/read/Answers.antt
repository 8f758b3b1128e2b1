-- `read` of a field that is not there. The check leaves this goal open without its answer.
use Rattle.fields.proofs.InOrder.{absent_read}
use Rattle.fields.proofs.field.OptionalField.read.Goals as goal

pub returns-else-self : goal.returns-else-self
returns-else-self g c =
    let s = c.args.self.now in
    absent_read (g.F.Field.told s.field) g.F.Absent.absent s.there (g.F.Field.is_read s.field) g.F.Absent.is_absent c.absent.ensures c.if-self.false
