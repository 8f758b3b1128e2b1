-- `write` of the people: three numbers, one after another. The check leaves this goal open without its answer.
use Rattle.fields.proofs.Written.{then}
use Rattle.fields.proofs.people.PeopleField.write.Goals as goal

pub returns : goal.returns
returns c = then c.number.ensures (then c.number-2.ensures c.number-3.ensures)
