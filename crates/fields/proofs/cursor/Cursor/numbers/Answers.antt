-- `Cursor::numbers` meets its contract: the part that is taken are the numbers. The check leaves this goal open without its answer.
use Rattle.std.proofs.Common.{◌∙◌}
use Rattle.fields.proofs.Digits.{values-whole}
use Rattle.fields.proofs.cursor.Cursor.numbers.Goals as goal

pub returns : goal.returns
returns g c =
    let (none, (part, moved)) = c.in_ok-take.ensures in
    (none, (c.big_endian_all.ensures ∙ values-whole g.row.W 0 0 g.row.N _ _ _ part.bytes, moved))
