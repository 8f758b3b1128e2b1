-- `Cursor::number` meets its contract: the part that is taken is the number. The check leaves this goal open without its answer.
use Rattle.std.proofs.Common.{◌∙◌}
use mathlib.Core.Path.{ap₂}
use Rattle.model.specs.Numbers.{number}
use Rattle.fields.proofs.Digits.{number-whole}
use Rattle.fields.proofs.cursor.Cursor.number.Goals as goal

pub returns : goal.returns
returns g c =
    let (none, (part, moved)) = c.in_ok-take.ensures in
    let v = c.big_endian.ensures in
    (none, (v.0 ∙ ap₂ (λ bytes w. number bytes 0 w) part.bytes part.whole ∙ number-whole _ _ _, rw part.whole at v.1, moved))
