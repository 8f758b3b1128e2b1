-- `number`: the last of its eight bytes. The check leaves this goal open without its answer.
use Rattle.std.proofs.Common.{◌∙◌, List, ℕ, ap, arith, drop, take, ◌-◌}
use Rattle.fields.proofs.Bytes.{last-bytes}
use Rattle.fields.proofs.Written.{as-text}
use Rattle.fields.proofs.writer.Writer.number.Goals as goal

pub returns : goal.returns
returns c =
    let a = c.args in
    let low = last-bytes a.width a.v (omega arith) in
    as-text (ap (λ (bs : List ℕ). take (8 - (8 - a.width)) (drop (8 - a.width) bs)) c.to_be_bytes-bytes.ensures ∙ low) c.put.ensures
