-- `part::rates_place` meets its contract: the place is the definition's, what is there is the part, and all of `PartCall` holds.
-- The check leaves each of these goals open without its answer.
use Rattle.std.proofs.Common.{take, drop, ap, ◌∙◌}
use Rattle.reader.proofs.Exactly.{part-of-slice}
use Rattle.flat.specs.declared.part.HostPart.{HostPart}
use Rattle.flat.proofs.part.Placed.{part_placed, some-part, no-part}
use Rattle.flat.proofs.part.rates_place.Goals as goal

pub returns-in-Ok-clause-value : goal.returns-in-Ok-clause-value
returns-in-Ok-clause-value c =
    let read = c.in-Ok.ensures.value in
    some-part c.args.file.now _ _ read.refusal read.given.1.bytes read.there

pub returns-in-Ok-clause-part : goal.returns-in-Ok-clause-part
returns-in-Ok-clause-part c =
    let read = c.in-Ok.ensures.value in
    let file = c.args.file.now in
    ap (λ (p : HostPart). take p.length (drop p.offset file)) (some-part file _ _ read.refusal read.given.1.bytes read.there) ∙ part_placed file

pub returns-in-Err-clause-value : goal.returns-in-Err-clause-value
returns-in-Err-clause-value c = no-part c.args.file.now _ c.in-Err.ensures.value.refusal

pub returns-in-Err-clause-part : goal.returns-in-Err-clause-part
returns-in-Err-clause-part c =
    let file = c.args.file.now in
    ap (λ (p : HostPart). take p.length (drop p.offset file)) (no-part file _ c.in-Err.ensures.value.refusal) ∙ part_placed file

pub returns-in-Ok-clause-call : goal.returns-in-Ok-clause-call
returns-in-Ok-clause-call c = part-of-slice c.args.file.now c.type_inv.file

pub returns-in-Err-clause-call : goal.returns-in-Err-clause-call
returns-in-Err-clause-call c = part-of-slice c.args.file.now c.type_inv.file
