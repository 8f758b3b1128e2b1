-- `file::rates_part` meets its contract: a refused file gives no bytes. The bytes of a lent slice fit 8 bits, so all of `PartCall` holds.
-- The check leaves each of these goals open without its answer.
use Rattle.std.proofs.Common.{refl}
use Rattle.reader.proofs.Exactly.{part-of-slice, refused-part}
use Rattle.reader.proofs.file.rates_part.Goals as goal

pub returns-in-Ok-clause-call : goal.returns-in-Ok-clause-call
returns-in-Ok-clause-call c = part-of-slice c.args.file.now c.type_inv.file

pub returns-in-Err-clause-value : goal.returns-in-Err-clause-value
returns-in-Err-clause-value c = refused-part c.args.file _ _ c.in-Err.ensures.value.refusal refl refl

pub returns-in-Err-clause-call : goal.returns-in-Err-clause-call
returns-in-Err-clause-call c = part-of-slice c.args.file.now c.type_inv.file
