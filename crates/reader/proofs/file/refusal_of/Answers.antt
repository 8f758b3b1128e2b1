-- `file::refusal_of` meets its contract: the number is that of the refusal, and 0 where there is none.
-- The bytes of a lent slice fit 8 bits, so all of `RefusalCall` holds. The check leaves each of these goals open
-- without its answer.
use Rattle.std.proofs.Common.{◌∙◌, sym, Some, None}
use Rattle.theory.proofs.acceptance.Acceptance.{refusal-number}
use Rattle.reader.proofs.Exactly.{refusal-of-slice}
use Rattle.reader.proofs.file.refusal_of.Goals as goal

pub returns-in-Ok-clause-value : goal.returns-in-Ok-clause-value
returns-in-Ok-clause-value c = sym (refusal-number c.args.file.now None (sym c.in-Ok.ensures.value.refusal))

pub returns-in-Err-clause-value : goal.returns-in-Err-clause-value
returns-in-Err-clause-value c = c.number.ensures ∙ sym (refusal-number c.args.file.now (Some _) (sym c.in-Err.ensures.value.refusal))

pub returns-in-Ok-clause-call : goal.returns-in-Ok-clause-call
returns-in-Ok-clause-call c = refusal-of-slice c.args.file.now c.type_inv.file

pub returns-in-Err-clause-call : goal.returns-in-Err-clause-call
returns-in-Err-clause-call c = refusal-of-slice c.args.file.now c.type_inv.file
