-- `read_numbers`: an accepted file is within the limits.
-- The check leaves this goal open without its answer.
use Rattle.std.proofs.Common.{sym, None}
use Rattle.theory.proofs.acceptance.Acceptance.{refusal-number, within-limits}
use Rattle.report.proofs.numbers.read_numbers.Goals as goal

pub numbers_in-requires : goal.numbers_in-requires
numbers_in-requires c =
    let read = c.in-Ok.ensures.value in
    (read.given.0, within-limits c.args.file.now (refusal-number c.args.file.now None (sym read.refusal)))
