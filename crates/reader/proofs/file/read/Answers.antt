-- `file::read` meets its contract: the bytes of a lent slice fit 8 bits, and so what is read tells all of `ReadExactly`.
-- The check leaves this goal open without its answer.
use Rattle.reader.proofs.Exactly.{slice-bytes, read-exactly}
use Rattle.reader.proofs.file.read.Goals as goal

pub returns-clause-exactly : goal.returns-clause-exactly
returns-clause-exactly c = read-exactly c.args.file _ c.of.ensures (slice-bytes c.args.file.now c.type_inv.file)
