-- `money::losses::s3` meets its contract. Assumes nothing.
-- The check leaves each of these goals open without its answer.
use Rattle.std.proofs.Common.{arith}
use Rattle.money.proofs.Products.{thousandths-most}
use Rattle.money.proofs.losses.s3.Goals as goal

pub returns-clause-bound : goal.returns-clause-bound
returns-clause-bound c = thousandths-most _ _ (omega (arith, c.loss.ensures.bound)) c.quotient.ensures
