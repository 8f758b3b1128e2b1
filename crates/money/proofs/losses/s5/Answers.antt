-- `money::losses::s5` meets its contract: a quotient by 10^7 is the loss of the definition, which divides 100 times as much by 10^9.
-- The check leaves each of these goals open without its answer.
use Rattle.method.specs.Rounded.{credit_loss}
use Rattle.money.proofs.Products.{credit-both, credit-of, credit-most, up_to}
use Rattle.money.proofs.losses.s5.Goals as goal

pub scaled-requires : goal.scaled-requires
scaled-requires c = rw c.exactly.ensures (credit-both c.requires)

pub returns-clause-value : goal.returns-clause-value
returns-clause-value c = credit-of c.args.a.now c.args.x.now _ _ c.exactly.ensures c.scaled.ensures

pub returns-clause-bound : goal.returns-clause-bound
returns-clause-bound c =
    up_to _ (credit_loss c.args.a.now c.args.x.now) (credit-of c.args.a.now c.args.x.now _ _ c.exactly.ensures c.scaled.ensures) (credit-most c.requires)
