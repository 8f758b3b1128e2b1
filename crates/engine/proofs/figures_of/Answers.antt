-- `engine::figures_of` meets its contract. Assumes nothing. The check leaves each of these goals open without its answer.
use Rattle.engine.proofs.Valued.{figures-of-slice, reading-fits, figures-accepted}
use Rattle.engine.proofs.figures_of.Goals as goal

pub money_of-requires : goal.money_of-requires
money_of-requires c = let read = c.in-Ok.ensures.value in reading-fits c.args.file.now read.refusal _ read.given.0

pub returns-in-Ok-clause-value : goal.returns-in-Ok-clause-value
returns-in-Ok-clause-value c =
    let read = c.in-Ok.ensures.value in
    figures-accepted c.args.file.now read.refusal _ read.given.0 _ c.money_of.ensures

pub returns-in-Ok-clause-call : goal.returns-in-Ok-clause-call
returns-in-Ok-clause-call c = figures-of-slice c.args.file.now c.type_inv.file

pub returns-in-Err-clause-call : goal.returns-in-Err-clause-call
returns-in-Err-clause-call c = figures-of-slice c.args.file.now c.type_inv.file
