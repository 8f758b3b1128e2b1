-- `money::losses::mortality_loss` meets its contract: the fraction under the root is in range, since the share of L that it takes is at
-- most 1.
-- The check leaves each of these goals open without its answer.
use Rattle.std.proofs.Common.{refl, arith}
use Rattle.money.proofs.Margin.{margin-most, margin-fits, margin-end}
use Rattle.money.proofs.Products.{end-most}
use Rattle.money.proofs.losses.mortality_loss.Goals as goal

pub overflow_mul-owed-2 : goal.overflow_mul-owed-2
overflow_mul-owed-2 g c =
    let p = c.requires in
    omega (arith, margin-most _ c.saturating_sub-gap.result p.1.some p.1.most (omega arith) c.of-owed.result _ _ (rw c.of-owed.ensures (end-most p.0 g.E.End.end)) refl refl)

pub root-requires : goal.root-requires
root-requires g c =
    let p = c.requires in
    margin-fits _ c.saturating_sub-gap.result p.1.some p.1.most (omega arith) _ _ _ (rw c.of-owed.ensures (end-most p.0 g.E.End.end)) refl refl

pub returns-clause-bound : goal.returns-clause-bound
returns-clause-bound g c =
    let p = c.requires in
    margin-end _ c.saturating_sub-gap.result p.1.some p.1.most (omega arith) _ _ _ (rw c.of-owed.ensures (end-most p.0 g.E.End.end)) refl refl g.E.End.end _ c.root.ensures.value
