-- `working::bonds_worth` meets its contract. Assumes nothing. The check leaves each of these goals open without its answer.
use Rattle.std.proofs.Common.{max, length, arith}
use Rattle.working.proofs.Working.{unadjusted-fit, unadjusted-worth}
use Rattle.working.proofs.bonds_worth.Goals as goal

pub worth_of-requires : goal.worth_of-requires
worth_of-requires c =
    let p = c.requires in
    (p.flows, unadjusted-fit _ p.sums.within _ _ (max 20 (length c.args.bonds.now)) _ (omega arith) p.few c.unadjusted_factors.ensures)

pub returns-clause-value : goal.returns-clause-value
returns-clause-value c = unadjusted-worth _ _ _ (max 20 (length c.args.bonds.now)) _ (omega arith) c.unadjusted_factors.ensures _ c.worth_of.ensures.value
