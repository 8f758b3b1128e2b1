-- `add`: a rate more. The check leaves each of these goals open without its answer.
use Rattle.std.proofs.Common.{FitsSigned, arith, get_or, pos, refl, rules, w16}
use Rattle.model.specs.Numbers.{table}
use Rattle.theory.proofs.general.Lists.{table_filled}
use Rattle.rolling.proofs.Sums.{add-fits, add-is}
use Rattle.rolling.proofs.add.Goals as goal

pub loop-t-init : goal.loop-t-init
unfolding table
loop-t-init c = refl

pub overflow_add-sum : goal.overflow_add-sum
overflow_add-sum c =
    let l = c.loop-t in
    let fits : FitsSigned w16 (get_or c.args.new.now l.t (pos 0)) = search rules in
    add-fits _ l.t (omega arith) c.told-sums c.requires l.invariant fits c.from.ensures

pub loop-t-preserved : goal.loop-t-preserved
loop-t-preserved c =
    let l = c.loop-t in
    let fits : FitsSigned w16 (get_or c.args.new.now l.t (pos 0)) = search rules in
    let sum = add-is _ l.t (omega arith) c.told-sums c.requires l.invariant fits c.from.ensures in
    table_filled _ c.args.sums.now l.sums l.t _ (omega arith) sum l.invariant
