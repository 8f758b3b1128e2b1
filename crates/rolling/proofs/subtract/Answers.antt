-- `subtract`: a rate is taken away. The check leaves each of these goals open without its answer.
use Rattle.std.proofs.Common.{FitsSigned, arith, get_or, pos, refl, rules, w16}
use Rattle.model.specs.Numbers.{table}
use Rattle.theory.proofs.general.Lists.{table_filled}
use Rattle.rolling.proofs.Sums.{subtract-fits, subtract-is}
use Rattle.rolling.proofs.subtract.Goals as goal

pub loop-t-init : goal.loop-t-init
unfolding table
loop-t-init c = refl

pub overflow_sub-sum : goal.overflow_sub-sum
overflow_sub-sum c =
    let l = c.loop-t in
    let fits : FitsSigned w16 (get_or c.args.oldest.now l.t (pos 0)) = search rules in
    subtract-fits _ l.t (omega arith) c.told-sums c.requires l.invariant fits c.from.ensures

pub loop-t-preserved : goal.loop-t-preserved
loop-t-preserved c =
    let l = c.loop-t in
    let fits : FitsSigned w16 (get_or c.args.oldest.now l.t (pos 0)) = search rules in
    let sum = subtract-is _ l.t (omega arith) c.told-sums c.requires l.invariant fits c.from.ensures in
    table_filled _ c.args.sums.now l.sums l.t _ (omega arith) sum l.invariant
