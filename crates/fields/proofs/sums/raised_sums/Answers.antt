-- `sums::raised_sums` meets its contract: a turn raises a sum more. The check leaves each of these goals open without its answer.
use Rattle.std.proofs.Common.{◌∙◌, ◌*◌, replicate, refl, arith, ap, pos, ◌+ℤ◌}
use Rattle.model.specs.Numbers.{table}
use Rattle.method.specs.Curve.{natural}
use Rattle.theory.proofs.general.Lists.{table_filled}
use Rattle.fields.proofs.Forwards.{sum-passed}
use Rattle.fields.proofs.sums.raised_sums.Goals as goal

pub loop-t-init : goal.loop-t-init
unfolding table
loop-t-init c = refl

pub loop-t-preserved : goal.loop-t-preserved
loop-t-preserved c =
    let l = c.loop-t in
    let sum = sum-passed _ _ c.requires.step (c.requires.small.each l.t (omega arith)) in
    let value = c.raised_sum.ensures ∙ ap (λ z. natural (pos (100000 * c.args.per_step) +ℤ z)) sum in
    table_filled _ (replicate 60 0) l.raised l.t _ (omega arith) value l.invariant
