-- `CurveSums::factors` meets its contract. Assumes nothing. The check leaves each of these goals open without its answer.
use Rattle.std.proofs.Common.{refl, ◌∙◌, arith, add-one}
use Rattle.std.proofs.Math.ListN.{length-set}
use Rattle.model.specs.Numbers.{table}
use Rattle.theory.proofs.general.Lists.{table_filled}
use Rattle.curves.proofs.Curves.{ufr-most}
use Rattle.curves.proofs.Discounts.{no-factor, next-within}
use Rattle.curves.proofs.sums.CurveSums.factors.Goals as goal

pub overflow_add-self : goal.overflow_add-self
overflow_add-self c = omega (arith, ufr-most _ c.requires)

pub of-late-requires : goal.of-late-requires
of-late-requires c = omega (arith, ufr-most _ c.requires)

pub loop-t-init : goal.loop-t-init
unfolding table
loop-t-init c = record { all = refl; factor = c.exactly-factor.ensures ∙ no-factor _; filled = refl }

pub next_factor-factor-requires : goal.next_factor-factor-requires
next_factor-factor-requires c = next-within _ _ _ _ c.requires c.of-late.ensures.0 c.of-late.ensures.1 c.loop-t.invariant.factor

pub loop-t-preserved : goal.loop-t-preserved
loop-t-preserved c =
    let inv = c.loop-t.invariant in record {
      all = simp length-set inv.all;
      factor = c.next_factor-factor.ensures;
      filled = table_filled _ _ _ _ _ (omega arith) (rw (← add-one c.loop-t.t) c.next_factor-factor.ensures) inv.filled;
    }
