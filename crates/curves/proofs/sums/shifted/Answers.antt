-- `curves::sums::shifted` meets its contract. Assumes nothing. The check leaves each of these goals open without its answer.
use Rattle.std.proofs.Common.{◌≡◌, ◌+◌, refl, ap, ◌∙◌, arith}
use Rattle.std.proofs.Math.ListN.{length-set}
use Rattle.model.specs.Numbers.{table}
use Rattle.curves.specs.inner.Shifted.{shifted_sum}
use Rattle.theory.proofs.general.Lists.{table_filled, all-filled}
use Rattle.curves.proofs.sums.Shifting.{sum-at, all-sums}
use Rattle.curves.proofs.sums.shifted.Goals as goal

pub loop-t-init : goal.loop-t-init
unfolding table shifted_sum
loop-t-init c = record { all = refl; filled = refl }

pub loop-t-preserved : goal.loop-t-preserved
loop-t-preserved c =
    let inv = c.loop-t.invariant in record {
      all = simp length-set inv.all;
      filled = table_filled _ _ _ _ _ (omega arith) (sum-at _ _ _ _) inv.filled;
    }

pub returns : goal.returns
returns c =
    let inv = c.loop-t.invariant in
    let n : c.loop-t.t + 1 ≡ 61 = omega arith in
    all-sums _ _ _ _ (all-filled _ _ _ _ n inv.filled ∙ ap (table _) n)
