-- `CurveSums::unadjusted_factors` meets its contract. Assumes nothing. The check leaves each of these goals open without its answer.
use Rattle.std.proofs.Common.{arith, rules, add-one}
use Rattle.std.proofs.Math.ListN.{length-set}
use Rattle.theory.proofs.general.Lists.{table_filled}
use Rattle.curves.proofs.UnadjustedLaws.{unadjusted-within, unadjusted-are, first-terms}
use Rattle.curves.proofs.sums.CurveSums.unadjusted_factors.Goals as goal

pub loop-t-init : goal.loop-t-init
loop-t-init c = record { to = omega arith; all = search rules; filled = first-terms _ _ c.requires.adjusted }

pub over_years-requires : goal.over_years-requires
over_years-requires c = unadjusted-within _ c.requires.sums _ (omega arith)

pub loop-t-preserved : goal.loop-t-preserved
loop-t-preserved c =
    let inv = c.loop-t.invariant in record {
      to = omega arith;
      all = simp length-set inv.all;
      filled = table_filled _ _ _ _ _ (omega arith) (rw (← add-one c.loop-t.t) (unadjusted-are _ _ _ c.over_years.ensures)) inv.filled;
    }
