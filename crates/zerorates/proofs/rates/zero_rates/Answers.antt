-- `zerorates::rates::zero_rates` meets its contract. Assumes nothing. The check leaves each of these goals open without its answer.
use Rattle.std.proofs.Common.{refl, arith}
use Rattle.std.proofs.Math.ListN.{length-set}
use Rattle.model.specs.Numbers.{table}
use Rattle.theory.proofs.general.Lists.{table_filled}
use Rattle.zerorates.proofs.rates.Rated.{guess-within, factor-most, lower-rate, upper-rate, rates-are}
use Rattle.zerorates.proofs.Left.{first-most}
use Rattle.zerorates.proofs.rates.zero_rates.Goals as goal

pub loop-t-init : goal.loop-t-init
unfolding table
loop-t-init c = record { long = refl; filled = refl; step_most = omega arith; before_most = omega arith }

pub guess_rate-guess-requires : goal.guess_rate-guess-requires
guess_rate-guess-requires c =
    guess-within _ _ c.requires (omega arith) c.loop-t.invariant.step_most c.loop-t.invariant.before_most

pub rate_at-requires : goal.rate_at-requires
rate_at-requires c = first-most _ _ _ c.steps_left.ensures.remain

pub rate_at-requires-in-loop-t : goal.rate_at-requires-in-loop-t
rate_at-requires-in-loop-t c = first-most _ _ _ c.steps_left-in-loop-t.ensures.remain

pub loop-t-preserved : goal.loop-t-preserved
loop-t-preserved c =
    let lower = c.steps_left.ensures.remain in
    let upper = c.steps_left-in-loop-t.ensures.remain in
    record {
      long = simp length-set c.loop-t.invariant.long;
      filled = table_filled _ _ _ _ _ (omega arith)
          (rates-are _ _ _ _
          (lower-rate _ _ c.requires (omega arith) _ _ c.rate_at.ensures lower)
          (upper-rate _ _ c.requires (omega arith) _ _ c.rate_at-in-loop-t.ensures upper))
          c.loop-t.invariant.filled;
      step_most = first-most _ _ _ lower;
      before_most = factor-most _ _ c.requires (omega arith);
    }
