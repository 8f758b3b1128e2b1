-- `valued::days_in` meets its contract: the sums of a right window are those of its days. Assumes nothing.
-- The check leaves this goal open without its answer.
use Rattle.std.proofs.Common.{arith, sym}
use Rattle.theory.proofs.rolling.Right.{right-facts}
use Rattle.rolling.proofs.Joined.{bounded}
use Rattle.rolling.proofs.valued.days_in.Goals as goal

pub invariant_of-result : goal.invariant_of-result
invariant_of-result c =
    let right = sym c.in_ok-place_of.ensures.right in
    record { few = omega (arith, (right-facts c.args.w.now right).count); bounded = bounded c.args.w.now right }
