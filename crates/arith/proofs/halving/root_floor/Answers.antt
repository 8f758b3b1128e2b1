-- `arith::halving::root_floor` meets its contract. Assumes nothing.
use Rattle.std.proofs.Common.{arith, refl, lt_of_lt_of_le}
use Rattle.arith.proofs.Root.{root-low-is}
use Rattle.arith.proofs.Bisection.{middle-left, middle-right, neighbours, test-true, test-false}
use Rattle.arith.proofs.halving.root_floor.Goals as goal

pub loop-lo-init : goal.loop-lo-init
loop-lo-init c = record { order = omega arith; most = omega arith; below = omega arith; above = c.requires }

pub overflow_add-lo : goal.overflow_add-lo
overflow_add-lo c = omega arith

pub overflow_add-mid : goal.overflow_add-mid
overflow_add-mid c = omega arith

pub loop-lo-preserved-then-at_most : goal.loop-lo-preserved-then-at_most
loop-lo-preserved-then-at_most c =
    let found = test-true _ _ _ _ _ c.at_most.ensures c.product-square.ensures refl c.if-at_most.true in
    middle-left c.loop-lo.invariant c.loop-lo-test.true found

pub loop-lo-preserved : goal.loop-lo-preserved
loop-lo-preserved c =
    let found = test-false _ _ _ _ _ c.at_most.ensures c.product-square.ensures refl c.if-at_most.false in
    middle-right c.loop-lo.invariant c.loop-lo-test.true found

pub returns-clause-value : goal.returns-clause-value
returns-clause-value c =
    let (reaches, last) = neighbours c.loop-lo.invariant c.loop-lo-test.false in
    root-low-is _ _ _ (record { reaches = reaches; last = last })

pub returns-clause-bound : goal.returns-clause-bound
returns-clause-bound c = lt_of_lt_of_le c.loop-lo.invariant.order c.loop-lo.invariant.most
