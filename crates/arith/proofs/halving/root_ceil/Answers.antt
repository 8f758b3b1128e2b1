-- `arith::halving::root_ceil` meets its contract. Assumes nothing.
use Rattle.std.proofs.Common.{refl}
use Rattle.arith.proofs.Bisection.{test-true, test-false}
use Rattle.arith.proofs.Root.{root-high-exact, root-high-more}
use Rattle.arith.proofs.halving.root_ceil.Goals as goal

pub returns-then-at_most-clause-value : goal.returns-then-at_most-clause-value
returns-then-at_most-clause-value c =
    let exact = test-true _ _ _ _ _ c.at_most.ensures refl c.product-square.ensures c.if-at_most.true in
    root-high-exact _ _ _ c.root_floor-r.ensures.value exact

pub returns-else-at_most-clause-value : goal.returns-else-at_most-clause-value
returns-else-at_most-clause-value c =
    let more = test-false _ _ _ _ _ c.at_most.ensures refl c.product-square.ensures c.if-at_most.false in
    root-high-more _ _ _ c.root_floor-r.ensures.value more
