-- `money::equity::s2` meets its contract: the root at either end is at most the four losses together.
-- The check leaves this goal open without its answer.
use Rattle.arith.specs.Rounding.{low, high}
use Rattle.money.specs.inner.Ranges.{ClassesFit}
use Rattle.money.proofs.Products.{classes-end}
use Rattle.money.proofs.equity.s2.Goals as goal

pub returns-clause-bound : goal.returns-clause-bound
returns-clause-bound c =
    let most : ClassesFit _ _ _ _ _ = record {
      correlation = c.requires.1.equity_correlation;
      mature = c.loss.ensures.bound;
      emerging = c.loss-2.ensures.bound;
      private = c.loss-3.ensures.bound;
      property = c.loss-4.ensures.bound;
    } in
    let squares = c.class_squares-squares.ensures.value in
    record { lower = classes-end low most squares c.root.ensures.value; upper = classes-end high most squares c.root-2.ensures.value }
