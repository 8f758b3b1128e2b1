-- `CurveSums::next_factor` meets its contract. Assumes nothing. The check leaves each of these goals open without its answer.
use Rattle.std.proofs.Common.{arith}
use Rattle.curves.proofs.UnadjustedLaws.{unadjusted-within}
use Rattle.curves.proofs.Discounts.{first-is, late-within, late_is, cross-within, next-is}
use Rattle.curves.proofs.sums.CurveSums.next_factor.Goals as goal

pub over_years-requires : goal.over_years-requires
over_years-requires c = unadjusted-within _ c.requires.curve _ (omega arith)

pub returns-then-t-le-LAST_UNWEIGHED_TERM : goal.returns-then-t-le-LAST_UNWEIGHED_TERM
returns-then-t-le-LAST_UNWEIGHED_TERM c = first-is _ _ _ c.if-t-le-LAST_UNWEIGHED_TERM.true c.over_years.ensures

pub scaled_by-requires : goal.scaled_by-requires
scaled_by-requires c = late-within _ _ _ _ c.requires

pub returns-then-t-gt-LAST_MARKET_TERM : goal.returns-then-t-gt-LAST_MARKET_TERM
returns-then-t-gt-LAST_MARKET_TERM c = late_is _ _ _ _ _ c.requires c.if-t-gt-LAST_MARKET_TERM.true c.scaled_by.ensures

pub over-requires : goal.over-requires
over-requires c =
    cross-within _ _ _ _ _ c.requires c.if-t-le-LAST_UNWEIGHED_TERM.false c.if-t-gt-LAST_MARKET_TERM.false c.weighed_growth.ensures

pub returns : goal.returns
returns c = next-is _ _ _ _ _ _ c.requires c.if-t-le-LAST_UNWEIGHED_TERM.false c.weighed_growth.ensures c.over.ensures
