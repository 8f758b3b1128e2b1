-- `held_doubles`: the doubles are those of a bracket whose ends are up to 2^53.
-- The check leaves each of these goals open without its answer.
use Rattle.std.proofs.Common.{◌^◌, ◌≤◌, arith}
use borrow.Author.Tests.{le-leb}
use Rattle.listing.proofs.points.held_doubles.Goals as goal

pub returns : goal.returns
returns c =
    let b = c.args.b in
    let low : b.lower ≤ 2 ^ 53 = omega arith in
    let high : b.upper ≤ 2 ^ 53 = omega arith in
    (simp (le-leb b.lower (2 ^ 53) low, le-leb b.upper (2 ^ 53) high), c.doubles.ensures.0, c.doubles.ensures.1)
