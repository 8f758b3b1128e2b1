-- `arith::scale::Long` divides as its trait says, by the laws of a division by hand. Assumes nothing.
-- The check leaves each of these goals open without its answer.
use Rattle.std.proofs.Common.{arith}
use Rattle.arith.specs.Rounding.{low}
use Rattle.arith.proofs.LongDivision.{quotient_is, quotient_fits}
use Rattle.arith.proofs.scale.LongQuotient.quotient.Goals as goal

pub overflow_mul-result : goal.overflow_mul-result
overflow_mul-result g c = omega (arith, quotient_is c.requires low, quotient_fits c.requires low)

pub overflow_add-result : goal.overflow_add-result
overflow_add-result g c =
    let e = g.E.End.end in
    omega (arith, c.divide.ensures, quotient_is c.requires e, quotient_fits c.requires e)

pub returns : goal.returns
returns g c = rw c.divide.ensures (quotient_is c.requires g.E.End.end)
