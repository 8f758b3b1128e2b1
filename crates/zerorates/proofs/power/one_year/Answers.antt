-- `zerorates::power::one_year` meets its contract. Assumes nothing. The check leaves each of these goals open without its answer.
use Rattle.std.proofs.Common.{arith}
use Rattle.zerorates.proofs.Powers.{year-most, one-year}
use Rattle.zerorates.specs.inner.Powers.{power_most}
use Rattle.zerorates.proofs.power.one_year.Goals as goal

pub overflow_add-result : goal.overflow_add-result
unfolding power_most
overflow_add-result c = omega (arith, year-most _ _ c.quotient-lower.ensures)

pub returns : goal.returns
returns c = one-year _ _ c.quotient-lower.ensures
