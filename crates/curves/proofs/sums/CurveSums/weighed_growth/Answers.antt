-- `CurveSums::weighed_growth` meets its contract. Assumes nothing. The check leaves each of these goals open without its answer.
use Rattle.std.proofs.Common.{arith}
use Rattle.curves.proofs.Curves.{ufr-most}
use Rattle.curves.proofs.Growths.{growth-within, growth-is, weigh-within, weighed-is}
use Rattle.curves.proofs.sums.CurveSums.weighed_growth.Goals as goal

pub overflow_mul-ufr_growth : goal.overflow_mul-ufr_growth
overflow_mul-ufr_growth c = omega (arith, ufr-most _ c.requires.0)

pub overflow_add-ufr_growth : goal.overflow_add-ufr_growth
overflow_add-ufr_growth c = omega (arith, ufr-most _ c.requires.0)

pub growth-unweighed-requires : goal.growth-unweighed-requires
growth-unweighed-requires c = let w = c.requires in growth-within _ w.0 _ w.1 w.2

pub weigh-requires : goal.weigh-requires
weigh-requires c =
    let w = c.requires in
    weigh-within _ w.0 _ _ _ w.1 w.2 (growth-is _ w.0 _ _ w.1 c.growth-unweighed.ensures) c.weight_of.ensures.most

pub returns : goal.returns
returns c =
    let w = c.requires in
    weighed-is _ w.0 _ _ _ _ w.2 (growth-is _ w.0 _ _ w.1 c.growth-unweighed.ensures) c.weight_of.ensures.is c.weigh.ensures
