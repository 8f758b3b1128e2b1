-- A number times a ratio, at the upper end. Assumes nothing.
use Rattle.arith.proofs.Units.{within, ceiling-is}
use Rattle.arith.proofs.end.HighEnd.times.Goals as goal

pub returns : goal.returns
returns c = let r = c.args.ratio.now in ceiling-is _ _ _ _ _ r.some (within _ _ c.requires r.most) r.is
