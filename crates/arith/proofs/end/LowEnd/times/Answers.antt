-- A number times a ratio, at the lower end. Assumes nothing.
use Rattle.arith.proofs.Units.{within, floor-is}
use Rattle.arith.proofs.end.LowEnd.times.Goals as goal

pub returns : goal.returns
returns c = let r = c.args.ratio.now in floor-is _ _ _ _ _ r.some (within _ _ c.requires r.most) r.is
