-- `arith::halving::root_floor`: the interval from lo to hi holds the root at every turn, and grows shorter.
use Rattle.std.proofs.Common.{◌-◌, ◌*◌, ◌^◌, ◌≤◌, ◌<◌}
use Rattle.arith.specs.inner.Value.{val}
use Rattle.arith.proofs.Bisection.{Parted}
use Rattle.arith.proofs.halving.root_floor.Given as goal

abbrev pub invariant-loop-lo : goal.invariant-loop-lo
invariant-loop-lo l = Parted (λ r. r * r * l.den ≤ val l.num) (λ r. val l.num < r * r * l.den) (2 ^ 56) l.lo l.hi

abbrev pub decreases-loop-lo : goal.decreases-loop-lo
decreases-loop-lo l = l.hi - l.lo
