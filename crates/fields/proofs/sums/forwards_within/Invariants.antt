-- After t turns of `forwards_within` the first t terms are tested.
use Rattle.std.proofs.Common.{◌≡◌, true, pos, neg_ℤ, ◌*ℤ◌}
use Rattle.model.specs.Numbers.{every}
use Rattle.model.specs.Limits.{Between}
use Rattle.fields.specs.Sums.{sum_at, forward_right}
use Rattle.fields.proofs.sums.forwards_within.Given as goal

abbrev pub invariant-loop-t : goal.invariant-loop-t
invariant-loop-t l = record {
  right : every (forward_right l.per_step l.sums) l.t ≡ true;
  before : l.last ≡ pos l.t *ℤ sum_at l.sums l.t;
  small : Between (neg_ℤ (pos 66000000000000)) (pos 66000000000000) l.last;
}
