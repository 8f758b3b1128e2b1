-- After t turns of `raised_sums` the first t sums are raised.
use Rattle.std.proofs.Common.{◌≡◌, ◌*◌, ◌++◌, drop, get_or, replicate, pos, ◌+ℤ◌}
use Rattle.model.specs.Numbers.{table}
use Rattle.model.specs.Constants.{steps_per_one}
use Rattle.method.specs.Curve.{natural}
use Rattle.fields.proofs.sums.raised_sums.Given as goal

abbrev pub invariant-loop-t : goal.invariant-loop-t
invariant-loop-t l =
    l.raised ≡ table (λ i. natural (pos (steps_per_one * l.per_step) +ℤ get_or l.held i (pos 0))) l.t ++ drop l.t (replicate 60 0)
