-- After t turns the rates of the first t terms are added.
use Rattle.std.proofs.Common.{◌≡◌, ◌+ℤ◌, ◌++◌, drop, get_or, pos}
use Rattle.model.specs.Numbers.{table}
use Rattle.rolling.proofs.add.Given as goal

abbrev pub invariant-loop-t : goal.invariant-loop-t
invariant-loop-t l = l.sums ≡ table (λ i. get_or l.fn.sums i (pos 0) +ℤ get_or l.new i (pos 0)) l.t ++ drop l.t l.fn.sums
