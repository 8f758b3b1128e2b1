-- `sum_of`: the sum of the flows so far.
use Rattle.std.proofs.Common.{◌≡◌, ◌≤◌, ◌*◌, sum, take}
use Rattle.report.proofs.numbers.sum_of.Given as goal

abbrev pub invariant-loop-flow : goal.invariant-loop-flow
invariant-loop-flow l = (l.total ≡ sum (take l.flow-index l.flows)) × (l.total ≤ 100000000 * l.flow-index)
