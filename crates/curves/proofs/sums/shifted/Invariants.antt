-- Before each turn the sums of the terms to t are written.
use Rattle.std.proofs.Common.{◌≡◌, length, ◌+◌, ◌++◌, drop}
use Rattle.model.specs.Numbers.{table}
use Rattle.curves.specs.inner.Shifted.{shifted_sum}
use Rattle.curves.proofs.sums.shifted.Given as goal

abbrev pub invariant-loop-t : goal.invariant-loop-t
invariant-loop-t l = record {
  all : length l.sums ≡ 61;
  filled : l.sums ≡ table (shifted_sum l.more l.less l.case) (l.t + 1) ++ drop (l.t + 1) l.initial.sums;
}
