-- From term 20 on, after each turn one term more has its unadjusted factor.
use Rattle.std.proofs.Common.{◌≡◌, ◌≤◌, max, length, ◌++◌, drop}
use Rattle.method.specs.Rounded as Rounded
use Rattle.curves.specs.inner.Shifted.{curve_of}
use Rattle.curves.specs.inner.ByTerm.{brackets}
use Rattle.curves.proofs.sums.CurveSums.unadjusted_factors.Given as goal

abbrev pub invariant-loop-t : goal.invariant-loop-t
invariant-loop-t l = record {
  to : l.t ≤ max 20 l.count;
  all : length l.out ≡ 120;
  filled : l.out ≡ brackets (Rounded.unadjusted (curve_of l.self)) l.t ++ drop l.t l.adjusted;
}
