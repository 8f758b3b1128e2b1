-- After t turns the factors of the terms 1 to t are written, and `factor` is that of term t.
use Rattle.std.proofs.Common.{◌≡◌, length, ◌++◌, drop}
use Rattle.arith.specs.Brackets.{bracket}
use Rattle.method.specs.Rounded as Rounded
use Rattle.curves.specs.inner.Shifted.{curve_of}
use Rattle.curves.specs.inner.ByTerm.{brackets}
use Rattle.curves.proofs.sums.CurveSums.factors.Given as goal

abbrev pub invariant-loop-t : goal.invariant-loop-t
invariant-loop-t l = record {
  all : length l.out ≡ 120;
  factor : l.factor ≡ bracket (λ e. Rounded.factor (curve_of l.self) e l.t);
  filled : l.out ≡ brackets (Rounded.factor (curve_of l.self)) l.t ++ drop l.t l.initial.out;
}
