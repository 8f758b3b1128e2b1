-- `zerorates::rates::zero_rates`: after t turns the rates of the terms 1 to t are written.
use Rattle.std.proofs.Common.{◌≡◌, ◌++◌, ◌*◌, ◌^◌, ◌≤◌, length, drop}
use Rattle.method.specs.Rounded.{rate_of}
use Rattle.curves.specs.inner.ByTerm.{factor_at}
use Rattle.zerorates.specs.inner.ByTerm.{rate_brackets}
use Rattle.zerorates.proofs.rates.zero_rates.Given as goal

abbrev pub invariant-loop-t : goal.invariant-loop-t
invariant-loop-t l = record {
  long : length l.out ≡ 120;
  filled : l.out ≡ rate_brackets (rate_of (factor_at l.factors)) l.t ++ drop l.t l.initial.out;
  step_most : l.step ≤ 22000;
  before_most : l.before ≤ 12 * 10 ^ 12;
}
