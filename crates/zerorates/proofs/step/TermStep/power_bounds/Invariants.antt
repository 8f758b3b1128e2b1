-- `zerorates::step::TermStep::power_bounds`: before a turn the power is that of t / 2^k years.
use Rattle.std.proofs.Common.{◌/◌, ◌^◌}
use Rattle.zerorates.specs.inner.Powers.{Encloses, power_most}
use Rattle.zerorates.proofs.step.TermStep.power_bounds.Given as goal

abbrev pub invariant-loop-k : goal.invariant-loop-k
invariant-loop-k l = Encloses l.power (l.self.term / 2 ^ l.k) l.self.step (power_most (l.self.term / 2 ^ l.k))
