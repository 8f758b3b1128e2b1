-- `zerorates::step::TermStep::rounded_result`: after each turn x has been taken once more.
use Rattle.std.proofs.Common.{◌≡◌}
use Rattle.method.specs.Rounded.{tested}
use Rattle.zerorates.proofs.step.TermStep.rounded_result.Given as goal

abbrev pub invariant-loop : goal.invariant-loop
invariant-loop g l = l.x ≡ tested g.E.End.end l.counter l.fn.self.step
