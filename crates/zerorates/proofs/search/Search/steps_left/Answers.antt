-- `zerorates::search::Search::steps_left` meets its contract. Assumes nothing.
-- The check leaves each of these goals open without its answer.
use Rattle.std.proofs.Common.{refl, arith, add-one}
use Rattle.searchmodel.specs.Bisection.{after_tests, tests_made}
use Rattle.theory.proofs.curve.Bisection.{tests-most}
use Rattle.zerorates.specs.inner.Results.{passed}
use Rattle.zerorates.proofs.Left.{left-within}
use Rattle.zerorates.proofs.search.Search.steps_left.Goals as goal

pub loop-init : goal.loop-init
unfolding after_tests tests_made
loop-init g c = record { left = refl; made = refl }

pub halve-left-requires-clause-within : goal.halve-left-requires-clause-within
halve-left-requires-clause-within g c = left-within _ _ _ c.loop.invariant.left

pub halve-left-requires-clause-room : goal.halve-left-requires-clause-room
halve-left-requires-clause-room g c =
    let most = tests-most g.E.End.end (passed g.E.End.end c.args.self.term c.args.self.factor) c.loop.counter in
    omega (arith, c.loop.invariant.made, most)

pub loop-preserved : goal.loop-preserved
unfolding after_tests tests_made
loop-preserved g c = record {
  left = rw (add-one c.loop.counter, ← c.loop.invariant.left) c.halve-left.ensures.remain;
  made = rw (add-one c.loop.counter, ← c.loop.invariant.left, ← c.loop.invariant.made) c.halve-left.ensures.counted;
}
