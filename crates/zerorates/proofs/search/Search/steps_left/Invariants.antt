-- `zerorates::search::Search::steps_left`: each turn is one test, or none where a single step is left.
use Rattle.std.proofs.Common.{◌≡◌}
use Rattle.searchmodel.specs.Bisection.{after_tests, tests_made}
use Rattle.zerorates.specs.inner.Results.{passed}
use Rattle.zerorates.proofs.search.Search.steps_left.Given as goal

abbrev pub invariant-loop : goal.invariant-loop
invariant-loop g l = record {
  left : l.left ≡ after_tests g.E.End.end (passed g.E.End.end l.self.term l.self.factor) l.counter;
  made : l.made ≡ tests_made g.E.End.end (passed g.E.End.end l.self.term l.self.factor) l.counter;
}
