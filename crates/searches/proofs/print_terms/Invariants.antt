-- `searches::print_terms`: the guess is a step that two steps follow.
use Rattle.std.proofs.Common.{◌≤◌}
use Rattle.searches.proofs.print_terms.Given as goal

abbrev pub invariant-loop-i : goal.invariant-loop-i
invariant-loop-i g l = l.guess ≤ 21998
