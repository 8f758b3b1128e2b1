-- `batch::for_each`: as many files as there were turns were read and visited, and the visit can be called again.
use Rattle.std.proofs.Common.{◌≡◌, Ok, List, ℕ, length}
use Rattle.std.specs.Fn.{CalledAt}
use Rattle.std.specs.List.{FoldsTo}
use Rattle.batch.specs.Files.{Turn}
use Rattle.batch.proofs.for_each.Given as goal

abbrev pub invariant-loop : goal.invariant-loop
invariant-loop g l =
    goal.F-IsAlwaysCallable g l.visit
    × (files : List (List ℕ)) × (length files ≡ l.counter)
    × FoldsTo (Turn (λ f file h. CalledAt g.F.FnMut f file (Ok tt) h)) (l.initial.visit, g.R.Read.remaining l.initial.input) files
    (l.visit, g.R.Read.remaining l.input)
