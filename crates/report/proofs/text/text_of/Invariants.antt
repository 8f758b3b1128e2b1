-- `text_of`: the blocks so far, and those to come.
use Rattle.std.proofs.Common.{◌≡◌, ◌++◌, drop, codes}
use Rattle.std.specs.List.{flat_map}
use Rattle.report.specs.Report.{block, report}
use Rattle.report.proofs.text.text_of.Given as goal

abbrev pub invariant-loop-row : goal.invariant-loop-row
invariant-loop-row l = l.text.items ++ flat_map (λ r. codes "\n" ++ block r) (drop l.row-index l.others) ≡ report l.fn.rows
