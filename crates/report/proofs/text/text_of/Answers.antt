-- `text_of`: the first block stands, and the others are to come.
use Rattle.std.proofs.Common.{◌≡◌, ◌<◌, length, rules, sym, ap, ◌∙◌, ◌∷◌}
use Rattle.report.proofs.Blocks.{report-several}
use Rattle.report.specs.Report.{report}
use Rattle.report.proofs.text.text_of.Goals as goal

pub loop-row-init : goal.loop-row-init
loop-row-init c =
    let several : 0 < length c.in-Some.others.now = search rules in
    let whole : c.args.rows.now ≡ c.in-Some.first.now ∷ c.in-Some.others.now = c.in-Some.ensures.cases.0 in
    rw (c.in_ok-push_block.ensures, c.new-text.ensures.items) (report-several c.in-Some.first.now c.in-Some.others.now several ∙ ap report (sym whole))
