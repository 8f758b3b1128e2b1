-- `field::read_flows` meets its contract: the count and the length, and then each flow. The check leaves this goal open without its answer.
use Rattle.std.proofs.Common.{◌≡◌, ◌∙◌, ◌+◌, [], ◌∷◌, ap, get_or, subst}
use Rattle.refusal.specs.declared.Refusal.TheVariants.{FlowCount, Flow}
use Rattle.model.specs.Fields.{right_all, value_all}
use Rattle.model.specs.Layout.{flow}
use Rattle.fields.specs.Checks.{Checked, count_checks}
use Rattle.fields.proofs.Counted.{flows-are}
use Rattle.fields.proofs.Steps.{behind-checks}
use Rattle.fields.proofs.flows.FlowsField.read.Goals as goal

pub returns : goal.returns
returns g c =
    let cursor = c.args.cursor.now in
    let (none, (is, some, few, part, moved)) = c.in_ok-bytes.ensures in
    let flows = flows-are _ part ∙ ap (value_all flow _ _) is in
    let read = subst (λ xs. Checked ((right_all flow xs, Flow) ∷ []) (λ v. v ≡ xs) c.flows_in.result) flows c.flows_in.ensures in
    behind-checks _ (count_checks g.row.MOST FlowCount 4 cursor.file.now cursor.at) ((right_all flow (value_all flow cursor.file.now (cursor.at + 1) (get_or cursor.file.now cursor.at 0)), Flow) ∷ []) none moved _ read
