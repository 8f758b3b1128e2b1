-- `parts_of`: the days, in the field of their form. The check leaves this goal open without its answer.
use Rattle.std.proofs.Common.{◌∙◌, ap, nat_eq}
use Rattle.model.specs.Layout.{shocks_in_order}
use Rattle.savingmodel.specs.Saving.{days_of}
use Rattle.saving.proofs.CaseChecks.{days-if}
use Rattle.saving.proofs.case.parts_of.Goals as goal

pub returns : goal.returns
returns c =
    let case = c.args.case.now in
    let f = case.fields.now in
    let short = c.of-short.ensures ∙ ap days_of c.list_if.ensures ∙ days-if (nat_eq f.rate_bytes 2) case.rates.now in
    let long = c.of-long.ensures ∙ ap days_of c.list_if-2.ensures ∙ days-if (nat_eq f.rate_bytes 4) case.rates.now in
    λ i. (
      (f.ufr, (short i, (case.pension.now, (case.bonds.now, (f.amounts, (shocks_in_order f.shocks, f.people)))))),
      (long i, f.shocks.equity_correlation),
    )
