-- `is_right`: each rate is. The check leaves this goal open without its answer.
use Rattle.std.proofs.Common.{◌∙◌, rules, tests}
use Rattle.std.proofs.lemmas.Iterator.Search.{all_from_yields_List}
use Rattle.std.proofs.lemmas.Iterator.{YieldsList-from_slice}
use Rattle.model.specs.Layout.{daily_rate}
use Rattle.rolling.proofs.Rates.{all_right}
use Rattle.rolling.proofs.is_right.Goals as goal

pub returns : goal.returns
returns c =
    let held = c.args.held.now in
    let front = YieldsList-from_slice held cc in
    let all = all_from_yields_List (daily_rate 2).right _ _ c.all.result c.all.ensures.ran front (λ x b q k. search (rules, tests)) in
    all ∙ all_right (daily_rate 2) held
