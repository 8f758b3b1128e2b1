-- The twelve numbers of the shocks.
use Rattle.std.proofs.Common.{◌≡◌, ◌∙◌, ℕ, ◌+◌, List, get_or, ap, arith}
use Rattle.model.specs.Constants.{default_equity_correlation}
use Rattle.model.specs.Numbers.{number}
use Rattle.model.specs.Fields.{number_of, value_all}
use Rattle.model.specs.Layout.{shocks, shocks_from}
use Rattle.model.specs.declared.case.Shocks.{Shocks}

abbrev pub shocks_of : List ℕ → Shocks
shocks_of v = record {
  up_shift = get_or v 0 0;
  down_shift = get_or v 1 0;
  mature_fall = get_or v 2 0;
  emerging_fall = get_or v 3 0;
  private_fall = get_or v 4 0;
  property_fall = get_or v 5 0;
  currency_fall = get_or v 6 0;
  commodities_fall = get_or v 7 0;
  spread_rise = get_or v 8 0;
  correlation = get_or v 9 0;
  spread = get_or v 10 0;
  duration = get_or v 11 0;
  equity_correlation = default_equity_correlation;
}

pub shocks-are : (v file : List ℕ) (at : ℕ) → v ≡ value_all (number_of 2 0 0) file at 12 → shocks_of v ≡ shocks_from (shocks.value file at) default_equity_correlation
shocks-are v file at is =
    let e : at + 2 + 2 + 2 + 2 + 2 + 2 + 2 + 2 + 2 + 2 ≡ at + 20 = omega arith in
    ap shocks_of is
    ∙ ap (λ i. shocks_from (value_all (number_of 2 0 0) file at 10, (number file i 2, number file (i + 2) 2)) default_equity_correlation) e
