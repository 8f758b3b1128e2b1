-- `working::money_of` meets its contract. Assumes nothing. The check leaves each of these goals open without its answer.
use Rattle.working.proofs.Working.{sums-fit, adjusted-is, adjusted-by}
use Rattle.working.proofs.money_of.Goals as goal

pub map-adjusted-requires : goal.map-adjusted-requires
map-adjusted-requires c m p is = sums-fit c.requires _ c.sums_of-sums.ensures m p.now is

pub money_at-requires : goal.money_at-requires
money_at-requires c = record {
  case = c.requires;
  sums = c.sums_of-sums.ensures;
  adjusted = adjusted-is c.requires _ c.sums_of-sums.ensures _
      (λ m. let r = c.map-adjusted.ensures m in adjusted-by _ _ r.shows _ r.says.met);
}
