-- After t turns the rates of the first t terms are looked at, and added.
use Rattle.std.proofs.Common.{◌≡◌, ◌+ℤ◌, ◌++◌, drop, get_or, pos, take}
use Rattle.model.specs.Fields.{right_all}
use Rattle.model.specs.Layout.{daily_rate}
use Rattle.model.specs.Numbers.{table}
use Rattle.fields.proofs.given_days.add_day.Given as goal

abbrev pub invariant-loop-t : goal.invariant-loop-t
invariant-loop-t g l = record {
  right : l.right ≡ right_all (daily_rate g.F.RateForm.WIDTH) (take l.t l.rates);
  sums : l.sums ≡ table (λ i. get_or l.fn.sums i (pos 0) +ℤ get_or l.rates i (pos 0)) l.t ++ drop l.t l.fn.sums;
}
