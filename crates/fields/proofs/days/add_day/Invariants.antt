-- After t turns of `add_day` the first t rates of the day are within their limits, and added to the first t sums.
use Rattle.std.proofs.Common.{◌≡◌, ◌+◌, ◌*◌, ◌++◌, true, drop, get_or, pos, ◌+ℤ◌}
use Rattle.model.specs.Numbers.{table}
use Rattle.model.specs.Fields.{value_all, right_all}
use Rattle.model.specs.Layout.{daily_rate}
use Rattle.fields.proofs.days.add_day.Given as goal

abbrev pub invariant-loop-t : goal.invariant-loop-t
invariant-loop-t g l =
    let rate = daily_rate g.F.RateForm.WIDTH in record {
      right : right_all rate (value_all rate l.day 0 l.t) ≡ true;
      held : l.sums ≡ table (λ i. get_or l.initial.sums i (pos 0) +ℤ rate.value l.day (0 + rate.size * i)) l.t ++ drop l.t l.initial.sums;
    }
