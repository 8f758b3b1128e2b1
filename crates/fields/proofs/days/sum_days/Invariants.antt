-- After some turns of `sum_days` the days so far are summed, their rates are within their limits, and the bytes after them are left.
use Rattle.std.proofs.Common.{◌≡◌, ◌*◌, ◌/◌, ◌≤◌, drop, length, true}
use Rattle.model.specs.Fields.{value_all, right_all}
use Rattle.model.specs.Layout.{day}
use Rattle.fields.specs.Sums.{sums_of}
use Rattle.fields.proofs.days.sum_days.Given as goal

abbrev pub invariant-loop-day : goal.invariant-loop-day
invariant-loop-day g l =
    let w = g.F.RateForm.WIDTH in
    let d = length l.yielded in record {
      size : l.day-iterator.size ≡ w * 60;
      left : l.day-iterator.rest.now ≡ drop (w * 60 * d) l.rates;
      within : d ≤ length l.rates / (w * 60);
      right : right_all (day w) (value_all (day w) l.rates 0 d) ≡ true;
      held : l.sums ≡ sums_of (value_all (day w) l.rates 0 d);
    }
