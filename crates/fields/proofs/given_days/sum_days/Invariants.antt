-- The count of the days is right; the days of a front are right, and summed.
use Rattle.std.proofs.Common.{◌≡◌, length, true, take}
use Rattle.model.specs.Fields.{right_all, within}
use Rattle.model.specs.Layout.{day}
use Rattle.fields.specs.Sums.{sums_of}
use Rattle.fields.proofs.given_days.sum_days.Given as goal

abbrev pub invariant-loop-rates : goal.invariant-loop-rates
invariant-loop-rates g l = record {
  count : within 1 70 (length l.held) ≡ true;
  right : right_all (day g.F.RateForm.WIDTH) (take l.rates-index l.held) ≡ true;
  sums : l.sums ≡ sums_of (take l.rates-index l.held);
}
