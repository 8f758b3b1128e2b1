-- After i turns of `place_of` the first i days are right, and summed. The place is the one that the window tells.
use Rattle.std.proofs.Common.{◌≡◌, true}
use Rattle.model.specs.Fields.{right_all}
use Rattle.model.specs.Layout.{day}
use Rattle.rollingmodel.specs.Rolling.{sums_of}
use Rattle.rolling.specs.inner.Sums.{first_days}
use Rattle.rolling.proofs.place_of.Given as goal

abbrev pub invariant-loop-i : goal.invariant-loop-i
invariant-loop-i l = record {
  count : l.place.count ≡ l.w.count;
  start : l.place.start ≡ l.w.start;
  right : right_all (day 2) (first_days l.w l.i) ≡ true;
  sums : l.sums ≡ sums_of (first_days l.w l.i);
}
