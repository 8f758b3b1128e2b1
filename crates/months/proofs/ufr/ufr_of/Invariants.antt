-- After some turns that many months are right, and summed, and their sum is small.
use Rattle.std.proofs.Common.{◌≡◌, ◌*◌, true}
use Rattle.model.specs.Fields.{right_all}
use Rattle.monthsmodel.specs.Months.{month, total}
use Rattle.months.proofs.Means.{Small, first}
use Rattle.months.proofs.ufr.ufr_of.Given as goal

abbrev pub invariant-loop-bytes : goal.invariant-loop-bytes
invariant-loop-bytes l = record {
  right : right_all month (first l.history l.bytes-index) ≡ true;
  sum : l.sum ≡ total (first l.history l.bytes-index);
  small : Small (10000 * l.bytes-index) l.sum;
}
