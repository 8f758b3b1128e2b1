-- The total is the worth of the flows so far, of which each adds at most 340,000,000 euros.
use Rattle.std.proofs.Common.{◌≡◌, ◌*◌, ◌^◌, length}
use Rattle.arith.specs.inner.Range.{UpTo}
use Rattle.money.proofs.Flows.{worth_to}
use Rattle.money.proofs.worth.worth_of.Given as goal

abbrev pub invariant-loop-euros : goal.invariant-loop-euros
invariant-loop-euros l = record {
  total : l.total ≡ worth_to l.flows l.factors (length l.yielded);
  most : UpTo (34 * 10 ^ 9 * length l.yielded) l.total;
}
