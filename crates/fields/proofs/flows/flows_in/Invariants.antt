-- After i turns of `flows_in` the first i flows are read, and each is within its limit.
use Rattle.std.proofs.Common.{◌≡◌, true}
use Rattle.model.specs.Fields.{value_all, right_all}
use Rattle.model.specs.Layout.{flow}
use Rattle.fields.proofs.flows.flows_in.Given as goal

abbrev pub invariant-loop-chunk : goal.invariant-loop-chunk
invariant-loop-chunk g l = record {
  held : l.flows ≡ value_all flow l.bytes 0 l.chunk-index;
  right : right_all flow (value_all flow l.bytes 0 l.chunk-index) ≡ true;
}
