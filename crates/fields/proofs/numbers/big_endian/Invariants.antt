-- After i turns of `big_endian` the first i bytes are read.
use Rattle.std.proofs.Common.{◌≡◌, ◌<◌, ◌^◌}
use Rattle.model.specs.Numbers.{number}
use Rattle.fields.proofs.numbers.big_endian.Given as goal

abbrev pub invariant-loop-b : goal.invariant-loop-b
invariant-loop-b l = record {
  value : l.v ≡ number l.bytes 0 l.b-index;
  small : l.v < 256 ^ l.b-index;
}
