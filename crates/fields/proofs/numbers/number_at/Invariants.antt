-- After i turns of `number_at` the first i bytes are read.
use Rattle.std.proofs.Common.{◌≡◌, ◌<◌, ◌^◌}
use Rattle.model.specs.Numbers.{number}
use Rattle.fields.proofs.numbers.number_at.Given as goal

abbrev pub invariant-loop-i : goal.invariant-loop-i
invariant-loop-i l = record {
  value : l.v ≡ number l.file l.at l.i;
  small : l.v < 256 ^ l.i;
}
