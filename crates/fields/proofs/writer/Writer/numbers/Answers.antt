-- `numbers`: a number more. The check leaves each of these goals open without its answer.
use Rattle.std.proofs.Common.{arith}
use Rattle.model.specs.Fields.{number_of}
use Rattle.theory.proofs.acceptance.Encoding.{length-bytes}
use Rattle.fields.proofs.Written.{room-next, one-more}
use Rattle.fields.proofs.writer.Writer.numbers.Goals as goal

pub number-requires : goal.number-requires
number-requires c =
    let w = c.args.width in
    let i = c.loop-v.v-index in record {
      room = room-next (number_of w 0 0) (length-bytes w) c.args.values.now i (omega arith) c.requires.room c.loop-v.invariant;
    }

pub loop-v-preserved : goal.loop-v-preserved
loop-v-preserved c =
    let w = c.args.width in
    one-more (number_of w 0 0) c.args.values.now c.loop-v.v-index 0 (omega arith) c.loop-v.invariant c.number.ensures
