-- `numbers::big_endian` meets its contract: a byte more is a digit more. The check leaves each of these goals open without its answer.
use Rattle.std.proofs.Common.{arith, sym}
use Rattle.fields.proofs.Digits.{number-none, number-next, digit, digits-leave-room}
use Rattle.fields.proofs.numbers.big_endian.Goals as goal

pub loop-b-init : goal.loop-b-init
loop-b-init c = record { value = sym (number-none _ _); small = omega arith }

pub overflow_mul-v : goal.overflow_mul-v
overflow_mul-v c = let l = c.loop-b in omega (arith, digits-leave-room l.b-index l.invariant.small (omega arith))

pub loop-b-preserved : goal.loop-b-preserved
loop-b-preserved c =
    let l = c.loop-b in record {
      value = rw (number-next, ← l.invariant.value);
      small = digit l.b-index l.invariant.small (omega arith);
    }
