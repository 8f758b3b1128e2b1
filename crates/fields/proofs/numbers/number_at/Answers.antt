-- `numbers::number_at` meets its contract: a byte more is a digit more. The check leaves each of these goals open without its answer.
use Rattle.std.proofs.Common.{◌≡◌, arith, sym}
use Rattle.fields.proofs.Digits.{number-none, number-next-at, digit, digits-leave-room}
use Rattle.fields.proofs.numbers.number_at.Goals as goal

pub loop-i-init : goal.loop-i-init
loop-i-init c = record { value = sym (number-none _ _); small = omega arith }

pub overflow_mul-v : goal.overflow_mul-v
overflow_mul-v c = let l = c.loop-i in omega (arith, digits-leave-room l.i l.invariant.small (omega arith))

pub overflow_add-v : goal.overflow_add-v
overflow_add-v c = let l = c.loop-i in omega (arith, digits-leave-room l.i l.invariant.small (omega arith))

pub loop-i-preserved : goal.loop-i-preserved
loop-i-preserved c =
    let l = c.loop-i in
    let b = c.byte_in.ensures in record {
      value = rw (number-next-at, ← l.invariant.value, ← b.0);
      small = digit l.i l.invariant.small b.1;
    }

pub returns : goal.returns
returns c =
    let all : c.loop-i.i ≡ c.args.width = omega arith in
    (rw all at c.loop-i.invariant.value, rw all at c.loop-i.invariant.small)
