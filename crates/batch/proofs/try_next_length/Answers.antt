-- `try_next_length`: the four bytes that were read are a length.
-- The check leaves each of these goals open without its answer.
use Rattle.std.proofs.Common.{◌≡◌, ◌∙◌, List, ℕ, take, arith}
use lib.Seq.{take_all}
use Rattle.std.specs.Int.{from_be_bytes, w32}
use Rattle.model.specs.Numbers.{number}
use Rattle.batch.proofs.try_next_length.Goals as goal

four-bytes : (bytes : List ℕ) → from_be_bytes w32 bytes ≡ number bytes 0 4
unfolding number
four-bytes bytes = omega arith

pub returns-clause-length : goal.returns-clause-length
returns-clause-length g c =
    let head = c.read_full.new.buf in
    let n = c.in_ok-n.n in
    let read = c.in_ok-n.ensures.bytes in
    let whole : take n head ≡ head = take_all n head (omega (arith, read.within, c.if-n-lt4.false)) in (
      omega arith,
      record {
        head = head;
        four = omega arith;
        lost = rw whole at read.lost;
        told = c.from_be_bytes.ensures ∙ four-bytes head;
      },
    )
