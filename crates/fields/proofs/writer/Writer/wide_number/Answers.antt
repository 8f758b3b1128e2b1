-- `wide_number`: a zero more, and then the 8 bytes. The check leaves each of these goals open without its answer.
use Rattle.std.proofs.Common.{◌≡◌, ◌∙◌, ◌+◌, arith}
use Rattle.model.specs.Numbers.{bytes_of}
use Rattle.theory.proofs.acceptance.Encoding.{length-bytes}
use Rattle.fields.proofs.Bytes.{high-bytes, zero-more, zeros-first}
use Rattle.fields.proofs.Written.{nothing, then, as-text}
use Rattle.fields.proofs.writer.Writer.wide_number.Goals as goal

pub loop-init : goal.loop-init
unfolding bytes_of
loop-init c = nothing c.args.self.now

pub put-requires : goal.put-requires
put-requires c = let p = c.loop.invariant in omega (arith, length-bytes c.loop.counter 0, p.place, p.long, c.requires.room)

pub loop-preserved : goal.loop-preserved
loop-preserved c = as-text (zero-more c.loop.counter) (then c.loop.invariant c.put.ensures)

pub put-requires-2 : goal.put-requires-2
put-requires-2 c = let p = c.loop.invariant in omega (arith, length-bytes c.loop.counter 0, p.place, p.long, c.requires.room)

pub returns : goal.returns
returns c =
    let a = c.args in
    let all : a.width ≡ c.loop.counter + 8 = omega arith in
    let low = as-text (c.to_be_bytes.ensures ∙ high-bytes 8 a.v) c.put-2.ensures in
    as-text (zeros-first c.loop.counter 8 a.width a.v all c.ranges.v.fits) (then c.loop.invariant low)
