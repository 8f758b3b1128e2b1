-- `read_front`: the bytes that were read are the first of the input. The check leaves this goal open without its answer.
use Rattle.std.proofs.Common.{rules, ◌∙◌, ◌<◌, length}
use Rattle.std.specs.Io.KnownBytes.{IsAtEnd}
use Rattle.batch.specs.Input.{LosesFront}
use Rattle.report.proofs.FirstBytes.{at-front}
use Rattle.report.proofs.input.read_front.Goals as goal

pub returns-clause-front : goal.returns-clause-front
returns-clause-front g c =
    let left = g.R.Read.remaining c.read_full.new.input in
    let read : LosesFront (g.R.Read.remaining c.args.input.now) left c.read_full.new.buf c.in_ok-count.count = search rules in
    let end : (c.in_ok-count.count < length c.read_full.new.buf → IsAtEnd left) = search rules in
    let long = c.read_full.auto.buf ∙ c.requires in
    at-front (g.R.Read.remaining c.args.input.now) left c.in_ok-count.count c.read_full.new.buf long read.within read.lost end
