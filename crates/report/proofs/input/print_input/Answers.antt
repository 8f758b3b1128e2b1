-- `print_input`: what is printed of the bytes that were read, and the status, are those of the whole input, and so is what is promised of it. The check leaves each of these
-- goals open without its answer.
use Rattle.std.proofs.Common.{rules, ◌≡◌, take}
use Rattle.std.specs.Io.KnownBytes.{Appends}
use Rattle.method.specs.Listing.{listing}
use Rattle.refusal.specs.Numbered.{answer_of}
use Rattle.report.specs.Valued.{valuation_with, IsFront, ended}
use Rattle.report.proofs.Decided.{printed_of_all, status_of_all, promised_of_all}
use Rattle.report.proofs.input.print_input.Goals as goal

pub returns-in-Ok-clause-printed : goal.returns-in-Ok-clause-printed
returns-in-Ok-clause-printed g c =
    let input = g.R.Read.remaining c.args.input.now in
    let file = take c.in_ok-count.count c.read_front.new.file in
    let front : IsFront input file = search rules in
    let before = g.W.Write.contents c.args.out.now in
    let after = g.W.Write.contents c.print.new.out in
    let appended : Appends before after (listing (answer_of (valuation_with c.args.history file))) = search rules in
    printed_of_all c.args.history file input before after front appended

pub returns-in-Ok-clause-status : goal.returns-in-Ok-clause-status
returns-in-Ok-clause-status g c =
    let input = g.R.Read.remaining c.args.input.now in
    let file = take c.in_ok-count.count c.read_front.new.file in
    let front : IsFront input file = search rules in
    let status : c.from.result ≡ ended (valuation_with c.args.history file) = search rules in
    status_of_all c.args.history file input c.from.result front status

pub returns-in-Ok-clause-call : goal.returns-in-Ok-clause-call
returns-in-Ok-clause-call g c =
    let input = g.R.Read.remaining c.args.input.now in
    let file = take c.in_ok-count.count c.read_front.new.file in
    let front : IsFront input file = search rules in
    promised_of_all c.args.history file input c.value_file-valuation.result front c.value_file-valuation.ensures.value c.value_file-valuation.ensures.call
