-- `tell_input`: what is told of the bytes that were read is told of the whole input, and promised of it. The check leaves each of these goals
-- open without its answer.
use Rattle.std.proofs.Common.{take}
use Rattle.report.proofs.Decided.{told_of_all, promised_of_all}
use Rattle.report.proofs.input.tell_input.Goals as goal

pub returns-clause-told : goal.returns-clause-told
returns-clause-told g c =
    told_of_all c.args.history (take c.in_ok-count.count c.read_front.new.file) (g.R.Read.remaining c.args.input.now) _
    c.in_ok-count.ensures.front c.value_file.ensures.value c.numbers_of.ensures

pub returns-clause-call : goal.returns-clause-call
returns-clause-call g c =
    promised_of_all c.args.history (take c.in_ok-count.count c.read_front.new.file) (g.R.Read.remaining c.args.input.now) _
    c.in_ok-count.ensures.front c.value_file.ensures.value c.value_file.ensures.call
