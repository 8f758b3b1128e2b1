-- `days_in`: the chunks of 60 rates are the days, and a list with some rates more has none.
-- The check leaves each of these goals open without its answer.
use Rattle.std.proofs.Common.{◌∙◌, length, sym}
use borrow.Author.Tests.{eqb-true, eqb-false}
use Rattle.fields.proofs.DaysOf.{all-days, no-days}
use Rattle.fields.proofs.given_days.days_in.Goals as goal

pub returns-then-is_empty : goal.returns-then-is_empty
returns-then-is_empty c =
    let h = c.as_chunks.ensures in
    let none = eqb-true (length c.as_chunks.result.1.now) 0 (sym c.is_empty.ensures ∙ c.if-is_empty.true) in
    all-days c.args.rates.now h.front (sym h.back_len ∙ none)

pub returns-else-is_empty : goal.returns-else-is_empty
returns-else-is_empty c =
    let some = eqb-false (length c.as_chunks.result.1.now) 0 (sym c.is_empty.ensures ∙ c.if-is_empty.false) in
    no-days c.args.rates.now (λ e. some (c.as_chunks.ensures.back_len ∙ e))
