-- `Cursor::counted` meets its contract: its count byte, the count, the rest of its length.
-- The check leaves each of these goals open without its answer.
-- Each goal stands at a place of its own, with names of its own, so what they share is told in each.
use Rattle.std.proofs.Common.{◌≡◌, ◌∙◌, ◌+◌, ◌*◌, [], ◌∷◌, ap, sym, rules}
use Rattle.refusal.specs.declared.Refusal.TheVariants.{EndsEarly}
use Rattle.model.specs.Fields.{within}
use Rattle.model.specs.Refusals.{failing}
use Rattle.fields.proofs.Failing.{check-held}
use Rattle.theory.proofs.acceptance.Encoding.{number-one}
use Rattle.fields.proofs.Counted.{not-few, whole-last, within-both, part-moved, moved-on, reaches-moved}
use Rattle.fields.proofs.Steps.{refused}
use Rattle.fields.proofs.cursor.Cursor.counted.Goals as goal

pub returns-in_err-check : goal.returns-in_err-check
returns-in_err-check c =
    let a = c.args in
    let (byte, (is, small, moved)) = c.in_ok-count.ensures in
    let few-is : c.contains.result ≡ within 1 c.args.most c.in_ok-count.count = search rules in
    let few = c.in_err-check.ensures.checked ∙ ap (λ b. failing ((b, c.args.refusal) ∷ [])) few-is in
    rw (refused _ _ c.from_residual-in_err-check.ensures) (not-few a.most a.size a.refusal a.self.now.file.now a.self.now.at c.in_ok-count.count (is ∙ number-one _ _) c.in_err-check.field-0.0 byte few)

pub returns-in_err-take : goal.returns-in_err-take
returns-in_err-take c =
    let a = c.args in
    let (byte, (is, small, moved)) = c.in_ok-count.ensures in
    let few-is : c.contains.result ≡ within 1 c.args.most c.in_ok-count.count = search rules in
    let few = ap (λ b. failing ((b, c.args.refusal) ∷ [])) (sym few-is) ∙ c.in_ok-check.ensures.checked.0 in
    let whole = c.in_err-take.ensures ∙ ap (λ b. failing ((b, EndsEarly) ∷ [])) (reaches-moved _ moved) in
    rw (refused _ _ c.from_residual-in_err-take.ensures) (whole-last a.most a.size a.refusal a.self.now.file.now a.self.now.at c.in_ok-count.count (is ∙ number-one _ _) byte few whole)

pub returns : goal.returns
returns c =
    let a = c.args in
    let (byte, (is, small, moved)) = c.in_ok-count.ensures in
    let few-is : c.contains.result ≡ within 1 c.args.most c.in_ok-count.count = search rules in
    let count = is ∙ number-one _ _ in
    let few = ap (λ b. failing ((b, c.args.refusal) ∷ [])) (sym few-is) ∙ c.in_ok-check.ensures.checked.0 in
    let (reached, (part, last)) = c.in_ok-take.ensures in
    let whole = sym reached ∙ ap (λ b. failing ((b, EndsEarly) ∷ [])) (reaches-moved _ moved) in
    let limits = within-both _ _ _ (check-held _ _ few) in (
      sym (whole-last a.most a.size a.refusal a.self.now.file.now a.self.now.at c.in_ok-count.count count byte few whole),
      (count, limits.0, limits.1, part-moved moved part, moved-on _ moved last (ap (λ n. c.args.self.now.at + 1 + c.args.size * n) count)),
    )
