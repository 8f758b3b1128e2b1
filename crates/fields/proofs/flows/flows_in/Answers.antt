-- `field::flows_in` meets its contract: a turn reads one flow more. The check leaves each of these goals open without its answer.
use Rattle.std.proofs.Common.{◌≡◌, ◌∙◌, ◌/◌, ◌++◌, [], ◌∷◌, leb, length, ap, sym, arith}
use native.Mathlib.Numerals.{add-one}
use Rattle.refusal.specs.declared.Refusal.TheVariants.{Flow}
use Rattle.model.specs.Fields.{value_all}
use Rattle.model.specs.Layout.{flow}
use Rattle.model.specs.Refusals.{failing}
use Rattle.theory.proofs.acceptance.Runs.{values-last, values_length}
use Rattle.fields.proofs.Digits.{chunk-whole}
use Rattle.fields.proofs.Failing.{check-held, check-failed}
use Rattle.fields.proofs.Runs.{at_most, right-next, not-right}
use Rattle.fields.proofs.Steps.{refused}
use Rattle.fields.proofs.flows.flows_in.Goals as goal

pub push-requires : goal.push-requires
push-requires g c =
    let l = c.loop-chunk in
    let read : length l.flows ≡ l.chunk-index = ap length l.invariant.held ∙ values_length flow c.args.bytes.now 0 l.chunk-index in
    (omega arith, omega arith)

pub loop-chunk-preserved : goal.loop-chunk-preserved
loop-chunk-preserved g c =
    let l = c.loop-chunk in
    let file = c.args.bytes.now in
    let is = c.big_endian-flow.ensures.0 ∙ chunk-whole 4 _ file l.chunk-index [] c.as_chunks.ensures.front (omega arith) c.loop-chunk-test.true in
    let next = c.push.ensures ∙ ap (λ xs. xs ++ c.big_endian-flow.result ∷ []) l.invariant.held
    ∙ ap (λ v. value_all flow file 0 l.chunk-index ++ v ∷ []) is ∙ sym (values-last flow file 0 l.chunk-index)
    ∙ ap (value_all flow file 0) (sym (add-one l.chunk-index)) in
    let right = check-held _ _ c.in_ok-check.ensures.checked.0 in
    record {
      held = next;
      right = right-next flow file 0 l.chunk-index l.invariant.right (sym (at_most 100000000 _) ∙ ap (λ v. leb v 100000000) (sym is) ∙ right);
    }

pub returns-in_err-check : goal.returns-in_err-check
returns-in_err-check g c =
    let l = c.loop-chunk in
    let is = c.big_endian-flow.ensures.0 ∙ chunk-whole 4 _ c.args.bytes.now l.chunk-index [] c.as_chunks.ensures.front (omega arith) c.loop-chunk-test.true in
    let wrong = check-failed _ _ c.in_err-check.ensures.checked in
    let all = not-right flow c.args.bytes.now 0 (length c.args.bytes.now / 4) l.chunk-index (omega arith)
    (sym (at_most 100000000 _) ∙ ap (λ v. leb v 100000000) (sym is) ∙ wrong) in
    rw (refused _ _ c.from_residual.ensures) (c.in_err-check.ensures.checked ∙ ap (λ b. failing ((b, Flow) ∷ [])) (wrong ∙ sym all))
