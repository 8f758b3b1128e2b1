-- `sum_days`: a count out of its limits, a day that is not right, a right day more, and at the end all are summed.
-- The check leaves each of these goals open without its answer.
use Rattle.std.specs.Cmp.{second_so}
use Rattle.std.proofs.Common.{◌≡◌, ◌∙◌, ◌≤◌, Bool, List, Some, ℤ, [], ◌∷◌, ap, arith, cond, get_or, length, refl, sym, take, true}
use Rattle.std.proofs.lemmas.Result.{err_from_is_err_and}
use borrow.Author.Tests.{leb-true}
use lib.Dec.{leb}
use lib.Seq.{length-take-le}
use Rattle.refusal.specs.declared.Refusal.TheVariants.{DayCount, Rate}
use Rattle.model.specs.Fields.{Check, right_all}
use Rattle.model.specs.Layout.{day}
use Rattle.fields.specs.Sums.{added}
use Rattle.fields.proofs.DaySums.{no-sums, sums-room}
use Rattle.fields.proofs.Failing.{check-held, check-failed}
use Rattle.theory.proofs.acceptance.Runs.{right-next, wrong-at}
use Rattle.model.specs.Refusals.{failing}
use Rattle.fields.proofs.Failing.{refused-at}
use Rattle.fields.proofs.RatesOf.{sums-front}
use Rattle.fields.proofs.given_days.sum_days.Goals as goal

pub loop-rates-init : goal.loop-rates-init
loop-rates-init g c = record {
  count = sym c.is_day_count.ensures ∙ check-held c.is_day_count.result DayCount c.in_ok-check.ensures.checked.0;
  right = refl;
  sums = sym no-sums;
}

pub add_day-requires : goal.add_day-requires
add_day-requires g c =
    let l = c.loop-rates in
    let n = length c.args.held.now in
    let few : n ≤ 70 = leb-true n 70 (second_so (leb 1 n) (leb n 70) l.invariant.count) in
    let front = take l.rates-index c.args.held.now in
    let less : length front ≤ 69 = omega (arith, length-take-le l.rates-index c.args.held.now (omega arith)) in
    rw l.invariant.sums (sums-room g.F.RateForm.WIDTH 69 front l.invariant.right less)

pub returns-in_err-check-2-clause-refusal : goal.returns-in_err-check-2-clause-refusal
returns-in_err-check-2-clause-refusal g c =
    let x = day g.F.RateForm.WIDTH in
    let ds = c.args.held.now in
    let i = c.loop-rates.rates-index in
    let p = err_from_is_err_and c.from_residual-in_err-check-2.result c.from_residual-in_err-check-2.ensures.1 in
    let seen = c.add_day.ensures.right in
    let failed = check-failed c.add_day.result Rate c.in_err-check-2.ensures.checked in
    let wrong = wrong-at x ds i [] (omega arith) (sym seen ∙ failed) in
    let behind : List Check = (right_all x ds, Rate) ∷ [] in
    rw (p.1, p.2)
    (refused-at c.add_day.result Rate [] c.in_err-check-2.ensures.checked (failed ∙ sym wrong)
    ∙ ap (λ (b : Bool). cond b (failing behind) (Some DayCount)) (sym c.loop-rates.invariant.count))

pub loop-rates-preserved : goal.loop-rates-preserved
loop-rates-preserved g c =
    let l = c.loop-rates in
    let x = day g.F.RateForm.WIDTH in
    let ds = c.args.held.now in
    let right : x.right (get_or ds l.rates-index []) ≡ true = sym c.add_day.ensures.right ∙ check-held c.add_day.result Rate c.in_ok-check-2.ensures.checked.0 in
    record {
      count = l.invariant.count;
      right = right-next x ds l.rates-index [] (omega arith) l.invariant.right right;
      sums = c.add_day.ensures.sums ∙ ap (λ (sums : List ℤ). added sums (get_or ds l.rates-index [])) l.invariant.sums ∙ sums-front ds l.rates-index (omega arith);
    }
