-- `days::add_day` meets its contract: a turn tests a rate more, and adds it. The check leaves each of these goals open without its answer.
-- Each goal stands at a place of its own, with names of its own, so what they share is told in each.
use Rattle.std.proofs.Common.{◌≡◌, ◌∙◌, ◌<◌, [], ◌∷◌, length, get_or, ap, sym, refl, arith, rules, pos, ◌+ℤ◌, FitsSigned, w32}
use mathlib.Core.Path.{ap₂}
use Rattle.refusal.specs.declared.Refusal.TheVariants.{Rate}
use Rattle.model.specs.Layout.{daily_rate}
use Rattle.model.specs.Numbers.{table}
use Rattle.model.specs.Refusals.{failing}
use Rattle.theory.proofs.acceptance.Runs.{values-table}
use Rattle.theory.proofs.general.Lists.{table_filled, all-filled, table_same, get_or-table}
use Rattle.fields.proofs.Failing.{check-held, check-failed}
use Rattle.fields.proofs.Runs.{right-next, not-right}
use Rattle.fields.proofs.Steps.{refused}
use Rattle.fields.proofs.DayRates.{turn-rate, passed, rate-small, sum-fits, sum-is, entry_kept}
use Rattle.fields.proofs.days.add_day.Goals as goal

pub loop-t-init : goal.loop-t-init
unfolding table
loop-t-init g c = record { right = refl; held = refl }

pub loop-t-preserved : goal.loop-t-preserved
loop-t-preserved g c =
    let w = g.F.RateForm.WIDTH in
    let l = c.loop-t in
    let day = c.args.day.now in
    let held = c.args.sums.now in
    let is = c.rate_of-rate.ensures ∙ turn-rate day l.t c.WIDTH-width.ensures in
    let fits : FitsSigned w32 c.rate_of-rate.result = search rules in
    let given = passed _ fits in
    let within = sym (c.is_rate.ensures ∙ ap (daily_rate w).right given) ∙ check-held _ _ c.in_ok-check.ensures.checked.0 in
    let here : l.t < length held = omega arith in
    let old = entry_kept _ held l.sums l.t here l.invariant.held in
    let room = rw (← old) at (c.requires.room.each l.t (omega arith)) in
    let rate = c.from.ensures ∙ given in
    let sum = sum-is _ _ room (rw rate (rate-small w _ within)) ∙ ap₂ (λ s r. s +ℤ r) old (rate ∙ is) in
    record {
      right = right-next (daily_rate w) day 0 l.t l.invariant.right (sym (ap (daily_rate w).right is) ∙ within);
      held = table_filled _ held l.sums l.t _ here sum l.invariant.held;
    }

pub returns-in_err-check : goal.returns-in_err-check
returns-in_err-check g c =
    let w = g.F.RateForm.WIDTH in
    let l = c.loop-t in
    let day = c.args.day.now in
    let is = c.rate_of-rate.ensures ∙ turn-rate day l.t c.WIDTH-width.ensures in
    let fits : FitsSigned w32 c.rate_of-rate.result = search rules in
    let wrong = check-failed _ _ c.in_err-check.ensures.checked in
    let all = not-right (daily_rate w) day 0 60 l.t (omega arith)
    (sym (ap (daily_rate w).right is) ∙ sym (c.is_rate.ensures ∙ ap (daily_rate w).right (passed _ fits)) ∙ wrong) in
    rw (refused _ _ c.from_residual.ensures) (c.in_err-check.ensures.checked ∙ ap (λ b. failing ((b, Rate) ∷ [])) (wrong ∙ sym all))

pub overflow_add-sum : goal.overflow_add-sum
overflow_add-sum g c =
    let w = g.F.RateForm.WIDTH in
    let l = c.loop-t in
    let held = c.args.sums.now in
    let fits : FitsSigned w32 c.rate_of-rate.result = search rules in
    let given = passed _ fits in
    let within = sym (c.is_rate.ensures ∙ ap (daily_rate w).right given) ∙ check-held _ _ c.in_ok-check.ensures.checked.0 in
    let old = entry_kept _ held l.sums l.t (omega arith) l.invariant.held in
    let room = rw (← old) at (c.requires.room.each l.t (omega arith)) in
    let small = rw (← (c.from.ensures ∙ given)) at (rate-small w c.rate_of-rate.result within) in
    sum-fits _ _ room small

pub returns : goal.returns
returns g c =
    let w = g.F.RateForm.WIDTH in
    let l = c.loop-t in
    let day = c.args.day.now in
    let held = c.args.sums.now in
    let all : l.t ≡ 60 = omega arith in
    let whole : l.t ≡ length held = omega (arith, c.told-sums) in
    let rate = daily_rate w in (
      ap (λ b. failing ((b, Rate) ∷ [])) (rw all at l.invariant.right),
      all-filled held l.sums _ l.t whole l.invariant.held ∙ ap (table _) all
          ∙ table_same _ _ 60 (λ i k. ap (λ r. get_or held i (pos 0) +ℤ r) (sym (ap (λ rs. get_or rs i (pos 0)) (values-table rate day 0 60) ∙ get_or-table _ 60 i (pos 0) k))),
    )
