-- `days::sum_days` meets its contract: a turn adds a day. The check leaves each of these goals open without its answer.
-- Each goal stands at a place of its own, with names of its own, so what they share is told in each.
use Rattle.std.proofs.Common.{◌≡◌, ◌∙◌, ◌+◌, ◌*◌, [], ◌∷◌, drop, length, refl, ap, sym, arith}
use Rattle.std.proofs.lemmas.List.{length_push}
use Rattle.refusal.specs.declared.Refusal.TheVariants.{Rate}
use Rattle.model.specs.Fields.{value_all, right_all}
use Rattle.model.specs.Layout.{daily_rate, day}
use Rattle.model.specs.Refusals.{failing}
use Rattle.theory.proofs.acceptance.Runs.{values_length}
use Rattle.fields.specs.Sums.{added}
use Rattle.fields.proofs.DaySums.{sums-next, sums-room, day-right, turn-rates, turn-left, turn-within, all-days, no-sums}
use Rattle.fields.proofs.Failing.{check-held, check-failed}
use Rattle.fields.proofs.Runs.{right-next, not-right}
use Rattle.fields.proofs.Steps.{refused}
use Rattle.fields.proofs.days.sum_days.Goals as goal

pub loop-day-init : goal.loop-day-init
loop-day-init g c =
    let chunks = c.chunks_exact-day-items.ensures in
    let same = c.into_iter-day-iterator.ensures.into_iter_gives in
    let none : 0 ≡ g.F.RateForm.WIDTH * 60 * 0 = omega arith in
    record {
      size = rw same (chunks.size ∙ ap (λ w. w * 60) c.WIDTH.ensures);
      left = rw same chunks.rest ∙ ap (λ n. drop n c.args.rates.now) none;
      within = omega arith;
      right = refl;
      held = sym no-sums;
    }

pub add_day-requires-clause-room : goal.add_day-requires-clause-room
add_day-requires-clause-room g c =
    let w = g.F.RateForm.WIDTH in
    let l = c.loop-day.invariant in
    let rates = c.args.rates.now in
    let d = length c.loop-day.yielded in
    let (size, (is, long), remainder) = c.in-Some.ensures.steps in
    let less = turn-within w rates _ _ d (sym l.left ∙ is) (long ∙ l.size) g.met.F.RateForm.known in
    rw l.held (sums-room w 254 (value_all (day w) rates 0 d) l.right (omega (arith, less, c.requires, values_length (day w) rates 0 d)))

pub loop-day-preserved : goal.loop-day-preserved
loop-day-preserved g c =
    let w = g.F.RateForm.WIDTH in
    let l = c.loop-day.invariant in
    let rates = c.args.rates.now in
    let d = length c.loop-day.yielded in
    let (size, (is, long), remainder) = c.in-Some.ensures.steps in
    let here = sym l.left ∙ is in
    let whole = long ∙ l.size in
    let read = turn-rates w rates _ _ d here whole in
    let h = c.in_ok-add_day.ensures in
    rw (length_push c.loop-day.yielded c.in-Some.day) (record {
      size = size ∙ l.size;
      left = turn-left w rates _ _ d here whole;
      within = omega (arith, turn-within w rates _ _ d here whole g.met.F.RateForm.known);
      right = right-next (day w) rates 0 d l.right (day-right w rates (0 + w * 60 * d) ∙ ap (right_all (daily_rate w)) (sym read) ∙ check-held _ _ h.0);
      held = h.1 ∙ ap (added c.loop-day.sums) read ∙ ap (λ ss. added ss (value_all (daily_rate w) rates (0 + w * 60 * d) 60)) l.held ∙ sums-next w rates d;
    })

pub returns-in_err-add_day : goal.returns-in_err-add_day
returns-in_err-add_day g c =
    let w = g.F.RateForm.WIDTH in
    let l = c.loop-day.invariant in
    let rates = c.args.rates.now in
    let d = length c.loop-day.yielded in
    let (size, (is, long), remainder) = c.in-Some.ensures.steps in
    let here = sym l.left ∙ is in
    let whole = long ∙ l.size in
    let read = turn-rates w rates _ _ d here whole in
    let wrong = check-failed _ _ c.in_err-add_day.ensures in
    let all = not-right (day w) rates 0 _ d (turn-within w rates _ _ d here whole g.met.F.RateForm.known)
    (day-right w rates (0 + w * 60 * d) ∙ ap (right_all (daily_rate w)) (sym read) ∙ wrong) in
    rw (refused _ _ c.from_residual.ensures) (c.in_err-add_day.ensures ∙ ap (λ b. failing ((b, Rate) ∷ [])) (wrong ∙ sym all))

pub returns : goal.returns
returns g c =
    let w = g.F.RateForm.WIDTH in
    let l = c.loop-day.invariant in
    let (size, (short, same), remainder) = c.in-None.ensures.steps in
    let all = all-days w c.args.rates.now _ g.met.F.RateForm.known l.within (rw (← l.left, ← l.size) short) in
    (ap (λ b. failing ((b, Rate) ∷ [])) (rw all at l.right), rw all at l.held)
