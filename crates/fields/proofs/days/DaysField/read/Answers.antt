-- `field::read_days` meets its contract: the count and the length, and then each rate.
-- The check leaves each of these goals open without its answer.
-- Each goal stands at a place of its own, with names of its own, so what they share is told in each.
use Rattle.std.proofs.Common.{◌∙◌, ◌*◌, ◌+◌, ◌/◌, get_or, length, [], ◌∷◌, ap, refl, sym}
use mathlib.Core.Path.{ap₂}
use Rattle.refusal.specs.declared.Refusal.TheVariants.{DayCount, Rate}
use Rattle.model.specs.Fields.{right_all, value_all}
use Rattle.model.specs.Layout.{day}
use Rattle.model.specs.Refusals.{failing}
use Rattle.theory.proofs.acceptance.Runs.{values_length}
use Rattle.fields.specs.Checks.{count_checks}
use Rattle.fields.specs.Sums.{sums_of}
use Rattle.fields.proofs.DaySums.{days-whole, whole-days, sums-bounded, few-steps, few-units}
use Rattle.fields.proofs.Failing.{check-held}
use Rattle.fields.proofs.Steps.{go, refused}
use Rattle.fields.proofs.days.DaysField.read.Goals as goal

pub returns-in_err-sum_days : goal.returns-in_err-sum_days
returns-in_err-sum_days g c =
    let w = g.F.RateForm.WIDTH in
    let cursor = c.args.cursor.now in
    let (none, (is, some, few, part, moved)) = rw c.WIDTH.ensures at c.in_ok-count.ensures in
    let counted = whole-days w _ _ g.met.F.RateForm.known part.whole in
    let ds = days-whole w _ cursor.file.now (cursor.at + 1) _ counted part.bytes ∙ ap (value_all (day w) _ _) is in
    rw (refused _ _ c.from_residual-in_err-sum_days.ensures)
    (go (count_checks 70 DayCount (w * 60) cursor.file.now cursor.at) ((right_all (day w) (value_all (day w) cursor.file.now (cursor.at + 1) (get_or cursor.file.now cursor.at 0)), Rate) ∷ []) none (c.in_err-sum_days.ensures ∙ ap (λ xs. failing ((right_all (day w) xs, Rate) ∷ [])) ds))

pub invariant_of-summed : goal.invariant_of-summed
invariant_of-summed g c =
    let w = g.F.RateForm.WIDTH in
    let (none, (is, some, few, part, moved)) = rw c.WIDTH.ensures at c.in_ok-count.ensures in
    let (right, sums) = c.in_ok-sum_days.ensures in
    let u = c.UNITS_PER_STEP.ensures ∙ g.met.F.RateForm.units in
    let counted = whole-days w _ _ g.met.F.RateForm.known part.whole in
    let ds = value_all (day w) c.in_ok-count.rates.now 0 (length c.in_ok-count.rates.now / (w * 60)) in
    record {
      few = few-steps _ _ (rw u (few-units w)) few;
      bounded = sums-bounded w _ ds _ (check-held _ _ right) sums
          (ap₂ (λ a n. a * n) u (sym (values_length (day w) c.in_ok-count.rates.now 0 _ ∙ counted)));
    }

pub returns : goal.returns
returns g c =
    let w = g.F.RateForm.WIDTH in
    let cursor = c.args.cursor.now in
    let (none, (is, some, few, part, moved)) = rw c.WIDTH.ensures at c.in_ok-count.ensures in
    let (right, sums) = c.in_ok-sum_days.ensures in
    let u = c.UNITS_PER_STEP.ensures ∙ g.met.F.RateForm.units in
    let counted = whole-days w _ _ g.met.F.RateForm.known part.whole in
    let ds = days-whole w _ cursor.file.now (cursor.at + 1) _ counted part.bytes ∙ ap (value_all (day w) _ _) is in
    let long = is ∙ sym (values_length (day w) cursor.file.now (cursor.at + 1) _) in (
      sym (go (count_checks 70 DayCount (w * 60) cursor.file.now cursor.at) ((right_all (day w) (value_all (day w) cursor.file.now (cursor.at + 1) (get_or cursor.file.now cursor.at 0)), Rate) ∷ []) none (sym right ∙ ap (λ xs. failing ((right_all (day w) xs, Rate) ∷ [])) ds)),
      (record { sums = record { step = ap₂ (λ a n. a * n) u long; terms = sums ∙ ap sums_of ds }; place = refl; part = rw (← long) part }, moved),
    )
