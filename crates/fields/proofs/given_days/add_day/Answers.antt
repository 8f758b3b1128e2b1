-- `add_day`: a rate more, and at the end all are looked at and added. The check leaves each of these goals open without its answer.
use Rattle.std.proofs.Common.{FitsSigned, ◌≡◌, ◌∙◌, ◌&&◌, add-one, ap, arith, get_or, pos, refl, rules, sym, take, w32, ℕ}
use Rattle.std.proofs.lemmas.Int.{ints, to_z-of_z}
use mathlib.Core.Path.{ap₂}
use Rattle.model.specs.Fields.{right_all}
use Rattle.model.specs.Layout.{daily_rate}
use Rattle.theory.proofs.acceptance.Runs.{right-front}
use Rattle.model.specs.Numbers.{table}
use Rattle.theory.proofs.general.Lists.{table_filled}
use Rattle.fields.proofs.DayRates.{entry_kept}
use Rattle.fields.proofs.given_days.add_day.Goals as goal

pub loop-t-init : goal.loop-t-init
unfolding table
loop-t-init g c = record { right = refl; sums = refl }

pub overflow_add-sum : goal.overflow_add-sum
overflow_add-sum g c =
    let l = c.loop-t in
    let kept = entry_kept _ c.args.sums.now l.sums l.t (omega arith) l.invariant.sums in
    let held = c.requires.each l.t (omega arith) in
    let rate = get_or c.args.rates.now l.t (pos 0) in
    let fits : FitsSigned w32 rate = search rules in
    omega (arith, ints, held.least, held.most)

pub loop-t-preserved : goal.loop-t-preserved
loop-t-preserved g c =
    let l = c.loop-t in
    let kept = entry_kept _ c.args.sums.now l.sums l.t (omega arith) l.invariant.sums in
    let held = c.requires.each l.t (omega arith) in
    let x = daily_rate g.F.RateForm.WIDTH in
    let rates = c.args.rates.now in
    let rate = get_or rates l.t (pos 0) in
    let fits : FitsSigned w32 rate = search rules in
    let seen : c.is_rate-right.result ≡ x.right rate = rw (to_z-of_z w32 rate fits) at c.is_rate-right.ensures in
    record {
      right = ap₂ ◌&&◌ l.invariant.right seen ∙ sym (ap (λ (n : ℕ). right_all x (take n rates)) (add-one l.t) ∙ right-front x rates l.t (pos 0) (omega arith));
      sums = table_filled _ c.args.sums.now l.sums l.t _ (omega arith) (omega (arith, ints, held.least, held.most)) l.invariant.sums;
    }
