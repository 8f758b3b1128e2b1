-- `forwards_within`: the limits of refusal 6, by the sums. The check leaves each of these goals open without its answer.
use Rattle.std.proofs.Common.{[], ◌∷◌, ◌*◌, ◌∙◌, ap, length, ℕ}
use Rattle.refusal.specs.declared.Refusal.TheVariants.{Forward}
use Rattle.model.specs.Numbers.{every}
use Rattle.model.specs.Refusals.{failing, forwards_right}
use Rattle.fields.proofs.DaySums.{few-steps, few-units, forwards-are, sums-bounded}
use Rattle.fields.specs.Sums.{forward_right}
use Rattle.fields.proofs.Failing.{refusal-of}
use Rattle.fields.proofs.RatesOf.{days-hold, few-days}
use Rattle.fields.proofs.given_days.forwards_within.Goals as goal

pub invariant_of-summed : goal.invariant_of-summed
invariant_of-summed g c =
    let w = g.F.RateForm.WIDTH in
    let ds = c.args.held.now in
    let step = ap (λ (k : ℕ). k * length ds) (c.UNITS_PER_STEP.ensures ∙ g.met.F.RateForm.units) in
    record {
      few = few-steps c.UNITS_PER_STEP.result (length ds) (rw (c.UNITS_PER_STEP.ensures, g.met.F.RateForm.units) (few-units w)) (few-days w ds c.requires.right);
      bounded = sums-bounded w (c.UNITS_PER_STEP.result * length ds) ds c.args.sums (days-hold w ds c.requires.right).1 c.requires.sums step;
    }

pub returns : goal.returns
returns g c =
    let w = g.F.RateForm.WIDTH in
    let ds = c.args.held.now in
    let step = ap (λ (k : ℕ). k * length ds) (c.UNITS_PER_STEP.ensures ∙ g.met.F.RateForm.units) in
    let six = forwards-are {w = w} record { step = step; terms = c.requires.sums } in
    refusal-of c.forwards_within.result ((every (forward_right (c.UNITS_PER_STEP.result * length ds) c.args.sums) 60, Forward) ∷ []) (λ _. Unit {0}) c.forwards_within.ensures ∙ ap (λ b. failing ((b, Forward) ∷ [])) (six ∙ ap (λ (k : ℕ). forwards_right k ds) step)
