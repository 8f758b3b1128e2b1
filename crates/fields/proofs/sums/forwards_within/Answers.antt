-- `sums::forwards_within` meets its contract: a turn tests a term more. The check leaves each of these goals open without its answer.
-- Each goal stands at a place of its own, with names of its own, so what they share is told in each.
use Rattle.std.proofs.Common.{◌≡◌, ◌∙◌, ◌+◌, suc, get_or, ap, sym, refl, arith, pos, ◌*ℤ◌}
use Rattle.std.proofs.lemmas.Int.{ints}
use mathlib.Core.Path.{ap₂}
use Rattle.model.specs.Numbers.{every}
use Rattle.fields.specs.Sums.{sum_at, difference_right, forward_right}
use Rattle.fields.proofs.Forwards.{term-passed, product-passed, every-next, not-every}
use Rattle.fields.proofs.sums.forwards_within.Goals as goal

pub loop-t-init : goal.loop-t-init
unfolding every
loop-t-init c = record { right = refl; before = refl; small = record { least = omega (arith, ints); most = omega (arith, ints) } }

pub loop-t-preserved : goal.loop-t-preserved
loop-t-preserved c =
    let l = c.loop-t in
    let sums = c.args.sums.now in
    let one : l.t + 1 ≡ suc l.t = omega arith in
    let sum = term-passed _ (c.requires.small.each l.t (omega arith)) in
    let next = product-passed _ c.weighted-next.ensures.small in
    let value = next ∙ c.weighted-next.ensures.value ∙ ap (λ z. pos (l.t + 1) *ℤ z) sum in
    let tested = c.difference_within.ensures
    ∙ ap₂ (difference_right c.args.per_step) l.invariant.before (value ∙ ap (λ k. pos k *ℤ get_or sums l.t (pos 0)) one) in
    record {
      right = every-next (forward_right c.args.per_step sums) l.t l.invariant.right (sym tested ∙ c.if-not-difference_within.false);
      before = value ∙ ap (λ z. pos (l.t + 1) *ℤ z) (ap (sum_at sums) (sym one));
      small = rw next c.weighted-next.ensures.small;
    }

pub returns-then-not-difference_within : goal.returns-then-not-difference_within
returns-then-not-difference_within c =
    let l = c.loop-t in
    let sums = c.args.sums.now in
    let one : l.t + 1 ≡ suc l.t = omega arith in
    let sum = term-passed _ (c.requires.small.each l.t (omega arith)) in
    let next = product-passed _ c.weighted-next.ensures.small in
    let value = next ∙ c.weighted-next.ensures.value ∙ ap (λ z. pos (l.t + 1) *ℤ z) sum in
    let tested = c.difference_within.ensures
    ∙ ap₂ (difference_right c.args.per_step) l.invariant.before (value ∙ ap (λ k. pos k *ℤ get_or sums l.t (pos 0)) one) in
    sym (not-every (forward_right c.args.per_step sums) 60 l.t c.loop-t-test.true (sym tested ∙ c.if-not-difference_within.true))

pub returns : goal.returns
returns c =
    let l = c.loop-t in
    let all : l.t ≡ 60 = omega arith in
    sym (rw all at l.invariant.right)
