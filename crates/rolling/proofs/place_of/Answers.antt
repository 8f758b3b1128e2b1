-- `place_of`: a place that is out of range, a day that is not right, a right day more, and sums that are compared.
-- The check leaves each of these goals open without its answer.
use Rattle.std.proofs.Common.{◌∙◌, ap, arith, length, refl, sym}
use Rattle.std.proofs.lemmas.Bool.Decides.{Decides-int_eq}
use Rattle.std.proofs.lemmas.Slice.Eq.{slice_eq-Decides}
use borrow.Author.Tests.{not-true, not-false}
use Rattle.std.proofs.lemmas.Result.{err_from_is_err_and}
use Rattle.model.specs.Case.{s}
use Rattle.model.specs.Numbers.{table}
use Rattle.rollingmodel.specs.Rolling.{day_in, slot, sums_of}
use Rattle.theory.proofs.rolling.Held.{day-long}
use Rattle.rolling.proofs.Windows.{none-told, not-right, wrong-day, next-day, first-small, sums-right, sums-held, sums-wrong}
use Rattle.rolling.proofs.place_of.Goals as goal

pub returns-in_err-place-clause-right : goal.returns-in_err-place-clause-right
returns-in_err-place-clause-right c =
    let p = err_from_is_err_and c.from_residual.result c.from_residual.ensures.1 in
    let told = none-told c.new.result _ _ (sym c.in_err-place.ensures.value) in
    rw p.1 (sym (not-right c.args.w.now (λ r. told.1 (c.new.ensures.right.1 (r.count, r.start)))))

pub returns-in_err-place-clause-refusal : goal.returns-in_err-place-clause-refusal
returns-in_err-place-clause-refusal c =
    let p = err_from_is_err_and c.from_residual.result c.from_residual.ensures.1 in
    rw (p.1, p.2) (none-told c.new.result _ _ (sym c.in_err-place.ensures.value)).0

pub loop-i-init : goal.loop-i-init
unfolding table sums_of s
loop-i-init c =
    let count = rw c.in_ok-place.ensures.ok_part at c.new.ensures.count in
    let start = rw c.in_ok-place.ensures.ok_part at c.new.ensures.start in
    record { count = count; start = start; right = refl; sums = refl }

pub returns-then-not-is_right-clause-right : goal.returns-then-not-is_right-clause-right
returns-then-not-is_right-clause-right c =
    let w = c.args.w.now in
    let held = c.day_in-held.ensures ∙ ap (day_in w.rates) (c.slot.ensures.slot ∙ ap (λ k. slot 70 k c.loop-i.i) c.loop-i.invariant.start) in
    sym (wrong-day w c.loop-i.i (omega arith) held (sym c.is_right.ensures ∙ c.if-not-is_right.true))

pub add-requires : goal.add-requires
add-requires c = first-small c.args.w.now c.loop-i.i (omega arith) c.loop-i.invariant.right c.loop-i.invariant.sums

pub loop-i-preserved : goal.loop-i-preserved
loop-i-preserved c =
    let w = c.args.w.now in
    let held = c.day_in-held.ensures ∙ ap (day_in w.rates) (c.slot.ensures.slot ∙ ap (λ k. slot 70 k c.loop-i.i) c.loop-i.invariant.start) in
    let long = ap length c.day_in-held.ensures ∙ day-long w.rates c.slot.result (omega arith) c.slot.ensures.within in
    let (right, sums) =
    next-day w c.loop-i.i held long (sym c.is_right.ensures ∙ c.if-not-is_right.false) c.loop-i.invariant.right
    c.loop-i.invariant.sums c.add.ensures in
    record { count = c.loop-i.invariant.count; start = c.loop-i.invariant.start; right = right; sums = sums }

pub returns-then-ne-clause-right : goal.returns-then-ne-clause-right
returns-then-ne-clause-right c =
    let w = c.args.w.now in
    let place = c.in_ok-place.place in
    let same = slice_eq-Decides Decides-int_eq c.loop-i.sums w.sums _ refl in
    let differ = not-true _ (sym c.ne.ensures ∙ c.if-ne.true) in
    sym (sums-wrong w (omega (arith, c.loop-i.invariant.count, place.counted)) (omega (arith, c.loop-i.invariant.start, place.started)) (omega arith)
    c.loop-i.invariant.right c.loop-i.invariant.sums (omega arith) (λ e. let equal = same.1 e in cc))

pub returns-clause-right : goal.returns-clause-right
returns-clause-right c =
    let w = c.args.w.now in
    let place = c.in_ok-place.place in
    let same = slice_eq-Decides Decides-int_eq c.loop-i.sums w.sums _ refl in
    let equal = same.0 (not-false _ (sym c.ne.ensures ∙ c.if-ne.false)) in
    sym (sums-right w (omega (arith, c.loop-i.invariant.count, place.counted)) (omega (arith, c.loop-i.invariant.start, place.started)) (omega arith)
    c.loop-i.invariant.right c.loop-i.invariant.sums equal)

pub returns-clause-sums : goal.returns-clause-sums
returns-clause-sums c =
    let w = c.args.w.now in
    let place = c.in_ok-place.place in
    let same = slice_eq-Decides Decides-int_eq c.loop-i.sums w.sums _ refl in
    let equal = same.0 (not-false _ (sym c.ne.ensures ∙ c.if-ne.false)) in
    sums-held w (omega (arith, c.loop-i.invariant.count, place.counted)) (omega (arith, c.loop-i.invariant.start, place.started)) (omega arith)
    c.loop-i.invariant.right c.loop-i.invariant.sums equal
