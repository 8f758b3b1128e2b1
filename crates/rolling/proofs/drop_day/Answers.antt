-- `drop_day`: each refusal, and the window without its oldest day. The check leaves each of these goals open without its answer.
use Rattle.std.proofs.Common.{◌∙◌, ◌<◌, ap, arith, refl, sym}
use Rattle.std.proofs.lemmas.Result.{err_from_is_err_and}
use Rattle.rollingmodel.specs.Rolling.{slot, day_in}
use Rattle.theory.proofs.rolling.Promised.{drop_call}
use Rattle.rolling.proofs.Windows.{none-told, drop-27, drop-16, drop-0, window-small}
use Rattle.rolling.proofs.drop_day.Goals as goal

pub returns-in_err-place : goal.returns-in_err-place
returns-in_err-place c =
    let p = err_from_is_err_and c.from_residual.result c.from_residual.ensures.1 in
    rw (p.1, p.2, c.in_err-place.ensures.refusal) record {
      changed = drop-27 c.args.w.now (sym c.in_err-place.ensures.right);
      call = drop_call c.args.w.now (omega arith);
    }

pub returns-in_err-slot : goal.returns-in_err-slot
returns-in_err-slot c =
    let p = err_from_is_err_and c.from_residual-in_err-slot.result c.from_residual-in_err-slot.ensures.1 in
    let told = none-told c.oldest.result _ _ (sym c.in_err-slot.ensures.value) in
    let place = c.in_ok-place.ensures in
    let never : 0 < c.in_ok-place.place.count → ⊥ = λ l. told.1 (c.oldest.ensures.some.1 l) in
    rw (p.1, p.2, told.0) record {
      changed = drop-16 c.args.w.now (sym place.right) (omega (arith, never, place.count));
      call = drop_call c.args.w.now (omega arith);
    }

pub subtract-requires : goal.subtract-requires
subtract-requires c = window-small c.args.w.now (sym c.in_ok-place.ensures.right)

pub returns : goal.returns
returns c =
    let w = c.args.w.now in
    let place = c.in_ok-place.ensures in
    let some = (rw c.in_ok-slot.ensures.ok_part at c.oldest.ensures.some).0 refl in
    let first = rw c.in_ok-slot.ensures.ok_part at c.oldest.ensures.slot in
    let next = c.slot.ensures.slot ∙ ap (λ k. slot 70 k 1) place.start in
    record {
      changed = drop-0 w (sym place.right) (omega (arith, some, place.count)) (c.day_in-oldest.ensures ∙ ap (day_in w.rates) (first ∙ place.start))
          c.subtract.ensures next;
      call = drop_call w (omega arith);
    }
