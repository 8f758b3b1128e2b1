-- `add_day`: each refusal, and the window with the day after the newest. The check leaves each of these goals open without its answer.
use Rattle.std.proofs.Common.{◌∙◌, ◌<◌, ap, ap₂, arith, refl, sym}
use Rattle.std.proofs.lemmas.Result.{err_from_is_err_and}
use Rattle.rollingmodel.specs.Rolling.{slot, with_day_in}
use Rattle.theory.proofs.rolling.Promised.{add_call}
use Rattle.rolling.specs.inner.Sums.{plus}
use Rattle.rolling.proofs.Windows.{none-told, add-27, add-15, add-5, add-0, window-small}
use Rattle.rolling.proofs.add_day.Goals as goal

pub returns-in_err-place : goal.returns-in_err-place
returns-in_err-place c =
    let p = err_from_is_err_and c.from_residual.result c.from_residual.ensures.1 in
    rw (p.1, p.2, c.in_err-place.ensures.refusal) record {
      changed = add-27 c.args.w.now c.args.new.now.rates (sym c.in_err-place.ensures.right);
      call = add_call c.args.w.now (omega arith) c.args.new.now.rates;
    }

pub returns-in_err-slot : goal.returns-in_err-slot
returns-in_err-slot c =
    let p = err_from_is_err_and c.from_residual-in_err-slot.result c.from_residual-in_err-slot.ensures.1 in
    let told = none-told c.free.result _ _ (sym c.in_err-slot.ensures.value) in
    let place = c.in_ok-place.ensures in
    let never : c.in_ok-place.place.count < 70 → ⊥ = λ l. told.1 (c.free.ensures.some.1 l) in
    rw (p.1, p.2, told.0) record {
      changed = add-15 c.args.w.now c.args.new.now.rates (sym place.right) (omega (arith, never, place.count));
      call = add_call c.args.w.now (omega arith) c.args.new.now.rates;
    }

pub returns-in_err-rates : goal.returns-in_err-rates
returns-in_err-rates c =
    let p = err_from_is_err_and c.from_residual-in_err-rates.result c.from_residual-in_err-rates.ensures.1 in
    let told = c.in_err-rates.ensures in
    let place = c.in_ok-place.ensures in
    let room = (rw c.in_ok-slot.ensures.ok_part at c.free.ensures.some).0 refl in
    rw (p.1, p.2, told.refusal) record {
      changed = add-5 c.args.w.now c.args.new.now.rates (sym place.right) (omega (arith, room, place.count)) (sym told.right);
      call = add_call c.args.w.now (omega arith) c.args.new.now.rates;
    }

pub add-requires : goal.add-requires
add-requires c = window-small c.args.w.now (sym c.in_ok-place.ensures.right)

pub returns : goal.returns
returns c =
    let w = c.args.w.now in
    let new = c.args.new.now.rates in
    let place = c.in_ok-place.ensures in
    let same = c.in_ok-rates.ensures.same in
    let room = (rw c.in_ok-slot.ensures.ok_part at c.free.ensures.some).0 refl in
    let free = rw c.in_ok-slot.ensures.ok_part at c.free.ensures.slot ∙ ap₂ (slot 70) place.start place.count in
    record {
      changed = add-0 w new (sym place.right) (omega (arith, room, place.count)) (sym c.in_ok-rates.ensures.right)
          (c.put_day.ensures ∙ ap₂ (with_day_in w.rates) free same) (c.add.ensures ∙ ap (plus w.sums) same);
      call = add_call w (omega arith) new;
    }
