-- `value_window` meets its contract: the number of a refused window, or the working of the case with its days. Assumes nothing.
-- What is told of the two buffers is alike in `engine`, `months` and `rolling`, of goals that each function has for itself.
-- The check leaves each of these goals open without its answer.
use Rattle.std.proofs.Common.{◌≡◌, sym}
use Rattle.std.proofs.lemmas.Result.{err_from_is_err_and}
use Rattle.std.specs.Array.{IsFirstChunk}
use Rattle.refusal.specs.declared.Refusal.TheVariants.{Buffers}
use Rattle.saving.specs.Said.{said}
use Rattle.working.proofs.Fronts.{unwritten}
use Rattle.rolling.proofs.Joined.{damaged, short-factors, short-rates, refused, case-fits, valued-window}
use Rattle.rolling.proofs.valued.value_window.Goals.{In_ok-factors, In_ok-rates}
use Rattle.rolling.proofs.valued.value_window.Goals as goal

-- each buffer that is long enough, with its front
of-factors : (c : In_ok-factors) → IsFirstChunk c.args.factors.now c.in_ok-factors.factors.now 240
of-factors c = rw c.in_ok-factors.ensures.ok_part at c.first_chunk_mut.ensures.cases

of-rates : (c : In_ok-rates) → IsFirstChunk c.args.rates.now c.in_ok-rates.rates.now 240
of-rates c = rw c.in_ok-rates.ensures.ok_part at c.first_chunk_mut-2.ensures.cases

pub returns-in_err-days : goal.returns-in_err-days
returns-in_err-days c =
    let a = c.args in
    let told = c.in_err-days.ensures in
    let p = err_from_is_err_and c.from_residual.result c.from_residual.ensures.1 in
    rw (p.1, p.2, told.refusal) (damaged a.w.now (said a.given.now) a.factors.now a.rates.now (sym told.right))

pub returns-in_err-factors : goal.returns-in_err-factors
returns-in_err-factors c =
    let a = c.args in
    let none = c.in_err-factors.ensures.ok_part in
    let value = rw none at c.in_err-factors.ensures.value in
    let told : c.in_err-factors.field-0.0 ≡ Buffers = cc in
    let p = err_from_is_err_and c.from_residual-in_err-factors.result c.from_residual-in_err-factors.ensures.1 in
    rw (p.1, p.2, told) (short-factors a.w.now (said a.given.now) a.factors.now a.rates.now (sym c.in_ok-days.ensures.right) (rw none at c.first_chunk_mut.ensures.cases))

pub returns-in_err-rates : goal.returns-in_err-rates
returns-in_err-rates c =
    let a = c.args in
    let factors = of-factors (goal.at.returns-in_err-rates c).In_ok-factors in
    let none = c.in_err-rates.ensures.ok_part in
    let value = rw none at c.in_err-rates.ensures.value in
    let told : c.in_err-rates.field-0.0 ≡ Buffers = cc in
    let p = err_from_is_err_and c.from_residual-in_err-rates.result c.from_residual-in_err-rates.ensures.1 in
    rw (p.1, p.2, told, unwritten factors)
    (short-rates a.w.now (said a.given.now) a.factors.now a.rates.now (sym c.in_ok-days.ensures.right) (rw none at c.first_chunk_mut-2.ensures.cases))

pub value_into-requires : goal.value_into-requires
value_into-requires c =
    let told = c.in-Ok.ensures in
    case-fits c.args.w.now (said c.args.given.now) c.args.factors.now c.args.rates.now told.refusal told.case

pub returns-in-Ok : goal.returns-in-Ok
returns-in-Ok c =
    let a = c.args in
    let at = goal.at.returns-in-Ok c in
    let told = c.in-Ok.ensures in
    let valued = c.value_into.ensures in
    valued-window a.w.now (said a.given.now) a.factors.now a.rates.now told.refusal told.case (of-factors at.In_ok-factors).enough (of-rates at.In_ok-rates).enough
    valued.value (rw valued.factors) (rw valued.rates)

pub returns-in-Err : goal.returns-in-Err
returns-in-Err c =
    let a = c.args in
    let at = goal.at.returns-in-Err c in
    let factors = of-factors at.In_ok-factors in
    let rates = of-rates at.In_ok-rates in
    rw (unwritten factors, unwritten rates)
    (refused a.w.now (said a.given.now) a.factors.now a.rates.now factors.enough rates.enough _ c.in-Err.ensures.refusal)
