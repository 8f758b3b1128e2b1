-- `months::value_with_months` meets its contract, check by check, and then by the working of the case with the UFR found. Assumes nothing.
-- What is told of the two buffers is alike in `engine`, `months` and `rolling`, of goals that each function has for itself.
-- The check leaves each of these goals open without its answer.
use Rattle.std.proofs.Common.{◌≡◌, refl}
use Rattle.std.proofs.lemmas.Result.{err_from_is_err_and}
use Rattle.std.specs.Array.{IsFirstChunk}
use Rattle.refusal.specs.declared.Refusal.TheVariants.{Buffers}
use Rattle.working.proofs.Fronts.{unwritten}
use Rattle.months.proofs.Valued.{call-of-slice, short-factors, short-rates, refused-file, refused-history, case-fits, valued-months}
use Rattle.months.proofs.value_with_months.Goals.{In_ok-factors, In_ok-rates}
use Rattle.months.proofs.value_with_months.Goals as goal

-- each buffer that is long enough, with its front
of-factors : (c : In_ok-factors) → IsFirstChunk c.args.factors.now c.in_ok-factors.factors.now 240
of-factors c = rw c.in_ok-factors.ensures.ok_part at c.first_chunk_mut.ensures.cases

of-rates : (c : In_ok-rates) → IsFirstChunk c.args.rates.now c.in_ok-rates.rates.now 240
of-rates c = rw c.in_ok-rates.ensures.ok_part at c.first_chunk_mut-2.ensures.cases

pub returns-in_err-factors : goal.returns-in_err-factors
returns-in_err-factors c =
    let none = c.in_err-factors.ensures.ok_part in
    let value = rw none at c.in_err-factors.ensures.value in
    let told : c.in_err-factors.field-0.0 ≡ Buffers = cc in
    let p = err_from_is_err_and c.from_residual.result c.from_residual.ensures.1 in
    rw (p.1, p.2, told) (short-factors (call-of-slice _ _ _ _ _ c.type_inv.file) (rw none at c.first_chunk_mut.ensures.cases))

pub returns-in_err-rates : goal.returns-in_err-rates
returns-in_err-rates c =
    let factors = of-factors (goal.at.returns-in_err-rates c).In_ok-factors in
    let none = c.in_err-rates.ensures.ok_part in
    let value = rw none at c.in_err-rates.ensures.value in
    let told : c.in_err-rates.field-0.0 ≡ Buffers = cc in
    let p = err_from_is_err_and c.from_residual-in_err-rates.result c.from_residual-in_err-rates.ensures.1 in
    rw (p.1, p.2, told, unwritten factors) (short-rates (call-of-slice _ _ _ _ _ c.type_inv.file) (rw none at c.first_chunk_mut-2.ensures.cases))

pub returns-in-Err : goal.returns-in-Err
returns-in-Err c =
    let at = goal.at.returns-in-Err c in
    let factors = of-factors at.In_ok-factors in
    let rates = of-rates at.In_ok-rates in
    rw (unwritten factors, unwritten rates)
    (refused-file (call-of-slice _ _ _ _ _ c.type_inv.file) factors.enough rates.enough _ c.in-Err.ensures.value.refusal)

pub returns-in_err-ufr : goal.returns-in_err-ufr
returns-in_err-ufr c =
    let at = goal.at.returns-in_err-ufr c in
    let factors = of-factors at.In_ok-factors in
    let rates = of-rates at.In_ok-rates in
    let p = err_from_is_err_and c.from_residual-in_err-ufr.result c.from_residual-in_err-ufr.ensures.1 in
    rw (p.1, p.2, unwritten factors, unwritten rates) (refused-history (call-of-slice _ _ _ _ _ c.type_inv.file) factors.enough rates.enough
    c.in-Ok.ensures.value.refusal c.in_err-ufr.ensures.value _ refl)

pub value_into-requires : goal.value_into-requires
value_into-requires c =
    let at = goal.at.value_into-requires c in
    let read = c.in-Ok.ensures.value in
    case-fits (call-of-slice _ _ _ _ _ c.type_inv.file) (of-factors at.In_ok-factors).enough (of-rates at.In_ok-rates).enough
    read.refusal c.in_ok-ufr.ensures.value refl read.given.0 refl

pub returns : goal.returns
returns c =
    let at = goal.at.returns c in
    let read = c.in-Ok.ensures.value in
    let valued = c.value_into.ensures in
    valued-months (call-of-slice _ _ _ _ _ c.type_inv.file) (of-factors at.In_ok-factors).enough (of-rates at.In_ok-rates).enough
    read.refusal c.in_ok-ufr.ensures.value refl read.given.0 refl
    valued.value (rw valued.factors) (rw valued.rates)
