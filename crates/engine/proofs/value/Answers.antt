-- `engine::value` meets its contract. Assumes nothing. The check leaves each of these goals open without its answer.
-- What is told of the two buffers is alike in `engine`, `months` and `rolling`, of goals that each function has for itself.
use Rattle.std.proofs.Common.{◌≡◌}
use Rattle.std.proofs.lemmas.Result.{err_from_is_err_and}
use Rattle.std.specs.Array.{IsFirstChunk}
use Rattle.refusal.specs.declared.Refusal.TheVariants.{Buffers}
use Rattle.working.proofs.Fronts.{unwritten}
use Rattle.engine.proofs.Valued.{call-of-slice, short-factors, short-rates, refused-file, reading-fits, accepted-file}
use Rattle.engine.proofs.value.Goals.{In_ok-factors, In_ok-rates}
use Rattle.engine.proofs.value.Goals as goal

-- each buffer that is long enough, with its front
of-factors : (c : In_ok-factors) → IsFirstChunk c.args.factors.now c.in_ok-factors.factors.now 240
of-factors c = rw c.in_ok-factors.ensures.ok_part at c.first_chunk_mut.ensures.cases

of-rates : (c : In_ok-rates) → IsFirstChunk c.args.rates.now c.in_ok-rates.rates.now 240
of-rates c = rw c.in_ok-rates.ensures.ok_part at c.first_chunk_mut-2.ensures.cases

pub returns-in_err-factors : goal.returns-in_err-factors
returns-in_err-factors c =
    let none = c.in_err-factors.ensures.ok_part in
    let value = rw none at c.in_err-factors.ensures.value in
    let told : c.in_err-factors.field-0.0 ≡ Buffers = cc in
    let p = err_from_is_err_and c.from_residual.result c.from_residual.ensures.1 in
    rw (p.1, p.2, told) (short-factors (call-of-slice _ _ _ c.type_inv.file) (rw none at c.first_chunk_mut.ensures.cases))

pub returns-in_err-rates : goal.returns-in_err-rates
returns-in_err-rates c =
    let factors = of-factors (goal.at.returns-in_err-rates c).In_ok-factors in
    let none = c.in_err-rates.ensures.ok_part in
    let value = rw none at c.in_err-rates.ensures.value in
    let told : c.in_err-rates.field-0.0 ≡ Buffers = cc in
    let p = err_from_is_err_and c.from_residual-in_err-rates.result c.from_residual-in_err-rates.ensures.1 in
    rw (p.1, p.2, told, unwritten factors) (short-rates (call-of-slice _ _ _ c.type_inv.file) (rw none at c.first_chunk_mut-2.ensures.cases))

pub value_into-requires : goal.value_into-requires
value_into-requires c = let read = c.in-Ok.ensures.value in reading-fits c.args.file.now read.refusal _ read.given.0

pub returns-in-Err : goal.returns-in-Err
returns-in-Err c =
    let at = goal.at.returns-in-Err c in
    let factors = of-factors at.In_ok-factors in
    let rates = of-rates at.In_ok-rates in
    rw (unwritten factors, unwritten rates) (refused-file (call-of-slice _ _ _ c.type_inv.file) factors.enough rates.enough _ c.in-Err.ensures.value.refusal)

pub returns-in-Ok : goal.returns-in-Ok
returns-in-Ok c =
    let at = goal.at.returns-in-Ok c in
    let factors = of-factors at.In_ok-factors in
    let rates = of-rates at.In_ok-rates in
    let read = c.in-Ok.ensures.value in
    let valued = c.value_into.ensures in
    accepted-file (call-of-slice _ _ _ c.type_inv.file) factors.enough rates.enough
    read.refusal _ read.given.0 _ _ _ valued.value (rw valued.factors) (rw valued.rates)
