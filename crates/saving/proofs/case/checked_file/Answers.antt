-- `checked_file`: each refusal, and the file. The check leaves each of these goals open without its answer.
use Rattle.std.proofs.Common.{sym}
use Rattle.fields.proofs.Steps.{refused}
use Rattle.saving.specs.Present.{present_of}
use Rattle.saving.specs.Said.{said}
use Rattle.saving.proofs.CaseChecks.{form-refused, field-refused, six-refused, accepted, limits-hold, file_is}
use Rattle.saving.proofs.case.checked_file.Goals as goal

pub returns-in_err-check-clause-refusal : goal.returns-in_err-check-clause-refusal
returns-in_err-check-clause-refusal c =
    rw (refused _ _ c.from_residual.ensures)
    (form-refused (said c.args.case.now) c.in_err-check.field-0.0 c.is_form.ensures c.in_err-check.ensures.checked)

pub returns-in_err-check-2-clause-refusal : goal.returns-in_err-check-2-clause-refusal
returns-in_err-check-2-clause-refusal c =
    let k = c.args.case.now in
    let l = c.layout-announced.ensures in
    rw (refused _ _ c.from_residual-in_err-check-2.ensures)
    (field-refused k.fields.now k.rates.now k.pension.now k.bonds.now c.is_form.ensures c.in_ok-check.ensures.checked.0 (present_of c.needed.result) c.needed.ensures
    c.map_of.ensures l.ufr l.short l.bonds l.amounts l.long l.equity c.parts_of-parts.ensures c.in_err-check-2.field-0.0 c.in_err-check-2.ensures)

pub returns-in_err-forwards_of-clause-refusal : goal.returns-in_err-forwards_of-clause-refusal
returns-in_err-forwards_of-clause-refusal c =
    let k = c.args.case.now in
    let l = c.layout-announced.ensures in
    rw (refused _ _ c.from_residual-in_err-forwards_of.ensures)
    (six-refused k.fields.now k.rates.now k.pension.now k.bonds.now c.is_form.ensures c.in_ok-check.ensures.checked.0 (present_of c.needed.result) c.needed.ensures
    c.map_of.ensures l.ufr l.short l.bonds l.amounts l.long l.equity c.parts_of-parts.ensures (sym c.in_ok-check-2.ensures) c.in_err-forwards_of.field-0.0
    c.in_err-forwards_of.ensures)

pub returns-clause-refusal : goal.returns-clause-refusal
returns-clause-refusal c =
    let k = c.args.case.now in
    let l = c.layout-announced.ensures in
    accepted k.fields.now k.rates.now k.pension.now k.bonds.now c.is_form.ensures c.in_ok-check.ensures.checked.0 (present_of c.needed.result) c.needed.ensures
    c.map_of.ensures l.ufr l.short l.bonds l.amounts l.long l.equity c.parts_of-parts.ensures (sym c.in_ok-check-2.ensures) c.in_ok-forwards_of.ensures

pub returns-clause-limits : goal.returns-clause-limits
returns-clause-limits c =
    let k = c.args.case.now in
    let l = c.layout-announced.ensures in
    limits-hold k.fields.now k.rates.now k.pension.now k.bonds.now c.is_form.ensures c.in_ok-check.ensures.checked.0 (present_of c.needed.result) c.needed.ensures
    c.map_of.ensures l.ufr l.short l.bonds l.amounts l.long l.equity c.parts_of-parts.ensures (sym c.in_ok-check-2.ensures)

pub returns-clause-bytes : goal.returns-clause-bytes
returns-clause-bytes c =
    let k = c.args.case.now in
    let l = c.layout-announced.ensures in
    file_is k.fields.now k.rates.now k.pension.now k.bonds.now c.is_form.ensures c.in_ok-check.ensures.checked.0 (present_of c.needed.result) c.needed.ensures
    c.map_of.ensures l.ufr l.short l.bonds l.amounts l.long l.equity c.parts_of-parts.ensures
