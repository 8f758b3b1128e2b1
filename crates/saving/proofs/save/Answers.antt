-- `save`: a refusal of the case, one for want of room, and the bytes; and what is promised of every call. The check leaves each of these goals
-- open without its answer.
use Rattle.std.proofs.Common.{◌≡◌}
use Rattle.std.proofs.lemmas.Result.{err_from_is_err_and}
use Rattle.refusal.specs.declared.Refusal.TheVariants.{Room}
use Rattle.saving.specs.Said.{said}
use Rattle.saving.proofs.Saves.{refused, room-refused, written}
use Rattle.theory.proofs.saving.Promised.{save_call}
use Rattle.saving.proofs.save.Goals as goal

pub returns-in_err-file-clause-value : goal.returns-in_err-file-clause-value
returns-in_err-file-clause-value c =
    let a = c.args in
    let k = said a.case.now in
    let p = err_from_is_err_and c.from_residual.result c.from_residual.ensures.1 in
    rw (p.1, p.2) (refused k a.out.now c.in_err-file.field-0.0 c.in_err-file.ensures.refusal).0

pub returns-in_err-file-clause-buffer : goal.returns-in_err-file-clause-buffer
returns-in_err-file-clause-buffer c =
    let a = c.args in
    (refused (said a.case.now) a.out.now c.in_err-file.field-0.0 c.in_err-file.ensures.refusal).1

pub returns-in_err-left-clause-value : goal.returns-in_err-left-clause-value
returns-in_err-left-clause-value c =
    let a = c.args in
    let k = said a.case.now in
    let file = c.in_ok-file.ensures in
    let none = c.in_err-left.ensures.ok_part in
    let value = rw none at c.in_err-left.ensures.value in
    let told : c.in_err-left.field-0.0 ≡ Room = cc in
    let short = rw none at c.room_after.ensures in
    let p = err_from_is_err_and c.from_residual-in_err-left.result c.from_residual-in_err-left.ensures.1 in
    rw (p.1, p.2) (room-refused k a.out.now file.refusal file.bytes told short).0

pub returns-in_err-left-clause-buffer : goal.returns-in_err-left-clause-buffer
returns-in_err-left-clause-buffer c =
    let a = c.args in
    let k = said a.case.now in
    let file = c.in_ok-file.ensures in
    let none = c.in_err-left.ensures.ok_part in
    let value = rw none at c.in_err-left.ensures.value in
    let told : c.in_err-left.field-0.0 ≡ Room = cc in
    let short = rw none at c.room_after.ensures in
    (room-refused k a.out.now file.refusal file.bytes told short).1

pub returns-clause-value : goal.returns-clause-value
returns-clause-value c =
    let a = c.args in
    let k = said a.case.now in
    let file = c.in_ok-file.ensures in
    let fits = rw c.in_ok-left.ensures.ok_part at c.room_after.ensures in
    (written k a.out.now file.refusal file.bytes fits c.write_front.ensures).0

pub returns-clause-buffer : goal.returns-clause-buffer
returns-clause-buffer c =
    let a = c.args in
    let k = said a.case.now in
    let file = c.in_ok-file.ensures in
    let fits = rw c.in_ok-left.ensures.ok_part at c.room_after.ensures in
    (written k a.out.now file.refusal file.bytes fits c.write_front.ensures).1

pub returns-in_err-file-clause-call : goal.returns-in_err-file-clause-call
returns-in_err-file-clause-call c = save_call (said c.args.case.now) c.args.out.now

pub returns-in_err-left-clause-call : goal.returns-in_err-left-clause-call
returns-in_err-left-clause-call c = save_call (said c.args.case.now) c.args.out.now

pub returns-clause-call : goal.returns-clause-call
returns-clause-call c = save_call (said c.args.case.now) c.args.out.now
