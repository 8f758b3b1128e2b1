-- `file::Reading::of` meets its contract: the map, its fields, the end and the limits of 6, each of which may refuse.
-- The check leaves each of these goals open without its answer.
use Rattle.fields.proofs.Steps.{refused as refusal-of}
use Rattle.reader.proofs.Whole.{read-refused, map-is-refused, fields-refused, more-refused, six-refused, all-read}
use Rattle.reader.proofs.file.Reading.of.Goals as goal

pub returns-in_err-map : goal.returns-in_err-map
returns-in_err-map c = rw (refusal-of _ _ c.from_residual.ensures) (read-refused c.args.file _ (map-is-refused c.new-cursor.result c.new-cursor.ensures _ c.in_err-map.ensures))

pub returns-in-Err : goal.returns-in-Err
returns-in-Err c =
    let l = c.layout.ensures in
    read-refused c.args.file _ (fields-refused c.new-cursor.ensures c.in_ok-map.ensures l.ufr l.short l.bonds l.amounts l.long l.equity _ c.in-Err.ensures)

pub returns-in_err-finish : goal.returns-in_err-finish
returns-in_err-finish c =
    let l = c.layout.ensures in
    let fields = c.in-Ok.ensures in
    rw (refusal-of _ _ c.from_residual-in_err-finish.ensures)
    (read-refused c.args.file _
    (more-refused c.new-cursor.ensures c.in_ok-map.ensures l.ufr l.short l.bonds l.amounts l.long l.equity fields.0 fields.1.1 _ c.in_err-finish.ensures))

pub returns-in_err-forwards_within : goal.returns-in_err-forwards_within
returns-in_err-forwards_within c =
    let l = c.layout.ensures in
    let fields = c.in-Ok.ensures in
    let read = fields.1.0 in
    rw (refusal-of _ _ c.from_residual-in_err-forwards_within.ensures)
    (read-refused c.args.file _
    (six-refused c.new-cursor.ensures c.in_ok-map.ensures l.ufr l.short l.bonds l.amounts l.long l.equity fields.0 fields.1.1 _ _ read.0.1.0 read.1.0 c.or.ensures
    c.unwrap-days.ensures c.in_ok-finish.ensures.0 _ c.in_err-forwards_within.ensures))

pub returns : goal.returns
returns c =
    let l = c.layout.ensures in
    let fields = c.in-Ok.ensures in
    let read = fields.1.0 in
    let first = read.0 in
    all-read c.new-cursor.ensures c.in_ok-map.ensures l.ufr l.short l.bonds l.amounts l.long l.equity fields.0 fields.1.1 _ _ read.0.1.0 read.1.0 c.or.ensures
    c.unwrap-days.ensures c.in_ok-finish.ensures.0 c.in_ok-forwards_within.ensures.0 first.0 first.1.1.0 first.1.1.1.0 first.1.1.1.1.0 first.1.1.1.1.1.0 first.1.1.1.1.1.1
    read.1.1 c.raised.ensures
