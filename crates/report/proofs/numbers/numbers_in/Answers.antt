-- `numbers_in`: what the engine holds of a case tells its numbers.
-- The check leaves each of these goals open without its answer.
use Rattle.model.specs.Layout.{case_of}
use Rattle.report.proofs.HeldNumbers.{pension-fits, bonds-fit, amounts-fit, own}
use Rattle.report.proofs.numbers.numbers_in.Goals as goal

pub sum_of-requires : goal.sum_of-requires
sum_of-requires c = pension-fits (case_of c.args.file.now) c.requires.1 c.args.case.now c.requires.0 _ c.as_slice-pension.ensures.value

pub sum_of-requires-2 : goal.sum_of-requires-2
sum_of-requires-2 c = bonds-fit (case_of c.args.file.now) c.requires.1 c.args.case.now c.requires.0 _ c.as_slice-bonds.ensures.value

pub assets_of-requires : goal.assets_of-requires
assets_of-requires c = amounts-fit (case_of c.args.file.now) c.requires.1 c.args.case.now c.requires.0

pub returns : goal.returns
returns c =
    own c.args.file.now c.args.case.now c.requires.0 _ c.ufr_source_of.ensures _ c.rate_bytes_of-rate_bytes.ensures _ c.days_of.ensures
    _ c.as_slice-pension.ensures.value _ c.sum_of.ensures _ c.as_slice-bonds.ensures.value _ c.sum_of-2.ensures _ c.assets_of.ensures
