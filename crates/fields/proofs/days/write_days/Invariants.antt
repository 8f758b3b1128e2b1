-- The days of a front are written.
use Rattle.std.proofs.Common.{take}
use Rattle.model.specs.Fields.{bytes_all}
use Rattle.model.specs.Layout.{day}
use Rattle.fields.specs.Wrote.{Wrote}
use Rattle.fields.proofs.days.write_days.Given as goal

abbrev pub invariant-loop-day : goal.invariant-loop-day
invariant-loop-day g l = Wrote l.fn.out (bytes_all (day g.F.RateForm.WIDTH) (take l.day-index l.held)) l.out
