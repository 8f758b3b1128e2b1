-- The rates of a front of the day are written.
use Rattle.std.proofs.Common.{take}
use Rattle.model.specs.Fields.{bytes_all}
use Rattle.model.specs.Layout.{daily_rate}
use Rattle.fields.specs.Wrote.{Wrote}
use Rattle.fields.proofs.days.write_day.Given as goal

abbrev pub invariant-loop-rate : goal.invariant-loop-rate
invariant-loop-rate g l = Wrote l.fn.out (bytes_all (daily_rate g.F.RateForm.WIDTH) (take l.rate-index l.rates)) l.out
