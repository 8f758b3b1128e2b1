-- `write_rate`: the last bytes of the 32 bits of a rate. The check leaves this goal open without its answer.
use Rattle.std.proofs.Common.{w32}
use Rattle.std.proofs.lemmas.Int.{to_z-of_z}
use Rattle.fields.proofs.RatesOf.{rate-bytes}
use Rattle.fields.proofs.Written.{as-text}
use Rattle.fields.proofs.days.write_rate.Goals as goal

pub returns : goal.returns
returns g c =
    let a = c.args in
    as-text (rate-bytes c.WIDTH.ensures g.met.F.RateForm.known a.rate (to_z-of_z w32 a.rate c.ranges.rate) c.to_be_bytes-bytes.ensures c.requires.right)
    c.put.ensures
