-- `rate_of`: two bytes, two's complement, handed on as 32 bits. The check leaves this goal open without its answer.
use Rattle.std.proofs.Common.{◌∙◌, w32}
use Rattle.std.proofs.lemmas.Int.{to_z-of_z}
use Rattle.fields.proofs.Signed.{two_read}
use Rattle.fields.proofs.rates.TwoBytesRateForm.rate_of.Goals as goal

pub returns : goal.returns
returns c =
    to_z-of_z w32 c.from.result record { sfits = c.from.type_inv }
    ∙ c.from.ensures
    ∙ two_read c.args.bytes.now c.type_inv.bytes record { sfits = c.from_be_bytes.type_inv } c.from_be_bytes.ensures
