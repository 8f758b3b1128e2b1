-- `rate_of`: four bytes, two's complement. The check leaves this goal open without its answer.
use Rattle.fields.proofs.Signed.{four_read}
use Rattle.fields.proofs.rates.FourBytesRateForm.rate_of.Goals as goal

pub returns : goal.returns
returns c = four_read c.args.bytes.now c.type_inv.bytes record { sfits = c.from_be_bytes.type_inv } c.from_be_bytes.ensures
