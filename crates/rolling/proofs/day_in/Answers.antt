-- `day_in`: the chunk of a slot is its day. The check leaves this goal open without its answer.
use Rattle.std.proofs.Common.{◌∙◌, [], ap, arith, get_or}
use Rattle.rolling.proofs.Rates.{chunk-at}
use Rattle.rolling.proofs.day_in.Goals as goal

pub returns : goal.returns
returns c =
    ap (λ days. get_or days c.args.slot []) c.as_chunks.ensures.front ∙ chunk-at 60 _ c.args.rates.now c.args.slot [] (omega arith)
