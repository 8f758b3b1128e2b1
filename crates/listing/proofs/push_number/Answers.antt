-- `push_number`: a space, and the digits that itoa writes, which are those of the listing.
-- The check leaves each of these goals open without its answer.
use mathlib.Core.List.{append_assoc}
use Rattle.model.specs.Numbers.{table}
use Rattle.method.specs.Listing.{ascii}
use Rattle.listing.specs.inner.Parts.{spaced}
use Rattle.listing.proofs.Texts.{decimal_same}
use Rattle.listing.proofs.push_number.Goals as goal

pub returns-clause-items : goal.returns-clause-items
unfolding spaced ascii table
returns-clause-items c =
    rw (c.push-2.ensures.items, c.push.ensures.items, c.as_bytes.ensures.value, c.format.ensures.text, decimal_same c.args.n c.ranges.n.fits)
    (simp append_assoc)
