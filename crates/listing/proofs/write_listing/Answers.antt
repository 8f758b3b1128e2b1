-- `write_listing`: the text goes to the front of the lent buffer, if it fits.
-- The check leaves each of these goals open without its answer.
use Rattle.listing.proofs.Texts.{short_length, short_kept, whole_length, whole_text}
use Rattle.listing.proofs.write_listing.Goals as goal

pub returns-then-out-used-clause-count : goal.returns-then-out-used-clause-count
returns-then-out-used-clause-count c =
    short_length c.args.v c.text_of-text.result.items c.args.out.now c.len-used.result c.text_of-text.ensures c.len-used.ensures.value c.if-out-used.true

pub returns-then-out-used-clause-text : goal.returns-then-out-used-clause-text
returns-then-out-used-clause-text c =
    short_kept c.args.v c.text_of-text.result.items c.args.out.now c.len-used.result c.text_of-text.ensures c.len-used.ensures.value c.if-out-used.true

pub returns-clause-count : goal.returns-clause-count
returns-clause-count c =
    whole_length c.args.v c.text_of-text.result.items c.args.out.now c.len-used.result c.text_of-text.ensures c.len-used.ensures.value c.if-out-used.false

pub returns-clause-text : goal.returns-clause-text
returns-clause-text c =
    rw (c.copy_from_slice.ensures.after, c.as_slice.ensures.value)
    (whole_text c.args.v c.text_of-text.result.items c.args.out.now c.len-used.result c.text_of-text.ensures c.len-used.ensures.value c.if-out-used.false)
