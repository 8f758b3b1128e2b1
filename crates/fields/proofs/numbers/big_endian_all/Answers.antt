-- `numbers::big_endian_all` meets its contract: a turn writes the number of the next chunk.
-- The check leaves each of these goals open without its answer.
use Rattle.std.proofs.Common.{◌≡◌, ◌<◌, ◌∙◌, ◌/◌, subst, ap, sym, refl, length, arith, replicate}
use Rattle.model.specs.Numbers.{table, number}
use Rattle.model.specs.Fields.{number_of}
use Rattle.theory.proofs.general.Lists.{table_filled, all-filled}
use Rattle.theory.proofs.acceptance.Runs.{values-table}
use native.Mathlib.Nat.{mul-div_cancel_left}
use lib.ListN.{length-replicate}
use Rattle.fields.proofs.Digits.{chunk-whole}
use Rattle.fields.proofs.numbers.big_endian_all.Goals as goal

pub loop-i-init : goal.loop-i-init
unfolding table
loop-i-init g c = refl

pub loop-i-preserved : goal.loop-i-preserved
loop-i-preserved g c =
    let l = c.loop-i in
    let chunk = c.index-chunks-i in
    let count = c.as_chunks.ensures.front_len ∙ ap (λ m. m / g.row.W) c.requires.2 ∙ mul-div_cancel_left g.row.N c.requires.0 in
    let here = subst (λ m. l.i < m) (sym count) c.loop-i-test.true in
    let is = ap (λ xs. number xs 0 (length xs)) chunk.is
    ∙ chunk-whole g.row.W c.as_chunks.result.0.now c.args.bytes.now l.i chunk.result c.as_chunks.ensures.front c.requires.0 here in
    table_filled _ (replicate g.row.N 0) l.number-items l.i c.big_endian.result (rw length-replicate (omega arith)) (c.big_endian.ensures.0 ∙ is) l.invariant

pub returns : goal.returns
returns g c =
    let all : c.loop-i.i ≡ g.row.N = omega arith in
    all-filled (replicate g.row.N 0) c.loop-i.number-items _ c.loop-i.i (rw length-replicate all) c.loop-i.invariant
    ∙ ap (table _) all
    ∙ sym (values-table (number_of g.row.W 0 0) c.args.bytes.now 0 g.row.N)
