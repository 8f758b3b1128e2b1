-- `money::worth::worth_of` meets its contract. Each goal of the loop stands at a place of its own, with names of its own, so each tells the
-- turn anew. Assumes nothing.
-- The check leaves each of these goals open without its answer.
use Rattle.std.proofs.Common.{arith, rules}
use Rattle.std.proofs.lemmas.Slice.Zip.{zip_turn}
use Rattle.money.proofs.Flows.{no-worth, none-most, in-range, worth-next, flow-most, one-more}
use Rattle.money.proofs.worth.worth_of.Goals as goal

pub loop-euros-init : goal.loop-euros-init
loop-euros-init c = record { total = no-worth c.args.flows.now c.args.factors.now _ c.exactly-total.ensures; most = none-most _ c.exactly-total.ensures }

pub scaled-requires : goal.scaled-requires
scaled-requires c =
    let turn = zip_turn c.args.flows.now c.args.factors.now _ c.into_iter-euros-iterator.result _ c.next.new.self _ (search rules) (search rules)
    c.loop-euros.yielded_by _ c.in-Some.is c.next.ensures.steps in
    in-range c.args.flows.now c.args.factors.now _ _ _ c.requires.0 c.requires.1 turn.0 (turn.2 0) (turn.3 _)

pub plus-total-requires : goal.plus-total-requires
plus-total-requires c =
    let turn = zip_turn c.args.flows.now c.args.factors.now _ c.into_iter-euros-iterator.result _ c.next.new.self _ (search rules) (search rules)
    c.loop-euros.yielded_by _ c.in-Some.is c.next.ensures.steps in
    let most = flow-most c.args.flows.now c.args.factors.now _ _ _ c.requires.0 c.requires.1 turn.0 (turn.2 0) (turn.3 _) _ c.scaled.ensures in (
      record { lower = omega (arith, turn.0, c.requires.0.few); upper = omega (arith, turn.0, c.requires.0.few) },
      record { lower = omega (arith, most); upper = omega (arith, most) },
    )

pub loop-euros-preserved : goal.loop-euros-preserved
loop-euros-preserved c =
    let turn = zip_turn c.args.flows.now c.args.factors.now _ c.into_iter-euros-iterator.result _ c.next.new.self _ (search rules) (search rules)
    c.loop-euros.yielded_by _ c.in-Some.is c.next.ensures.steps in
    let most = flow-most c.args.flows.now c.args.factors.now _ _ _ c.requires.0 c.requires.1 turn.0 (turn.2 0) (turn.3 _) _ c.scaled.ensures in
    let next = worth-next c.args.flows.now c.args.factors.now _ _ _ c.requires.0 c.requires.1 turn.0 (turn.2 0) (turn.3 _) _ c.scaled.ensures _ _
    c.loop-euros.invariant.total c.plus-total.ensures in
    one-more c.args.flows.now c.args.factors.now _ _ _ next c.loop-euros.invariant.most most c.plus-total.ensures
