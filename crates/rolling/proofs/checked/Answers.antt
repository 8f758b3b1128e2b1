-- `checked`: a rate that is not right, and a right rate more, which fits into 16 bits.
-- The check leaves each of these goals open without its answer.
use Rattle.std.proofs.Common.{FitsSigned, false, true, ◌≡◌, ◌∙◌, arith, get_or, neg_ℤ, pos, rules, sym, w32}
use Rattle.std.proofs.Math.ListN.{length-set}
use Rattle.std.proofs.lemmas.Int.{ints, to_z-of_z}
use Rattle.model.specs.Layout.{daily_rate}
use Rattle.theory.proofs.acceptance.Runs.{right-next, wrong-at}
use Rattle.fields.proofs.DayRates.{between-true}
use Rattle.rolling.proofs.Rates.{copy-filled, day-right}
use Rattle.rolling.proofs.checked.Goals as goal

pub returns-then-not-is_rate-clause-right : goal.returns-then-not-is_rate-clause-right
returns-then-not-is_rate-clause-right c =
    let new = c.args.new.now.rates in
    let t = c.loop-t.t in
    let fits : FitsSigned w32 (get_or new t (pos 0)) = search rules in
    let read = to_z-of_z w32 (get_or new t (pos 0)) fits in
    let wrong : (daily_rate 2).right (get_or new t (pos 0)) ≡ false = rw read at (sym c.is_rate.ensures ∙ c.if-not-is_rate.true) in
    sym (day-right new (omega arith) (wrong-at (daily_rate 2) new t (pos 0) (omega arith) wrong))

pub loop-t-preserved : goal.loop-t-preserved
loop-t-preserved c =
    let l = c.loop-t in
    let new = c.args.new.now.rates in
    let fits : FitsSigned w32 (get_or new l.t (pos 0)) = search rules in
    let read = to_z-of_z w32 (get_or new l.t (pos 0)) fits in
    let right : (daily_rate 2).right (get_or new l.t (pos 0)) ≡ true = rw read at (sym c.is_rate.ensures ∙ c.if-not-is_rate.false) in
    let small = between-true {a = neg_ℤ (pos 1000)} {b = pos 10000} {z = get_or new l.t (pos 0)} right in
    record {
      right = right-next (daily_rate 2) new l.t (pos 0) (omega arith) l.invariant.right right;
      terms = length-set l.rates l.t _ ∙ l.invariant.terms;
      copied = copy-filled new _ l.rates l.t _ (pos 0) (omega arith) (omega arith) (omega (arith, ints, small.least, small.most)) l.invariant.copied;
    }
