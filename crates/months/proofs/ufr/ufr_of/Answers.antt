-- `ufr_of`: each refusal, and the rounded mean. The check leaves each of these goals open without its answer.
use Rattle.std.proofs.Common.{◌<◌, false, neg_ℤ, of_z, pos, to_z, true, ◌*ℤ◌, ◌≡◌, ◌∙◌, [], ap, arith, refl, sym, w32, w64}
use Rattle.std.proofs.lemmas.Int.{ints, to_z-of_z}
use Rattle.std.proofs.lemmas.Result.{err_from_is_err_and}
use Rattle.model.specs.Fields.{right_all, within_z}
use Rattle.monthsmodel.specs.Months.{month, hundreds, total, rounded_ufr}
use Rattle.refusal.specs.declared.Refusal.TheVariants.{History}
use Rattle.theory.proofs.months.Promised.{ufr_call}
use Rattle.fields.proofs.DayRates.{between-true}
use Rattle.months.proofs.Means.{Small, all, first, mean-is, rounded, right-more-month, total-more-month, wrong-month, other_length, start-past, month-past, ufr-past, ufr-found}
use Rattle.months.proofs.Read.{month-read}
use Rattle.months.proofs.ufr.ufr_of.Goals as goal

pub returns-then-history-ne240 : goal.returns-then-history-ne240
returns-then-history-ne240 c = record {
  value = other_length c.args.history.now c.args.start c.if-history-ne240.true;
  call = ufr_call c.args.history.now c.args.start;
}

pub returns-in_err-ok_or : goal.returns-in_err-ok_or
returns-in_err-ok_or c =
    let p = err_from_is_err_and c.from_residual.result c.from_residual.ensures.1 in
    let none = c.in_err-ok_or.ensures.ok_part in
    let value = rw none at c.in_err-ok_or.ensures.value in
    let told : c.in_err-ok_or.field-0.0 ≡ History = cc in
    let past : c.args.start < 120 → ⊥ = λ l. let some = (rw none at c.new.ensures.right).1 (omega arith, omega (arith, l)) in cc in
    rw (p.1, p.2, told) record {
      value = start-past c.args.history.now c.args.start (omega (arith, past));
      call = ufr_call c.args.history.now c.args.start;
    }

pub loop-bytes-init : goal.loop-bytes-init
unfolding total
loop-bytes-init c = record { right = refl; sum = refl; small = record { least = omega (arith, ints); most = omega (arith, ints) } }

pub returns-then-not-is_rate : goal.returns-then-not-is_rate
returns-then-not-is_rate c =
    let few : c.loop-bytes.bytes-index < 120 = omega (arith, c.as_chunks.ensures.front_len) in
    let z = c.rate_of-month.result in
    let is = month-read c.args.history.now c.as_chunks.result.0.now c.loop-bytes.bytes-index [] c.as_chunks.ensures.front c.loop-bytes-test.true c.rate_of-month.ensures in
    let read = to_z-of_z w32 z (record { sfits = c.rate_of-month.type_inv }) in
    let wrong : month.right z ≡ false = rw read at (sym c.is_rate.ensures ∙ c.if-not-is_rate.true) in
    let place = (rw c.in_ok-ok_or.ensures.ok_part at c.new.ensures.right).0 refl in
    record {
      value = month-past c.args.history.now c.args.start (omega arith) (omega (arith, place.1))
          (wrong-month c.args.history.now c.loop-bytes.bytes-index few is wrong);
      call = ufr_call c.args.history.now c.args.start;
    }

pub loop-bytes-preserved : goal.loop-bytes-preserved
loop-bytes-preserved c =
    let l = c.loop-bytes in
    let history = c.args.history.now in
    let z = c.rate_of-month.result in
    let is = month-read history c.as_chunks.result.0.now l.bytes-index [] c.as_chunks.ensures.front c.loop-bytes-test.true c.rate_of-month.ensures in
    let read = to_z-of_z w32 z (record { sfits = c.rate_of-month.type_inv }) in
    let right : month.right z ≡ true = rw read at (sym c.is_rate.ensures ∙ c.if-not-is_rate.false) in
    let rate = between-true {a = neg_ℤ (pos 1000)} {b = pos 10000} {z = z} right in
    let small = l.invariant.small in
    let few : l.bytes-index < 120 = omega (arith, c.as_chunks.ensures.front_len) in
    let next = total-more-month history l.bytes-index is in
    record {
      right = right-more-month history l.bytes-index is right l.invariant.right;
      sum = omega (arith, ints, rate.least, rate.most, small.least, small.most);
      small = record { least = omega (arith, ints, rate.least, rate.most, small.least, small.most); most = omega (arith, ints, rate.least, rate.most, small.least, small.most) };
    }

pub returns-then-not-is_ufr : goal.returns-then-not-is_ufr
returns-then-not-is_ufr c =
    let history = c.args.history.now in
    let l = c.loop-bytes in
    let end : l.bytes-index ≡ 120 = omega (arith, c.as_chunks.ensures.front_len) in
    let sum : total (first history l.bytes-index) ≡ all history = ap (λ n. total (first history n)) end in
    let near = l.invariant.small in
    let small : Small 1200000 (all history) = record { least = omega (arith, ints, l.invariant.sum, near.least, l.sum-is); most = omega (arith, ints, l.invariant.sum, near.most, l.sum-is) } in
    let (mean, few) = mean-is history (omega (arith, ints)) small c.div_euclid-ufr.ensures in
    let q = c.div_euclid-ufr.result in
    let ufr = to_z w64 (of_z w64 (to_z w64 (of_z w64 q) *ℤ pos 100)) in
    let hundred : ufr ≡ pos 100 *ℤ hundreds (all history) = omega (arith, ints) in
    let is : ufr ≡ rounded_ufr history = hundred ∙ rounded history in
    let right : right_all month (first history 120) ≡ true = rw end at l.invariant.right in
    let past : within_z (pos 0) (pos 5000) ufr ≡ false = sym c.is_ufr.ensures ∙ c.if-not-is_ufr.true in
    let place = (rw c.in_ok-ok_or.ensures.ok_part at c.new.ensures.right).0 refl in
    record {
      value = ufr-past history c.args.start (omega arith) (omega (arith, place.1)) right (rw is at past);
      call = ufr_call history c.args.start;
    }

pub returns : goal.returns
returns c =
    let history = c.args.history.now in
    let l = c.loop-bytes in
    let end : l.bytes-index ≡ 120 = omega (arith, c.as_chunks.ensures.front_len) in
    let sum : total (first history l.bytes-index) ≡ all history = ap (λ n. total (first history n)) end in
    let near = l.invariant.small in
    let small : Small 1200000 (all history) = record { least = omega (arith, ints, l.invariant.sum, near.least, l.sum-is); most = omega (arith, ints, l.invariant.sum, near.most, l.sum-is) } in
    let (mean, few) = mean-is history (omega (arith, ints)) small c.div_euclid-ufr.ensures in
    let q = c.div_euclid-ufr.result in
    let ufr = to_z w64 (of_z w64 (to_z w64 (of_z w64 q) *ℤ pos 100)) in
    let hundred : ufr ≡ pos 100 *ℤ hundreds (all history) = omega (arith, ints) in
    let is : ufr ≡ rounded_ufr history = hundred ∙ rounded history in
    let right : right_all month (first history 120) ≡ true = rw end at l.invariant.right in
    let within : within_z (pos 0) (pos 5000) ufr ≡ true = sym c.is_ufr.ensures ∙ c.if-not-is_ufr.false in
    let place = (rw c.in_ok-ok_or.ensures.ok_part at c.new.ensures.right).0 refl in
    record {
      value = ufr-found history c.args.start (omega arith) (omega (arith, place.1)) right ufr is (rw is at within);
      call = ufr_call history c.args.start;
    }
