-- What is promised of a UFR from a history of months, from the theorems of this folder. Assumes nothing.
use Prim.Native.Nat.{ℕ, ◌≤◌}
use mathlib.Core.Path.{◌≡◌, refl, ap, ◌∙◌}
use mathlib.Core.List.{List}
use native.Mathlib.Omega.{arith}
use borrow.Author.Tests.{le-leb, leb-true, eq-eqb, eqb-true}
use lib.Dec.{leb, eqb}
use lib.ListN.{length}
use lib.IntN.{ℤ, pos, ◌*ℤ◌}
use Rattle.std.proofs.lemmas.Bool.{and_from}
use Rattle.std.specs.Cmp.{first_so, second_so}
use Rattle.std.specs.Prelude.{◌↔◌, Option, Some, None, Ok, Err}
use Rattle.refusal.specs.Numbered.{number_in, refused_by}
use Rattle.refusal.specs.declared.Refusal.{Refusal}
use Rattle.model.specs.Numbers.{Bytes}
use Rattle.model.specs.Fields.{right_all}
use Rattle.model.specs.Refusals.{failing, first_of, refusal}
use Rattle.method.specs.Buffers.{valuation_checks}
use Rattle.monthsmodel.specs.Months.{month, months_of, hundreds, history_checks, ufr_refusal, ufr_found, found_or, ufr_answer}
use Rattle.monthsmodel.specs.Months.{months_checks, months_refusal, months_case, months_valuation, months_factors_after, months_rates_after}
use Rattle.monthsmodel.specs.Promises.{RoundedToHundred, SumFromAnyMonth, HistoryAccepted, HistoryAcceptedExactly, oldest_total, UfrFound, UfrFoundOfAll}
use Rattle.monthsmodel.specs.Promises.{OwnNumbersFirst, FieldAccepted, FileWithFieldAccepted, MonthsValuedWithField, MonthsAccepted, MonthsAcceptedExactly}
use Rattle.monthsmodel.specs.Promises.{MonthsKeepContainment, MonthsRefused, RefusedMonthsLeaveBuffers, UfrCall, MonthsCall, EveryUfrCall, EveryMonthsCall}
use Rattle.theory.proofs.general.Lists.{◌also◌}
use Rattle.theory.proofs.acceptance.Acceptance.{accepted-none, accepted-keeps, keeps-accepted}
use Rattle.theory.proofs.acceptance.Checks.{none-hold, none-holds, hold-none, none-fails, first-fails}
use Rattle.theory.proofs.acceptance.Runs.{values_length}
use Rattle.theory.proofs.acceptance.Within.{between-true, between-test, rates-lawful}
use Rattle.theory.proofs.containment.Valued.{answered-number, case-valued}
use Rattle.theory.proofs.months.Nearest.{nearest-hundred, nearest-once}
use Rattle.theory.proofs.months.Rotated.{oldest-sum}
use Rattle.theory.proofs.months.Found.{found-most, found-rounded}
use Rattle.theory.proofs.months.Field.{field-read}
use Rattle.theory.proofs.months.Valued.{own_first, history-after, as-if-field, is_found, is-accepted, within-limits}
use Rattle.theory.proofs.months.Contained.{months-contained}

-- ---- the UFR found

pub rounded_to_hundred : RoundedToHundred
rounded_to_hundred = record { nearest = nearest-hundred; once = nearest-once }

pub sum_from_any_month : SumFromAnyMonth
sum_from_any_month = record { same = oldest-sum }

module _ (history : List ℕ) (start : ℕ) where
  months-long : length (months_of history) ≡ 120
  unfolding months_of
  months-long = values_length month history 0 120

  history-none : (ufr_refusal history start ≡ 0) ↔ HistoryAccepted history start
  unfolding ufr_refusal
  history-none = (
    λ e.
        let passed = none-hold (history_checks history start) e in
        let long = first_so (eqb (length history) 240) (leb start 119) passed.0 in
        let place = leb-true start 119 (second_so (eqb (length history) 240) (leb start 119) passed.0) in
        let run = and_from (eqb (length (months_of history)) 120) (right_all month (months_of history)) (eq-eqb (length (months_of history)) 120 months-long) passed.1.0 in
        record {
          long = eqb-true (length history) 240 long;
          place = omega (arith, place);
          months = ((rates-lawful 120).within (months_of history) run).1;
          mean = between-true passed.1.1.0;
        },
    λ h.
        let ring = and_from (eqb (length history) 240) (leb start 119) (eq-eqb (length history) 240 h.long) (le-leb start 119 (omega (arith, h.place))) in
        let run = (rates-lawful 120).tested (months_of history) (months-long, h.months) in
        let months = second_so (eqb (length (months_of history)) 120) (right_all month (months_of history)) run in
        hold-none (history_checks history start) (ring also months also between-test h.mean also tt),
  )

  ufr-refused : (r : Refusal) → failing (history_checks history start) ≡ Some r → ufr_answer history start ≡ Err r
  unfolding ufr_answer
  ufr-refused r e = rw e

  number-found : (o : Option Refusal) (ufr : ℕ) → refused_by (found_or o ufr) ≡ number_in o
  number-found None ufr = refl
  number-found (Some r) ufr = refl

  module _ (none : ufr_refusal history start ≡ 0) where
    answer-found : ufr_answer history start ≡ Ok (ufr_found history)
    unfolding ufr_answer ufr_refusal
    answer-found = rw (none-fails (history_checks history start) none)

    ufr-found : UfrFound history start
    ufr-found =
        let z = oldest_total history start in
        record {
          answer = answer-found;
          most = found-most history start none;
          nearest = nearest-hundred z;
          found = λ q n.
              found-rounded history start none
              ∙ ap (λ (p : ℤ). pos 100 *ℤ p) (nearest-once z (hundreds z) q (nearest-hundred z) n);
        }

  pub ufr_call : UfrCall history start
  unfolding ufr_answer ufr_refusal first_of
  ufr_call = record {
    number = number-found (failing (history_checks history start)) (ufr_found history);
    refused = ufr-refused;
    exactly = history-none;
    found = ufr-found;
  }

pub history_accepted_exactly : HistoryAcceptedExactly
history_accepted_exactly = record { exactly = history-none }

pub ufr_found_of_all : UfrFoundOfAll
ufr_found_of_all = record { found = ufr-found }

pub every_ufr_call : EveryUfrCall
every_ufr_call = record { call = ufr_call }

-- ---- a file that is valued with it

pub own_numbers_first : OwnNumbersFirst
own_numbers_first = record { own = own_first; after = history-after }

field-accepted : (file : List ℕ) → Bytes file → refusal file ≡ 0 → (ufr : ℕ) → ufr ≤ 5000 → FieldAccepted file ufr
field-accepted file b accepted ufr most = let (none, read) = field-read file b accepted ufr most in record { accepted = none; case_read = read }

pub file_with_field_accepted : FileWithFieldAccepted
file_with_field_accepted = record { read = field-accepted }

pub months_valued_with_field : MonthsValuedWithField
months_valued_with_field = record { valued = as-if-field }

pub months_keep_containment : MonthsKeepContainment
months_keep_containment = record { kept = months-contained }

months-refused : (file history : List ℕ) (start : ℕ) (factors : List ℕ) (rates : List ℤ) (r : Refusal)
    → failing (months_checks file history start (length factors) (length rates)) ≡ Some r → MonthsRefused r file history start factors rates
unfolding months_valuation months_factors_after months_rates_after
months-refused file history start factors rates r e = record { answered = rw e; factors_kept = rw e; rates_kept = rw e }

pub refused_months_leave_buffers : RefusedMonthsLeaveBuffers
refused_months_leave_buffers = record { refused = months-refused }

module _ (file : List ℕ) (b : Bytes file) (history : List ℕ) (start factors rates : ℕ) where
  long : failing (months_checks file history start factors rates) ≡ None → (240 ≤ factors) × (240 ≤ rates)
  long none =
      let first = (none-holds (months_checks file history start factors rates) none).0 in
      (leb-true 240 factors (first_so (leb 240 factors) (leb 240 rates) first), leb-true 240 rates (second_so (leb 240 factors) (leb 240 rates) first))

  months-none : (months_refusal file history start factors rates ≡ 0) ↔ MonthsAccepted file history start factors rates
  unfolding months_refusal ufr_refusal
  months-none = (
    λ e.
        let none = none-fails (months_checks file history start factors rates) e in
        record {
          factors_enough = (long none).0;
          rates_enough = (long none).1;
          keeps = (accepted-keeps file b (is-accepted file history start factors rates none)).0;
          ring = (history-none history start).0 (is_found file history start factors rates none);
        },
    λ h.
        let own : failing (valuation_checks factors rates file) ≡ None =
        rw (le-leb 240 factors h.factors_enough, le-leb 240 rates h.rates_enough) (accepted-none file (keeps-accepted file h.keeps).0) in
        let found = none-fails (history_checks history start) ((history-none history start).1 h.ring) in
        first-fails (months_checks file history start factors rates) None (history-after file history start factors rates own ∙ found),
  )

pub months_accepted_exactly : MonthsAcceptedExactly
months_accepted_exactly = record { exactly = months-none }

pub months_call : (file : List ℕ) → Bytes file → (history : List ℕ) (start : ℕ) (factors : List ℕ) (rates : List ℤ)
    → MonthsCall file history start factors rates
unfolding months_refusal months_valuation months_factors_after months_rates_after first_of
months_call file b history start factors rates =
    let refusals = months_checks file history start (length factors) (length rates) in
    record {
      bytes = b;
      number = answered-number (failing refusals) (months_case file history);
      refused = months-refused file history start factors rates;
      exactly = months-none file b history start (length factors) (length rates);
      found = λ e. ufr-found history start (is_found file history start (length factors) (length rates) (none-fails refusals e));
      valued = λ e.
          let none = none-fails refusals e in
          let (enough, other_enough) = long file b history start (length factors) (length rates) none in
          case-valued (months_case file history) (within-limits file history start (length factors) (length rates) none) enough other_enough
          (rw none) (rw none) (rw none);
      with_field = λ accepted found. as-if-field file b accepted history start found factors rates;
      field_accepted = λ accepted found. field-accepted file b accepted (ufr_found history) (found-most history start found);
    }

pub every_months_call : EveryMonthsCall
every_months_call = record { call = months_call }
