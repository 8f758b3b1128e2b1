-- Each promise of specs/Promises.antt used once in plain numbers, at its largest and its smallest: months 1 and 120, a start of 0 and 119, a
-- UFR of 0 and 5,000, 120 months of 4.2 percent, entries 0 and 239. Nothing else rests on this: a promise that said less would not give it.
-- Assumes nothing.
use Prim.Native.Nat.{ℕ, ◌≤◌, ◌<◌}
use mathlib.Core.Path.{◌≡◌, refl, ◌∙◌}
use mathlib.Core.List.{List}
use native.Mathlib.Omega.{arith}
use borrow.Author.Tests.{le-leb}
use lib.ListN.{length, get_or}
use lib.IntN.{ℤ, pos, neg_ℤ, ◌*ℤ◌}
use Rattle.std.specs.Prelude.{Some, None, Ok, Err}
use Rattle.refusal.specs.Numbered.{refused_by}
use Rattle.refusal.specs.declared.Refusal.{Refusal}
use Rattle.model.specs.Numbers.{Bytes}
use Rattle.model.specs.Case.{with_ufr}
use Rattle.model.specs.Limits.{Between}
use Rattle.model.specs.Layout.{Keeps, case_of}
use Rattle.model.specs.Refusals.{failing, refusal}
use Rattle.method.specs.Buffers.{factors_after, rates_after, valuation_of, valuation_checks, refusal_number}
use Rattle.method.specs.Promises.{CaseValued}
use Rattle.monthsmodel.specs.Months.{months_of, oldest_first, total, hundreds, Nearest, rounded_ufr, history_checks, ufr_refusal, ufr_found, ufr_answer}
use Rattle.monthsmodel.specs.Months.{months_checks, months_refusal, months_case, months_valuation, months_factors_after, months_rates_after}
use Rattle.monthsmodel.specs.Months.{with_ufr_field, ValuedWithField}
use Rattle.monthsmodel.specs.Promises.{RoundedToHundred, SumFromAnyMonth, HistoryAccepted, HistoryAcceptedExactly, UfrFound, UfrFoundOfAll}
use Rattle.monthsmodel.specs.Promises.{OwnNumbersFirst, FileWithFieldAccepted, MonthsValuedWithField, MonthsAcceptedExactly, MonthsKeepContainment}
use Rattle.monthsmodel.specs.Promises.{RefusedMonthsLeaveBuffers, UfrCall, MonthsCall, EveryUfrCall, EveryMonthsCall}
use Rattle.model.specs.declared.figures.Valuation.{Valuation}
use Rattle.model.proofs.Computing.{pairs}
use Rattle.rollingmodel.proofs.Plain.{WidthsKept, widths-kept}
use Rattle.monthsmodel.proofs.Computing.{all}

-- ---- the UFR found

-- a mean of 50 steps is 1 hundred and not 0, and one of 50 and a 120th is nearer to 1; the same below 0
tie-is-higher : Nearest (pos 6000) (pos 0) → ⊥
tie-is-higher n = let l = n.upward (pos 1) refl in absurd l.le

farther-is-none : Nearest (pos 6001) (pos 0) → ⊥
farther-is-none n = let l = n.nearest (pos 1) in omega (arith, l)

rounded-halves : RoundedToHundred → (q : ℤ)
    → (Nearest (pos 606000) q → q ≡ pos 51) × (Nearest (neg_ℤ (pos 6000)) q → q ≡ pos 0) × (Nearest (neg_ℤ (pos 6001)) q → q ≡ neg_ℤ (pos 1))
rounded-halves r q = (
  λ n. r.once (pos 606000) q (pos 51) n (r.nearest (pos 606000)),
  λ n. r.once (neg_ℤ (pos 6000)) q (pos 0) n (r.nearest (neg_ℤ (pos 6000))),
  λ n. r.once (neg_ℤ (pos 6001)) q (neg_ℤ (pos 1)) n (r.nearest (neg_ℤ (pos 6001))),
)

sum-from-ends : SumFromAnyMonth → (history : List ℕ)
    → (total (oldest_first 0 (months_of history)) ≡ total (months_of history))
    × (total (oldest_first 119 (months_of history)) ≡ total (months_of history))
sum-from-ends p history = (p.same history 0 (omega arith), p.same history 119 (omega arith))

-- the facts of a history that gives a UFR: a full ring, its first and last month, and a mean that is a UFR
abbrev HistoryFacts : List ℕ → ℕ → Type 0
HistoryFacts history start =
    (length history ≡ 240) × (start ≤ 119)
    × Between (neg_ℤ (pos 1000)) (pos 10000) (get_or (months_of history) 0 (pos 0))
    × Between (neg_ℤ (pos 1000)) (pos 10000) (get_or (months_of history) 119 (pos 0))
    × Between (pos 0) (pos 5000) (rounded_ufr history)

history-facts : (history : List ℕ) (start : ℕ) → HistoryAccepted history start → HistoryFacts history start
history-facts history start h = (h.long, omega (arith, h.place), h.months 0 (omega arith), h.months 119 (omega arith), h.mean)

accepted-history : HistoryAcceptedExactly → (history : List ℕ) (start : ℕ) → ufr_refusal history start ≡ 0 → HistoryFacts history start
accepted-history p history start e = history-facts history start ((p.exactly history start).0 e)

history-accepted : HistoryAcceptedExactly → (history : List ℕ) → length history ≡ 240
    → ((i : ℕ) → i < 120 → Between (neg_ℤ (pos 1000)) (pos 10000) (get_or (months_of history) i (pos 0)))
    → Between (pos 0) (pos 5000) (rounded_ufr history)
    → (ufr_refusal history 0 ≡ 0) × (ufr_refusal history 119 ≡ 0)
history-accepted p history long months mean = (
  (p.exactly history 0).1 record { long = long; place = omega arith; months = months; mean = mean },
  (p.exactly history 119).1 record { long = long; place = omega arith; months = months; mean = mean },
)

-- the UFR is at most 5,000 steps, and 100 times whatever number of hundreds is nearest to the mean
abbrev FoundFacts : List ℕ → ℕ → Type 0
FoundFacts history start =
    (ufr_answer history start ≡ Ok (ufr_found history)) × (ufr_found history < 5001)
    × Nearest (total (oldest_first start (months_of history))) (hundreds (total (oldest_first start (months_of history))))
    × ((q : ℤ) → Nearest (total (oldest_first start (months_of history))) q → pos (ufr_found history) ≡ pos 100 *ℤ q)

found-facts : (history : List ℕ) (start : ℕ) → UfrFound history start → FoundFacts history start
found-facts history start f = (f.answer, omega (arith, f.most), f.nearest, f.found)

ufr-found : UfrFoundOfAll → (history : List ℕ) (start : ℕ) → ufr_refusal history start ≡ 0 → FoundFacts history start
ufr-found p history start e = found-facts history start (p.found history start e)

-- ---- a file that is valued with it

own-first : OwnNumbersFirst → (file history : List ℕ) (factors rates : ℕ) (r : Refusal) → failing (valuation_checks factors rates file) ≡ Some r
    → failing (months_checks file history 120 factors rates) ≡ Some r
own-first p file history factors rates r e = p.own file history 120 factors rates r e

short-first : OwnNumbersFirst → (file history : List ℕ) (r : Refusal) → failing (valuation_checks 0 239 file) ≡ Some r
    → failing (months_checks file history 0 0 239) ≡ Some r
short-first p file history r e = p.own file history 0 0 239 r e

history-last : OwnNumbersFirst → (file history : List ℕ) (start factors rates : ℕ) → failing (valuation_checks factors rates file) ≡ None
    → failing (months_checks file history start factors rates) ≡ failing (history_checks history start)
history-last p file history start factors rates e = p.after file history start factors rates e

with-field-read : FileWithFieldAccepted → (file : List ℕ) → Bytes file → refusal file ≡ 0
    → (refusal (with_ufr_field 0 file) ≡ 0) × (refusal (with_ufr_field 5000 file) ≡ 0)
    × (case_of (with_ufr_field 0 file) ≡ with_ufr 0 (case_of file)) × (case_of (with_ufr_field 5000 file) ≡ with_ufr 5000 (case_of file))
with-field-read p file b accepted =
    let low = p.read file b accepted 0 (omega arith) in
    let high = p.read file b accepted 5000 (omega arith) in
    (low.accepted, high.accepted, low.case_read, high.case_read)

-- 120 months of 4.2 percent
abbrev flat : List ℕ
flat = pairs 120 0x10 0x68

flat-found : (start : ℕ) → start ≤ 119 → ufr_refusal flat start ≡ 0
unfolding all
flat-found start l = rw (le-leb start 119 l)

-- the answer, and both buffers, are those of the file with a UFR of 4,200
abbrev FlatValued : List ℕ → ℕ → List ℕ → List ℤ → Type 0
FlatValued file start factors rates =
    (months_valuation file flat start (length factors) (length rates) ≡ valuation_of (length factors) (length rates) (with_ufr_field 4200 file))
    × (months_factors_after file flat start factors rates ≡ factors_after (with_ufr_field 4200 file) factors rates)
    × (months_rates_after file flat start factors rates ≡ rates_after (with_ufr_field 4200 file) factors rates)

flat-valued : (file : List ℕ) (start : ℕ) (factors : List ℕ) (rates : List ℤ) → ValuedWithField file flat start factors rates
    → FlatValued file start factors rates
unfolding all
flat-valued file start factors rates v = (v.answer, v.factors_after, v.rates_after)

flat-with-field : MonthsValuedWithField → (file : List ℕ) → Bytes file → refusal file ≡ 0 → (start : ℕ) → start ≤ 119
    → (factors : List ℕ) (rates : List ℤ) → FlatValued file start factors rates
flat-with-field p file b accepted start l factors rates =
    flat-valued file start factors rates (p.valued file b accepted flat start (flat-found start l) factors rates)

-- the shortest buffers that are long enough
months-accepted : MonthsAcceptedExactly → (file : List ℕ) → Bytes file → Keeps file → (history : List ℕ) (start : ℕ) → HistoryAccepted history start
    → months_refusal file history start 240 240 ≡ 0
months-accepted p file b k history start h =
    (p.exactly file b history start 240 240).1 record { factors_enough = omega arith; rates_enough = omega arith; keeps = k; ring = h }

accepted-months : MonthsAcceptedExactly → (file : List ℕ) → Bytes file → (history : List ℕ) (start factors rates : ℕ)
    → months_refusal file history start factors rates ≡ 0
    → (239 < factors) × (239 < rates) × Keeps file × (length history ≡ 240) × (start ≤ 119)
accepted-months p file b history start factors rates e =
    let a = (p.exactly file b history start factors rates).0 e in
    (omega (arith, a.factors_enough), omega (arith, a.rates_enough), a.keeps, a.ring.long, omega (arith, a.ring.place))

-- the case that is valued: that of the file, with the UFR found
case-valued : (file history : List ℕ) → months_case file history ≡ with_ufr (ufr_found history) (case_of file)
case-valued file history = refl

months-contained : MonthsKeepContainment → (file history : List ℕ) (start : ℕ) (factors : List ℕ) (rates : List ℤ) (v : Valuation)
    → months_valuation file history start (length factors) (length rates) ≡ Ok v
    → WidthsKept (months_case file history) v (months_factors_after file history start factors rates)
    (months_rates_after file history start factors rates)
months-contained p file history start factors rates v e =
    widths-kept (months_case file history) v (months_factors_after file history start factors rates)
    (months_rates_after file history start factors rates) (p.kept file history start factors rates v e)

-- a refusal, whatever it is
abbrev RefusalKeeps : Refusal → List ℕ → List ℕ → ℕ → List ℕ → List ℤ → Type 0
RefusalKeeps r file history start factors rates =
    (months_valuation file history start (length factors) (length rates) ≡ Err r)
    × (months_factors_after file history start factors rates ≡ factors) × (months_rates_after file history start factors rates ≡ rates)

buffers-kept : RefusedMonthsLeaveBuffers → (file history : List ℕ) (start : ℕ) (factors : List ℕ) (rates : List ℤ) (r : Refusal)
    → failing (months_checks file history start (length factors) (length rates)) ≡ Some r → RefusalKeeps r file history start factors rates
buffers-kept p file history start factors rates r e = let u = p.refused file history start factors rates r e in (u.answered, u.factors_kept, u.rates_kept)

-- ---- every call

module _ (history : List ℕ) (start : ℕ) (c : UfrCall history start) where
  refused-history : (r : Refusal) → failing (history_checks history start) ≡ Some r → ufr_answer history start ≡ Err r
  refused-history = c.refused

  found-history : HistoryAccepted history start → (refused_by (ufr_answer history start) ≡ 0) × FoundFacts history start
  found-history h = let e = c.exactly.1 h in (c.number ∙ e, found-facts history start (c.found e))

  right-history : ufr_refusal history start ≡ 0 → HistoryFacts history start
  right-history e = history-facts history start (c.exactly.0 e)

module _ (file history : List ℕ) (start : ℕ) (factors : List ℕ) (rates : List ℤ) (c : MonthsCall file history start factors rates) where
  refused-months : (r : Refusal) → failing (months_checks file history start (length factors) (length rates)) ≡ Some r
      → RefusalKeeps r file history start factors rates
  refused-months r e = let u = c.refused r e in (u.answered, u.factors_kept, u.rates_kept)

  valued-months : 240 ≤ length factors → 240 ≤ length rates → Keeps file → HistoryAccepted history start
      → (refusal_number (months_valuation file history start (length factors) (length rates)) ≡ 0)
      × FoundFacts history start
      × CaseValued (months_case file history) (months_valuation file history start (length factors) (length rates))
      factors (months_factors_after file history start factors rates) rates (months_rates_after file history start factors rates)
  valued-months long other_long k h =
      let e = c.exactly.1 record { factors_enough = long; rates_enough = other_long; keeps = k; ring = h } in
      (c.number ∙ e, found-facts history start (c.found e), c.valued e)

  right-months : months_refusal file history start (length factors) (length rates) ≡ 0 → Bytes file × Keeps file × HistoryFacts history start
  right-months e = let a = c.exactly.0 e in (c.bytes, a.keeps, history-facts history start a.ring)

  field-of-months : refusal file ≡ 0 → ufr_refusal history start ≡ 0
      → (refusal (with_ufr_field (ufr_found history) file) ≡ 0)
      × (case_of (with_ufr_field (ufr_found history) file) ≡ with_ufr (ufr_found history) (case_of file))
  field-of-months accepted found = let f = c.field_accepted accepted found in (f.accepted, f.case_read)

flat-called : (file : List ℕ) (start : ℕ) (factors : List ℕ) (rates : List ℤ) → MonthsCall file flat start factors rates → refusal file ≡ 0 → start ≤ 119
    → FlatValued file start factors rates
flat-called file start factors rates c accepted l = flat-valued file start factors rates (c.with_field accepted (flat-found start l))

-- of all arguments
calls : EveryUfrCall → EveryMonthsCall → (file : List ℕ) → Bytes file → (history : List ℕ) (start : ℕ) (factors : List ℕ) (rates : List ℤ)
    → UfrCall history start × MonthsCall file history start factors rates
calls u v file b history start factors rates = (u.call history start, v.call file b history start factors rates)
