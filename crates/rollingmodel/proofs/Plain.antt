-- Each promise of specs/Promises.antt used once in plain numbers, at its largest and its smallest: terms 1 and 60, entries 0 and 239, a list of
-- changes of any length, a window from any slot on. Nothing else rests on this: a promise that said less would not give it. Assumes nothing.
use Prim.Native.Nat.{ℕ, suc, ◌+◌, ◌*◌, ◌≤◌, ◌<◌}
use mathlib.Core.Path.{◌≡◌, refl, ap, ◌∙◌}
use mathlib.Core.Bool.{true, false}
use mathlib.Core.List.{List, [], ◌∷◌, ◌++◌}
use mathlib.Core.Logic.{◌≢◌}
use native.Mathlib.Omega.{arith}
use lib.ListN.{length, get_or, drop}
use lib.IntN.{ℤ, pos, ◌+ℤ◌}
use lib.Signed.{◌≤ℤ◌}
use Rattle.std.specs.Prelude.{Some, Ok, Err}
use Rattle.refusal.specs.declared.Refusal.{Refusal}
use Rattle.model.specs.Case.{FileCase, with_days, s}
use Rattle.model.specs.Limits.{DayWithin, DaysWithin, WithinLimits}
use Rattle.model.specs.Fields.{right_all}
use Rattle.model.specs.Layout.{day, Present, Agrees, file_of}
use Rattle.model.specs.Refusals.{failing}
use Rattle.method.specs.Exact as Exact
use Rattle.method.specs.Containment.{ContainmentAndWidth}
use Rattle.method.specs.Margins.{WL, WB}
use Rattle.method.specs.Buffers.{factors_after, rates_after, valuation_of, refusal_number}
use Rattle.savingmodel.specs.Saving.{case_refusal}
use Rattle.rollingmodel.specs.Rolling.{slot, days_held, empty_window, rolling_right, add_refusal, drop_refusal, with_day_in, add_day, drop_day}
use Rattle.rollingmodel.specs.Rolling.{Change, changed_by, queued_by}
use Rattle.rollingmodel.specs.Rolling.{rolling_checks, rolling_refusal, rolling_valuation, rolling_factors_after, rolling_rates_after, ValuedAsFile}
use Rattle.method.specs.Promises.{given, CaseValued}
use Rattle.rollingmodel.specs.Promises.{RightExactly, Holds, EmptyHoldsNothing, ChangesHold, ChangesOfRightHold}
use Rattle.rollingmodel.specs.Promises.{DamagedAheadOfAll, FullExactly, EmptyExactly, RefusedChangesNothing}
use Rattle.rollingmodel.specs.Promises.{WindowValuedAsFile, WindowAcceptedExactly, WindowKeepsContainment, RefusedWindowLeavesBuffers}
use Rattle.rollingmodel.specs.Promises.{AlikeAnswers, ChangesAlike, FreeSlotsAlike, AddCall, DropCall, WindowCall, EveryAddCall, EveryDropCall, EveryWindowCall}
use Rattle.model.specs.declared.figures.Valuation.{Valuation}
use Rattle.model.specs.declared.figures.Verdict.TheVariants.{Onbeslist}
use Rattle.rollingmodel.specs.declared.RollingWindow.{RollingWindow}

-- ---- what a window holds

-- the stored sums of terms 1 and 60 are those of some days
abbrev SumsOf : RollingWindow → List (List ℤ) → Type 0
SumsOf w days = (get_or w.sums 0 (pos 0) ≡ s days 1) × (get_or w.sums 59 (pos 0) ≡ s days 60)

right-facts : RightExactly → (w : RollingWindow) → rolling_right w ≡ true
    → (w.count < 71) × (w.start < 70) × (right_all (day 2) (days_held w) ≡ true) × SumsOf w (days_held w)
right-facts p w h =
    let r = p.facts w h in
    (omega (arith, r.count), r.start, r.days, (r.sums 0 (omega arith), r.sums 59 (omega arith)))

right-test : RightExactly → (w : RollingWindow) → w.count < 71 → w.start < 70 → right_all (day 2) (days_held w) ≡ true
    → ((t : ℕ) → t < 60 → get_or w.sums t (pos 0) ≡ s (days_held w) (suc t)) → rolling_right w ≡ true
right-test p w count start days sums = p.test w record { count = omega (arith, count); start = start; days = days; sums = sums }

empty-holds : EmptyHoldsNothing → (rolling_right empty_window ≡ true) × (length empty_window.rates ≡ 4200) × (days_held empty_window ≡ [])
empty-holds p = (p.right, p.holds.long, p.holds.held)

changes-hold : ChangesHold → (cs : List Change)
    → (days_held (changed_by empty_window cs) ≡ queued_by [] cs) × (rolling_right (changed_by empty_window cs) ≡ true)
    × SumsOf (changed_by empty_window cs) (queued_by [] cs)
changes-hold p cs = let h = p.after cs in (h.days, h.right, (h.sums 0 (omega arith), h.sums 59 (omega arith)))

-- what is held, of a window that holds some days
held : (w : RollingWindow) (days : List (List ℤ)) → Holds w days
    → (length w.rates ≡ 4200) × (w.count < 71) × (w.start < 70) × (days_held w ≡ days) × SumsOf w days
held w days h = (
  h.long,
  omega (arith, h.right.count),
  h.right.start,
  h.held,
  (
    h.right.sums 0 (omega arith) ∙ ap (λ (ds : List (List ℤ)). s ds 1) h.held,
    h.right.sums 59 (omega arith) ∙ ap (λ (ds : List (List ℤ)). s ds 60) h.held,
  ),
)

changes-of-right-hold : RightExactly → ChangesOfRightHold → (w : RollingWindow) → rolling_right w ≡ true → length w.rates ≡ 4200 → (cs : List Change)
    → (rolling_right (changed_by w cs) ≡ true) × (days_held (changed_by w cs) ≡ queued_by (days_held w) cs)
    × SumsOf (changed_by w cs) (queued_by (days_held w) cs)
changes-of-right-hold r p w right long cs =
    let h = p.after cs w (days_held w) record { long = long; right = r.facts w right; held = refl } in
    let (rates, count, start, days, sums) = held (changed_by w cs) (queued_by (days_held w) cs) h in
    (r.test (changed_by w cs) h.right, days, sums)

-- ---- refusals

damaged-first : DamagedAheadOfAll → (w : RollingWindow) → rolling_right w ≡ false → (new : List ℤ) (k : FileCase)
    → (add_refusal w new ≡ 27) × (drop_refusal w ≡ 27) × (rolling_refusal w k 0 239 ≡ 27)
damaged-first p w h new k = ((p.adding w new).1 h, (p.dropping w).1 h, (p.valuing w k 0 239).1 h)

right-never : DamagedAheadOfAll → (w : RollingWindow) → rolling_right w ≡ true → (new : List ℤ) (k : FileCase) (factors rates : ℕ)
    → (add_refusal w new ≢ 27) × (drop_refusal w ≢ 27) × (rolling_refusal w k factors rates ≢ 27)
right-never p w h new k factors rates = (
  λ e. let wrong = (p.adding w new).0 e in cc,
  λ e. let wrong = (p.dropping w).0 e in cc,
  λ e. let wrong = (p.valuing w k factors rates).0 e in cc,
)

-- whatever the new day is, also one without rates
full-window : RightExactly → FullExactly → (w : RollingWindow) → rolling_right w ≡ true → w.count ≡ 70 → (new : List ℤ)
    → (add_refusal w [] ≡ 15) × (add_refusal w new ≡ 15)
full-window r p w right full new = ((p.full w []).1 (r.facts w right, full), (p.full w new).1 (r.facts w right, full))

fifteen : RightExactly → FullExactly → (w : RollingWindow) (new : List ℤ) → add_refusal w new ≡ 15 → (rolling_right w ≡ true) × (w.count ≡ 70)
fifteen r p w new e = let (right, full) = (p.full w new).0 e in (r.test w right, full)

empty-window : RightExactly → EmptyExactly → (w : RollingWindow) → rolling_right w ≡ true → w.count ≡ 0 → drop_refusal w ≡ 16
empty-window r p w right none = (p.empty w).1 (r.facts w right, none)

sixteen : RightExactly → EmptyExactly → (w : RollingWindow) → drop_refusal w ≡ 16 → (rolling_right w ≡ true) × (w.count ≡ 0)
sixteen r p w e = let (right, none) = (p.empty w).0 e in (r.test w right, none)

-- 5, 15, 16 and 27 each give the window back, and the number
refused-kept : RefusedChangesNothing → (w : RollingWindow) (new : List ℤ)
    → (add_refusal w new ≡ 5 → add_day w new ≡ record { refusal = 5; window = w })
    × (add_refusal w new ≡ 15 → add_day w new ≡ record { refusal = 15; window = w })
    × (add_refusal w new ≡ 27 → add_day w new ≡ record { refusal = 27; window = w })
    × (drop_refusal w ≡ 16 → drop_day w ≡ record { refusal = 16; window = w })
    × (drop_refusal w ≡ 27 → drop_day w ≡ record { refusal = 27; window = w })
refused-kept p w new = (
  λ e. p.adding w new (λ z. let never : ⊥ = omega (arith, e, z) in never) ∙ ap (λ (r : ℕ). record { refusal = r; window = w }) e,
  λ e. p.adding w new (λ z. let never : ⊥ = omega (arith, e, z) in never) ∙ ap (λ (r : ℕ). record { refusal = r; window = w }) e,
  λ e. p.adding w new (λ z. let never : ⊥ = omega (arith, e, z) in never) ∙ ap (λ (r : ℕ). record { refusal = r; window = w }) e,
  λ e. p.dropping w (λ z. let never : ⊥ = omega (arith, e, z) in never) ∙ ap (λ (r : ℕ). record { refusal = r; window = w }) e,
  λ e. p.dropping w (λ z. let never : ⊥ = omega (arith, e, z) in never) ∙ ap (λ (r : ℕ). record { refusal = r; window = w }) e,
)

-- ---- a window that is valued

-- the answer, and entries 0, 239 and 240 of both buffers
abbrev SameAsFile : RollingWindow → FileCase → List ℕ → List ℕ → List ℤ → Type 0
SameAsFile w k file factors rates =
    (rolling_valuation w k (length factors) (length rates) ≡ valuation_of (length factors) (length rates) file)
    × (get_or (rolling_factors_after w k factors rates) 0 0 ≡ get_or (factors_after file factors rates) 0 0)
    × (get_or (rolling_factors_after w k factors rates) 239 0 ≡ get_or (factors_after file factors rates) 239 0)
    × (get_or (rolling_factors_after w k factors rates) 240 0 ≡ get_or (factors_after file factors rates) 240 0)
    × (get_or (rolling_rates_after w k factors rates) 0 (pos 0) ≡ get_or (rates_after file factors rates) 0 (pos 0))
    × (get_or (rolling_rates_after w k factors rates) 239 (pos 0) ≡ get_or (rates_after file factors rates) 239 (pos 0))
    × (get_or (rolling_rates_after w k factors rates) 240 (pos 0) ≡ get_or (rates_after file factors rates) 240 (pos 0))

same-as-file : (w : RollingWindow) (k : FileCase) (file factors : List ℕ) (rates : List ℤ) → ValuedAsFile w k file factors rates
    → SameAsFile w k file factors rates
same-as-file w k file factors rates v = (
  v.answer,
  ap (λ (fs : List ℕ). get_or fs 0 0) v.factors_after,
  ap (λ (fs : List ℕ). get_or fs 239 0) v.factors_after,
  ap (λ (fs : List ℕ). get_or fs 240 0) v.factors_after,
  ap (λ (zs : List ℤ). get_or zs 0 (pos 0)) v.rates_after,
  ap (λ (zs : List ℤ). get_or zs 239 (pos 0)) v.rates_after,
  ap (λ (zs : List ℤ). get_or zs 240 (pos 0)) v.rates_after,
)

-- of a window from any slot on, also an empty one, and of a file with or without a UFR, bonds and amounts
window-as-file : WindowValuedAsFile → (w : RollingWindow) (k : FileCase) → rolling_right w ≡ true → case_refusal k ≡ 0
    → (p : Present) → Agrees p k → (factors : List ℕ) (rates : List ℤ)
    → SameAsFile w k (file_of p (with_days 2 (days_held w) k)) factors rates
window-as-file v w k right accepted p agrees factors rates =
    same-as-file w k (file_of p (with_days 2 (days_held w) k)) factors rates (v.valued w k right accepted p agrees factors rates)

-- the shortest buffers that are long enough
window-accepted : RightExactly → WindowAcceptedExactly → (w : RollingWindow) (k : FileCase) → rolling_right w ≡ true → WithinLimits k
    → DaysWithin 1 (days_held w) → rolling_refusal w k 240 240 ≡ 0
window-accepted r p w k right own days =
    (p.exactly w k 240 240).1 record { right = r.facts w right; factors_enough = omega arith; rates_enough = omega arith; own = own; days = days }

accepted-window : RightExactly → WindowAcceptedExactly → (w : RollingWindow) (k : FileCase) (factors rates : ℕ) → rolling_refusal w k factors rates ≡ 0
    → (rolling_right w ≡ true) × (239 < factors) × (239 < rates) × WithinLimits k × DaysWithin 1 (days_held w)
accepted-window r p w k factors rates e =
    let a = (p.exactly w k factors rates).0 e in
    (r.test w a.right, omega (arith, a.factors_enough), omega (arith, a.rates_enough), a.own, a.days)

-- the factors of terms 1 and 120 are at most 4 and 57,600 units wide and their zero rates 2 steps, as they are written; S is as wide as it may
-- be, and the verdict is the exact one, as they are answered
abbrev pub WidthsKept : FileCase → Valuation → List ℕ → List ℤ → Type 0
WidthsKept k v factors rates =
    (get_or factors 1 0 ≤ get_or factors 0 0 + 4)
    × (get_or factors 239 0 ≤ get_or factors 238 0 + 57600)
    × (get_or rates 1 (pos 0) ≤ℤ (get_or rates 0 (pos 0) +ℤ pos 2))
    × (get_or rates 239 (pos 0) ≤ℤ (get_or rates 238 (pos 0) +ℤ pos 2))
    × (v.figures.s.upper ≤ v.figures.s.lower + (3 * WL k + 2 * WB k + 8))
    × (v.verdict ≢ Onbeslist → v.verdict ≡ Exact.verdict k)

pub widths-kept : (k : FileCase) (v : Valuation) (factors : List ℕ) (rates : List ℤ) → ContainmentAndWidth k (given v factors rates) → WidthsKept k v factors rates
widths-kept k v factors rates d = (
  d.factor_width 1 (omega arith) (omega arith),
  d.factor_width 120 (omega arith) (omega arith),
  d.rate_width 1 (omega arith) (omega arith),
  d.rate_width 120 (omega arith) (omega arith),
  d.SWidth,
  d.right,
)

window-contained : WindowKeepsContainment → (w : RollingWindow) (k : FileCase) (factors : List ℕ) (rates : List ℤ) (v : Valuation)
    → rolling_valuation w k (length factors) (length rates) ≡ Ok v
    → WidthsKept (with_days 2 (days_held w) k) v (rolling_factors_after w k factors rates) (rolling_rates_after w k factors rates)
window-contained p w k factors rates v e =
    widths-kept (with_days 2 (days_held w) k) v (rolling_factors_after w k factors rates) (rolling_rates_after w k factors rates)
    (p.kept w k factors rates v e)

-- whatever the refusal is
buffers-kept : RefusedWindowLeavesBuffers → (w : RollingWindow) (k : FileCase) (factors : List ℕ) (rates : List ℤ) (r : Refusal)
    → failing (rolling_checks w k (length factors) (length rates)) ≡ Some r
    → (rolling_valuation w k (length factors) (length rates) ≡ Err r)
    × (rolling_factors_after w k factors rates ≡ factors) × (rolling_rates_after w k factors rates ≡ rates)
buffers-kept p w k factors rates r e = let u = p.refused w k factors rates r e in (u.answered, u.factors_kept, u.rates_kept)

-- ---- the place of the oldest day, and the slots that are not held

-- from any two slots on
alike-answer : AlikeAnswers → (w v : RollingWindow) → w.start < 70 → v.start < 70 → days_held w ≡ days_held v
    → ((t : ℕ) → t < 60 → get_or w.sums t (pos 0) ≡ get_or v.sums t (pos 0))
    → (new : List ℤ) (k : FileCase) (a b : ℕ) (factors : List ℕ) (rates : List ℤ)
    → (rolling_right w ≡ rolling_right v) × (add_refusal w new ≡ add_refusal v new) × (drop_refusal w ≡ drop_refusal v)
    × (rolling_valuation w k a b ≡ rolling_valuation v k a b)
    × (rolling_factors_after w k factors rates ≡ rolling_factors_after v k factors rates)
    × (rolling_rates_after w k factors rates ≡ rolling_rates_after v k factors rates)
alike-answer p w v start other days sums new k a b factors rates =
    let alike = p.same w v record { start = start; other_start = other; days = days; sums = sums } in
    (alike.right, alike.adding new, alike.dropping, alike.valuation k a b, alike.factors_after k factors rates, alike.rates_after k factors rates)

changes-alike : ChangesAlike → (w v : RollingWindow) → w.start < 70 → v.start < 70 → days_held w ≡ days_held v
    → ((t : ℕ) → t < 60 → get_or w.sums t (pos 0) ≡ get_or v.sums t (pos 0))
    → length w.rates ≡ 4200 → length v.rates ≡ 4200 → (cs : List Change)
    → (days_held (changed_by w cs) ≡ days_held (changed_by v cs))
    × (get_or (changed_by w cs).sums 0 (pos 0) ≡ get_or (changed_by v cs).sums 0 (pos 0))
    × (get_or (changed_by w cs).sums 59 (pos 0) ≡ get_or (changed_by v cs).sums 59 (pos 0))
changes-alike p w v start other days sums long other_long cs =
    let a = p.after w v record { start = start; other_start = other; days = days; sums = sums } long other_long cs in
    (a.days, a.sums 0 (omega arith), a.sums 59 (omega arith))

-- the first slot after the newest day, and the last
free-slots : FreeSlotsAlike → (w : RollingWindow) (new : List ℤ) → w.start < 70 → length w.rates ≡ 4200 → length new ≡ 60 → w.count < 70
    → (days_held w ≡ days_held (record w { rates = with_day_in w.rates (slot 70 w.start w.count) new }))
    × (days_held w ≡ days_held (record w { rates = with_day_in w.rates (slot 70 w.start 69) new }))
free-slots p w new start long whole room =
    ((p.alike w new start long whole w.count (omega arith) room).days, (p.alike w new start long whole 69 (omega (arith, room)) (omega arith)).days)

-- ---- every call

refused-add : (w : RollingWindow) (new : List ℤ) → AddCall w new
    → (add_refusal w new ≡ 5 → add_day w new ≡ record { refusal = 5; window = w })
    × (add_refusal w new ≡ 15 → add_day w new ≡ record { refusal = 15; window = w })
    × (add_refusal w new ≡ 27 → add_day w new ≡ record { refusal = 27; window = w })
refused-add w new c = (
  λ e. c.refused (λ z. let never : ⊥ = omega (arith, e, z) in never) ∙ ap (λ (r : ℕ). record { refusal = r; window = w }) e,
  λ e. c.refused (λ z. let never : ⊥ = omega (arith, e, z) in never) ∙ ap (λ (r : ℕ). record { refusal = r; window = w }) e,
  λ e. c.refused (λ z. let never : ⊥ = omega (arith, e, z) in never) ∙ ap (λ (r : ℕ). record { refusal = r; window = w }) e,
)

added-day : RightExactly → (w : RollingWindow) (new : List ℤ) → AddCall w new → rolling_right w ≡ true → w.count < 70 → DayWithin 1 new
    → ((add_day w new).refusal ≡ 0) × (rolling_right (add_day w new).window ≡ true)
    × (days_held (add_day w new).window ≡ days_held w ++ (new ∷ [])) × SumsOf (add_day w new).window (days_held w ++ (new ∷ []))
added-day r w new c right room good =
    let e = c.exactly.1 record { right = r.facts w right; room = room; day = good } in
    let h = c.holds e in
    let (rates, count, start, days, sums) = held (add_day w new).window (days_held w ++ (new ∷ [])) h in
    (c.accepted e, r.test (add_day w new).window h.right, days, sums)

day-was-right : RightExactly → (w : RollingWindow) (new : List ℤ) → AddCall w new → add_refusal w new ≡ 0
    → (length w.rates ≡ 4200) × (rolling_right w ≡ true) × (w.count < 70) × DayWithin 1 new
day-was-right r w new c e = let a = c.exactly.0 e in (c.long, r.test w a.right, a.room, a.day)

refused-drop : (w : RollingWindow) → DropCall w
    → (drop_refusal w ≡ 16 → drop_day w ≡ record { refusal = 16; window = w })
    × (drop_refusal w ≡ 27 → drop_day w ≡ record { refusal = 27; window = w })
refused-drop w c = (
  λ e. c.refused (λ z. let never : ⊥ = omega (arith, e, z) in never) ∙ ap (λ (r : ℕ). record { refusal = r; window = w }) e,
  λ e. c.refused (λ z. let never : ⊥ = omega (arith, e, z) in never) ∙ ap (λ (r : ℕ). record { refusal = r; window = w }) e,
)

dropped-day : RightExactly → (w : RollingWindow) → DropCall w → rolling_right w ≡ true → 0 < w.count
    → ((drop_day w).refusal ≡ 0) × (rolling_right (drop_day w).window ≡ true)
    × (days_held (drop_day w).window ≡ drop 1 (days_held w)) × SumsOf (drop_day w).window (drop 1 (days_held w))
dropped-day r w c right some =
    let e = c.exactly.1 (r.facts w right, some) in
    let h = c.holds e in
    let (rates, count, start, days, sums) = held (drop_day w).window (drop 1 (days_held w)) h in
    (c.accepted e, r.test (drop_day w).window h.right, days, sums)

drop-was-right : RightExactly → (w : RollingWindow) → DropCall w → drop_refusal w ≡ 0 → (length w.rates ≡ 4200) × (rolling_right w ≡ true) × (0 < w.count)
drop-was-right r w c e = let (right, some) = c.exactly.0 e in (c.long, r.test w right, some)

module _ (w : RollingWindow) (k : FileCase) (factors : List ℕ) (rates : List ℤ) (c : WindowCall w k factors rates) where
  refused-window : (r : Refusal) → failing (rolling_checks w k (length factors) (length rates)) ≡ Some r
      → (rolling_valuation w k (length factors) (length rates) ≡ Err r)
      × (rolling_factors_after w k factors rates ≡ factors) × (rolling_rates_after w k factors rates ≡ rates)
  refused-window r e = let u = c.refused r e in (u.answered, u.factors_kept, u.rates_kept)

  -- the number of the answer is 0 where all is as it should be, and then the case is valued
  valued-window : RightExactly → rolling_right w ≡ true → 240 ≤ length factors → 240 ≤ length rates → WithinLimits k → DaysWithin 1 (days_held w)
      → (refusal_number (rolling_valuation w k (length factors) (length rates)) ≡ 0)
      × CaseValued (with_days 2 (days_held w) k) (rolling_valuation w k (length factors) (length rates))
      factors (rolling_factors_after w k factors rates) rates (rolling_rates_after w k factors rates)
  valued-window r right long other_long own days =
      let e = c.exactly.1 record { right = r.facts w right; factors_enough = long; rates_enough = other_long; own = own; days = days } in
      (c.number ∙ e, c.valued e)

  was-right : RightExactly → rolling_refusal w k (length factors) (length rates) ≡ 0 → (rolling_right w ≡ true) × WithinLimits k × DaysWithin 1 (days_held w)
  was-right r e = let a = c.exactly.0 e in (r.test w a.right, a.own, a.days)

  called-as-file : rolling_right w ≡ true → case_refusal k ≡ 0 → (p : Present) → Agrees p k
      → SameAsFile w k (file_of p (with_days 2 (days_held w) k)) factors rates
  called-as-file right accepted p agrees =
      same-as-file w k (file_of p (with_days 2 (days_held w) k)) factors rates (c.as_file right accepted p agrees)

-- of all arguments
calls : EveryAddCall → EveryDropCall → EveryWindowCall → (w : RollingWindow) → length w.rates ≡ 4200 → (new : List ℤ) (k : FileCase) (factors : List ℕ) (rates : List ℤ)
    → AddCall w new × DropCall w × WindowCall w k factors rates
calls a d v w long new k factors rates = (a.call w new long, d.call w long, v.call w k factors rates)
