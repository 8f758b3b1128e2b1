-- The days that a window holds after a change of it, by the laws of a ring of any entries: the new day is in a slot of its own, and
-- every other slot has the day that it had.
use Prim.Native.Nat.{ℕ, suc, ◌+◌, ◌*◌, ◌≤◌, ◌<◌}
use mathlib.Core.Path.{◌≡◌, ap, ◌∙◌}
use mathlib.Core.List.{List, [], ◌∷◌, ◌++◌}
use native.Mathlib.Numerals.{add-one}
use native.Mathlib.Decide.{dec_le}
use native.Mathlib.Omega.{arith}
use lib.ListN.{length, get_or, drop}
use lib.IntN.{ℤ}
use Rattle.rollingmodel.specs.Rolling.{slot, day_in, days_held, with_day_in, added, dropped}
use Rattle.rollingmodel.specs.declared.RollingWindow.{RollingWindow}
use Rattle.theory.proofs.general.Lists.{length-table, get_or-table}
use Rattle.theory.proofs.general.Parts.{length_part, length-with, part-own, part-before, part-behind}
use Rattle.theory.proofs.general.Ring.{slot-less, slot_apart, held, held-more, held-less}

-- ---- a day and a slot

pub day-long : (rates : List ℤ) (j : ℕ) → length rates ≡ 4200 → j < 70 → length (day_in rates j) ≡ 60
day-long rates j long h = length_part (60 * j) 60 rates (omega arith)

-- with another day in slot k, that day is in it, and every other slot has the day that it had
module _ (rates new : List ℤ) (k : ℕ) (long : length rates ≡ 4200) (whole : length new ≡ 60) (h : k < 70) where
  fits : 60 * k + 60 ≤ length rates
  fits = omega arith

  with-long : length (with_day_in rates k new) ≡ 4200
  with-long = length-with (60 * k) 60 new rates fits whole ∙ long

  own-slot : day_in (with_day_in rates k new) k ≡ new
  own-slot = part-own (60 * k) 60 new rates fits whole

  other-slot : (j : ℕ) → (j ≡ k → ⊥) → day_in (with_day_in rates k new) j ≡ day_in rates j
  other-slot j other = go (dec_le (suc j) k)
    where
      go : Dec (j < k) → day_in (with_day_in rates k new) j ≡ day_in rates j
      go (yes l) = part-before (60 * k) 60 new rates fits whole (60 * j) 60 (omega arith)
      go (no l) = part-behind (60 * k) 60 new rates fits whole (60 * j) 60 (omega arith)

-- ---- the days held

module _ (w : RollingWindow) where
  pub held-count : length (days_held w) ≡ w.count
  unfolding days_held
  held-count = length-table (λ i. day_in w.rates (slot 70 w.start i)) w.count

  pub held-day : (i : ℕ) → i < w.count → get_or (days_held w) i [] ≡ day_in w.rates (slot 70 w.start i)
  unfolding days_held
  held-day i h = get_or-table (λ j. day_in w.rates (slot 70 w.start j)) w.count i [] h

-- ---- after a change

module _ (w : RollingWindow) (new : List ℤ) (long : length w.rates ≡ 4200) where
  -- a day in the slot of an entry that is not held: the days held are in other slots
  pub free-slot : length new ≡ 60 → (j : ℕ) → w.count ≤ j → j < 70 → (i : ℕ) → i < w.count
      → day_in (with_day_in w.rates (slot 70 w.start j) new) (slot 70 w.start i) ≡ day_in w.rates (slot 70 w.start i)
  free-slot whole j free h i l =
      other-slot w.rates new (slot 70 w.start j) long whole (slot-less 70 w.start j (omega arith)) (slot 70 w.start i)
      (λ e. let same = slot_apart 70 w.start i j (omega arith) h e in omega arith)

  pub added-long : length new ≡ 60 → length (added w new).rates ≡ 4200
  unfolding added
  added-long whole = with-long w.rates new (slot 70 w.start w.count) long whole (slot-less 70 w.start w.count (omega arith))

  pub held-added : w.count < 70 → length new ≡ 60 → days_held (added w new) ≡ days_held w ++ (new ∷ [])
  unfolding days_held added
  held-added room whole =
      let free = slot 70 w.start w.count in
      let after = with_day_in w.rates free new in
      ap (held 70 w.start (day_in after)) (add-one w.count)
      ∙ held-more 70 w.start (day_in w.rates) (day_in after) w.count room (other-slot w.rates new free long whole (slot-less 70 w.start w.count (omega arith)))
      ∙ ap (λ (day : List ℤ). days_held w ++ (day ∷ [])) (own-slot w.rates new free long whole (slot-less 70 w.start w.count (omega arith)))

pub held-dropped : (w : RollingWindow) → days_held (dropped w) ≡ drop 1 (days_held w)
unfolding days_held dropped
held-dropped w = held-less 70 w.start (day_in w.rates) w.count
