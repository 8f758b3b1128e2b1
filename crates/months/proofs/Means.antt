-- The months so far, and what a history gives, where each of its checks holds or fails.
use Rattle.std.proofs.lemmas.Bool.{and_from, and_right}
use Prim.Native.Nat.{ℕ, suc, ◌+◌, ◌*◌, ◌≤◌, ◌<◌}
use mathlib.Core.Path.{◌≡◌, refl, ap, sym, ◌∙◌}
use mathlib.Core.Bool.{true, false, ◌&&◌}
use mathlib.Core.List.{List, [], ◌∷◌, ◌++◌}
use mathlib.Core.Logic.{◌≢◌}
use native.Mathlib.Nat.{zero-add}
use native.Mathlib.Numerals.{add-one}
use native.Mathlib.Omega.{arith}
use borrow.Author.Tests.{eq-eqb, ne_eqb, le-leb, lt-leb}
use lib.Dec.{leb, eqb}
use lib.ListN.{length, get_or}
use lib.IntN.{ℤ, pos, negsuc, neg_ℤ, nat_abs, ◌+ℤ◌, ◌*ℤ◌, +ℤ_idr}
use Rattle.std.proofs.lemmas.Int.{ints}
use Rattle.std.specs.Int.{int_div_euclid}
use Rattle.std.specs.Prelude.{Result, Ok, Err}
use Rattle.refusal.specs.declared.Refusal.{Refusal}
use Rattle.refusal.specs.declared.Refusal.TheVariants.{History, Month, MonthsUfr}
use Rattle.method.specs.Curve.{natural}
use Rattle.model.specs.Fields.{value_all, right_all, within_z}
use Rattle.model.specs.Limits.{Between}
use Rattle.monthsmodel.specs.Months.{month, months_of, total, floor_z, hundreds, rounded_ufr, ufr_answer}
use Rattle.theory.proofs.acceptance.Runs.{values-last, values-table, values_length, right-more, wrong-at}
use Rattle.theory.proofs.general.Lists.{get_or-table}
use Rattle.theory.proofs.months.Rotated.{total-append}

-- ---- one month more

total-more : (xs : List ℤ) (x : ℤ) → total (xs ++ (x ∷ [])) ≡ total xs +ℤ x
unfolding total
total-more xs x = total-append xs (x ∷ []) ∙ ap (λ (z : ℤ). total xs +ℤ z) (+ℤ_idr x)

module _ (history : List ℕ) where
  abbrev pub first : ℕ → List ℤ
  first n = value_all month history 0 n

  more : (i : ℕ) {z : ℤ} → z ≡ month.value history (2 * i) → first (i + 1) ≡ first i ++ (z ∷ [])
  more i {z} e =
      ap first (add-one i)
      ∙ values-last month history 0 i
      ∙ ap (λ (v : ℤ). first i ++ (v ∷ [])) (ap (month.value history) (zero-add (2 * i)) ∙ sym e)

  pub right-more-month : (i : ℕ) {z : ℤ} → z ≡ month.value history (2 * i) → month.right z ≡ true → right_all month (first i) ≡ true
      → right_all month (first (i + 1)) ≡ true
  right-more-month i {z} e h k =
      ap (right_all month) (more i e) ∙ right-more month (first i) z ∙ and_from (right_all month (first i)) (month.right z) k h

  pub total-more-month : (i : ℕ) {z : ℤ} → z ≡ month.value history (2 * i) → total (first (i + 1)) ≡ total (first i) +ℤ z
  total-more-month i {z} e = ap total (more i e) ∙ total-more (first i) z

  pub wrong-month : (i : ℕ) {z : ℤ} → i < 120 → z ≡ month.value history (2 * i) → month.right z ≡ false → right_all month (first 120) ≡ false
  wrong-month i {z} l e h =
      let entry : get_or (first 120) i (pos 0) ≡ z =
      ap (λ (xs : List ℤ). get_or xs i (pos 0)) (values-table month history 0 120)
      ∙ get_or-table (λ j. month.value history (0 + 2 * j)) 120 i (pos 0) l
      ∙ ap (month.value history) (zero-add (2 * i))
      ∙ sym e in
      wrong-at month (first 120) i (pos 0) (omega (arith, values_length month history 0 120)) (ap month.right entry ∙ h)

-- ---- the mean

pub euclid : (z : ℤ) → int_div_euclid z (pos 12000) ≡ floor_z z 12000
euclid (pos n) = refl
euclid (negsuc n) = refl

-- no further from 0
abbrev pub Small : ℕ → ℤ → Type 0
Small most z = Between (neg_ℤ (pos most)) (pos most) z

pub floor-small : (z : ℤ) → Small 1206000 z → Small 101 (floor_z z 12000)
floor-small (pos n) h =
    let l : n ≤ 1206000 = omega (arith, ints, h.most) in
    record { least = omega (arith, ints); most = omega (arith, ints) }
floor-small (negsuc n) h =
    let l : suc n ≤ 1206000 = omega (arith, ints, h.least) in
    record { least = omega (arith, ints); most = omega (arith, ints) }

module _ (history : List ℕ) where
  abbrev pub all : ℤ
  all = total (first history 120)

  pub mean-is : {a q : ℤ} → a ≡ all +ℤ pos 6000 → Small 1200000 all → q ≡ int_div_euclid a (pos 12000) → (q ≡ hundreds all) × Small 101 (hundreds all)
  mean-is {a} {q} e small h =
      let more : Small 1206000 (all +ℤ pos 6000) = record { least = omega (arith, ints, small.least); most = omega (arith, ints, small.most) } in
      (h ∙ ap (λ (z : ℤ). int_div_euclid z (pos 12000)) e ∙ euclid (all +ℤ pos 6000), floor-small (all +ℤ pos 6000) more)

  pub rounded : pos 100 *ℤ hundreds all ≡ rounded_ufr history
  unfolding rounded_ufr months_of
  rounded = refl

natural-abs : (z : ℤ) → within_z (pos 0) (pos 5000) z ≡ true → nat_abs z ≡ natural z
natural-abs (pos n) h = refl
natural-abs (negsuc n) h = cc

-- ---- what a history gives

abbrev ok_of : ℕ → Result ℕ Refusal
ok_of ufr = Ok ufr

module _ (history : List ℕ) (start : ℕ) where
  place : (eqb (length history) 240 && leb start 119) ≡ false → Err History ≡ ufr_answer history start
  unfolding ufr_answer
  place h = rw h

  pub other_length : length history ≢ 240 → Err History ≡ ufr_answer history start
  other_length h = place (ap (λ b. b && leb start 119) (ne_eqb (length history) 240 h))

  pub start-past : 119 < start → Err History ≡ ufr_answer history start
  start-past h = place (and_right (eqb (length history) 240) (leb start 119) (lt-leb start 119 h))

  module _ (long : length history ≡ 240) (fits : start ≤ 119) where
    pub month-past : right_all month (first history 120) ≡ false → Err Month ≡ ufr_answer history start
    unfolding ufr_answer months_of
    month-past e = rw (eq-eqb (length history) 240 long, le-leb start 119 fits, e)

    module _ (right : right_all month (first history 120) ≡ true) where
      pub ufr-past : within_z (pos 0) (pos 5000) (rounded_ufr history) ≡ false → Err MonthsUfr ≡ ufr_answer history start
      unfolding ufr_answer months_of
      ufr-past e = rw (eq-eqb (length history) 240 long, le-leb start 119 fits, right, e)

      pub ufr-found : (ufr : ℤ) → ufr ≡ rounded_ufr history → within_z (pos 0) (pos 5000) (rounded_ufr history) ≡ true
          → Ok (nat_abs ufr) ≡ ufr_answer history start
      unfolding ufr_answer months_of
      ufr-found ufr is e = rw (eq-eqb (length history) 240 long, le-leb start 119 fits, right, e) (ap ok_of (ap nat_abs is ∙ natural-abs (rounded_ufr history) e))
