-- What is promised of a case that is written back: it is refused exactly when it is outside the limits; the saved
-- bytes are read as the same case; two cases have the same bytes exactly when they are equal; no file of the case is shorter; and 14 is
-- given exactly where the case is within the limits and the buffer is too short.
use mathlib.Core.Path.{◌≡◌, refl, ap, sym, ◌∙◌, subst}
use mathlib.Core.Bool.{Bool, true, false, cond}
use mathlib.Core.List.{List, [], ◌∷◌, ◌++◌}
use Prim.Native.Nat.{ℕ, zero, suc, ◌+◌, ◌≤◌, ◌<◌}
use native.Mathlib.Omega.{arith}
use borrow.Author.Tests.{eqb-true, ltb-true, ltb-false, le-leb, lt-leb, leb-true, leb-false, not-false}
use lib.Dec.{T, leb, ltb, eqb, lit<}
use lib.ListN.{length, get_or, length-append}
use Rattle.std.specs.Cmp.{first_so, second_so}
use Rattle.std.specs.Prelude.{Option, None, Some}
use Rattle.refusal.specs.Numbered.{number_in}
use Rattle.refusal.specs.declared.Refusal.{Refusal}
use Rattle.refusal.specs.declared.Refusal.TheVariants.{FlowCount, Flow, Ufr, Amount, Shock, Room}
use Rattle.model.specs.Constants.{default_ufr, default_equity_correlation}
use Rattle.model.specs.Numbers.{bytes_of}
use Rattle.model.specs.Case.{FileCase, per_step}
use Rattle.model.specs.Limits.{WithinLimits}
use Rattle.model.specs.Fields.{Check, Field, number_of, field, counted, optional}
use Rattle.model.specs.Layout.{flow, amounts_from, amounts_in_order, amounts, no_amounts, shocks_in_order, shocks, people, equity_correlation, Present, map_of, first_fields, layout}
use Rattle.model.specs.Layout.{days_if, parts_of}
use Rattle.model.specs.Layout.{file_of, case_of, Agrees, Keeps}
use Rattle.model.specs.inner.Positions.{ufr_field, days_field, pension_field, bonds_field, amounts_field, equity_field}
use Rattle.model.specs.Refusals.{failing, refusal}
use Rattle.savingmodel.specs.Saving.{all_zero, needed, shortest, case_checks, case_refusal, save_checks, save_refusal}
use Rattle.theory.proofs.general.Lists.{◌also◌}
use Rattle.theory.proofs.acceptance.Checks.{hold-append, hold-parts, none-hold, hold-none, none-fails, first-fails, holds-first, fails-first}
use Rattle.theory.proofs.acceptance.Checks.{below, below-append, below-if, first_below}
use Rattle.theory.proofs.acceptance.Encoding.{length-bytes}
use Rattle.theory.proofs.acceptance.Within.{forwards-true, forwards-test, PartsWithin, PartsLimited, layout-limited, parts-limits, limits-parts}
use Rattle.theory.proofs.acceptance.Acceptance.{sixth, forwards-within, keeps-accepted}

-- ---- the fields that are left out

zero-at : (vs : List ℕ) → all_zero vs ≡ true → (i : ℕ) → get_or vs i 0 ≡ 0
zero-at [] h i = refl
zero-at (v ∷ vs) h zero = eqb-true v 0 (first_so (eqb v 0) (all_zero vs) h)
zero-at (v ∷ vs) h (suc i) = zero-at vs (second_so (eqb v 0) (all_zero vs) h) i

no-amounts : (vs : List ℕ) → all_zero vs ≡ true → amounts_from vs ≡ no_amounts
no-amounts vs h =
    let z = zero-at vs h in
    rw (z 0, z 1, z 2, z 3, z 4, z 5, z 6, z 7)

no-entry : (vs : List ℕ) → ltb 0 (length vs) ≡ false → vs ≡ []
no-entry [] h = refl
no-entry (v ∷ vs) h = let never : ⊥ = omega (arith, ltb-false 0 (suc (length vs)) h) in absurd never

-- a field that is left out is one whose value a file without it has
pub agrees-needed : (k : FileCase) → Agrees (needed k) k
agrees-needed k = record {
  ufr_absent = λ e. eqb-true k.ufr default_ufr (not-false (eqb k.ufr default_ufr) e);
  bonds_absent = no-entry k.bonds;
  bonds_there = ltb-true 0 (length k.bonds);
  amounts_absent = λ e. no-amounts (amounts_in_order k.amounts) (not-false (all_zero (amounts_in_order k.amounts)) e);
  equity_absent = λ e.
      let c = k.shocks.equity_correlation in
      eqb-true c default_equity_correlation (not-false (eqb c default_equity_correlation) e);
}

-- ---- "A case outside the limits gets the number that its file would have"

module _ (k : FileCase) where
  abbrev field_checks : List Check
  field_checks = (layout k.rate_bytes (needed k)).limits (parts_of k)

  -- the number of a case is that of its refusal
  pub case-number : (o : Option Refusal) → failing (case_checks k) ≡ o → case_refusal k ≡ number_in o
  unfolding case_refusal
  case-number o h = first-fails (case_checks k) o h

  pub case-none : case_refusal k ≡ 0 → failing (case_checks k) ≡ None
  unfolding case_refusal
  case-none h = none-fails (case_checks k) h

  -- a case is accepted exactly when it is within the limits
  pub case-accepted : WithinLimits k → case_refusal k ≡ 0
  unfolding case_refusal case_checks
  case-accepted w =
      let within : PartsWithin k.rate_bytes (needed k) (parts_of k) = limits-parts (needed k) k w (agrees-needed k) in
      let limited : PartsLimited k.rate_bytes (needed k) (parts_of k) = search in
      let six = forwards-test (per_step k) k.days (forwards-within k w) in
      hold-none (case_checks k)
      (w.form also hold-append field_checks (sixth k) ((layout-limited k.rate_bytes (needed k)).tested (parts_of k) limited) (six also tt))

  pub case-within : case_refusal k ≡ 0 → WithinLimits k
  unfolding case_refusal case_checks
  case-within h =
      let (known, checked) = none-hold (case_checks k) h in
      let (fields, six) = hold-parts field_checks (sixth k) checked in
      let ((u, (d, (m, (b, (a, s))))), (l, q)) = (layout-limited k.rate_bytes (needed k)).within (parts_of k) fields in
      let agrees = agrees-needed k in
      let within : PartsWithin k.rate_bytes (needed k) (parts_of k) = (
        ((u, agrees.ufr_absent), ((d, none_in 2), (m, ((b, agrees.bonds_absent), ((a, agrees.amounts_absent), s))))),
        ((l, none_in 4), (q, agrees.equity_absent)),
      ) in
      (parts-limits (needed k) k known within (forwards-true (per_step k) k.days six.0)).0
    where
      -- the other days field has no days
      none_in : (w : ℕ) → eqb k.rate_bytes w ≡ false → days_if w k ≡ []
      none_in w e = ap (λ (b : Bool). cond b k.days []) e

-- ---- the saved bytes

saved-keeps : (k : FileCase) → WithinLimits k → Keeps (shortest k)
unfolding shortest
saved-keeps k w = record { present = needed k; held = k; within = w; agrees = agrees-needed k; bytes = refl }

-- "Reading the saved bytes gives the same case"
pub saved_read : (k : FileCase) → WithinLimits k → (refusal (shortest k) ≡ 0) × (case_of (shortest k) ≡ k)
unfolding saved-keeps
saved_read k w = keeps-accepted (shortest k) (saved-keeps k w)

-- "two cases have the same bytes exactly when all their numbers, list lengths included and with the days in order, are equal"
pub saved-once : (k j : FileCase) → WithinLimits k → WithinLimits j
    → (shortest k ≡ shortest j → k ≡ j) × (k ≡ j → shortest k ≡ shortest j)
saved-once k j w v = (λ e. sym (saved_read k w).1 ∙ ap case_of e ∙ (saved_read j v).1, ap shortest)

-- ---- "in its shortest form"

-- a field that is there where it is needed has at least the bytes of one that is only there where it is needed
fewer : {A : Type 0} (f : Field A) (absent v : A) (least there : Bool) → (there ≡ false → least ≡ false)
    → length ((optional least absent f).bytes v) ≤ length ((optional there absent f).bytes v)
fewer f absent v false there h = omega arith
fewer f absent v true true h = omega arith
fewer f absent v true false h = absurd (subst T (h refl) tt)

-- the bytes of the four optional fields, and all others
abbrev pub optional_bytes : Present → FileCase → ℕ
optional_bytes p k =
    length ((ufr_field p).bytes k.ufr) + length ((bonds_field p).bytes k.bonds) + length ((amounts_field p).bytes k.amounts)
    + length ((equity_field p).bytes k.shocks.equity_correlation)

abbrev pub other_bytes : FileCase → ℕ
other_bytes k =
    2 + length ((days_field 2 k.rate_bytes).bytes (days_if 2 k)) + length (pension_field.bytes k.pension) + length (shocks.bytes (shocks_in_order k.shocks))
    + length (people.bytes k.people) + length ((days_field 4 k.rate_bytes).bytes (days_if 4 k))

pub file-length : (p : Present) (k : FileCase) → length (file_of p k) ≡ optional_bytes p k + other_bytes k
unfolding file_of
file-length p k =
    let w = k.rate_bytes in
    let u = (ufr_field p).bytes k.ufr in
    let d = (days_field 2 w).bytes (days_if 2 k) in
    let m = pension_field.bytes k.pension in
    let b = (bonds_field p).bytes k.bonds in
    let a = (amounts_field p).bytes k.amounts in
    let s = shocks.bytes (shocks_in_order k.shocks) in
    let h = people.bytes k.people in
    let l = (days_field 4 w).bytes (days_if 4 k) in
    let q = (equity_field p).bytes k.shocks.equity_correlation in
    let first = u ++ (d ++ (m ++ (b ++ (a ++ (s ++ h))))) in
    omega (
      arith,
      length-append (bytes_of 2 (map_of w p)) (first ++ (l ++ q)),
      length-bytes 2 (map_of w p),
      length-append first (l ++ q),
      length-append l q,
      length-append u (d ++ (m ++ (b ++ (a ++ (s ++ h))))),
      length-append d (m ++ (b ++ (a ++ (s ++ h)))),
      length-append m (b ++ (a ++ (s ++ h))),
      length-append b (a ++ (s ++ h)),
      length-append a (s ++ h),
      length-append s h,
    )

-- no file of a case is shorter
pub saved-shortest : (file : List ℕ) (x : Keeps file) → length (shortest x.held) ≤ length file
unfolding shortest
saved-shortest file x =
    let p = x.present in
    let k = x.held in
    let q = needed k in
    let a = x.agrees in
    let u = fewer (field Ufr (number_of 2 0 5000)) default_ufr k.ufr q.ufr p.ufr (λ e. rw (a.ufr_absent e)) in
    let b = fewer (counted 60 FlowCount Flow flow) [] k.bonds q.bonds p.bonds (λ e. rw (a.bonds_absent e)) in
    let m = fewer (field Amount amounts) no_amounts k.amounts q.amounts p.amounts (λ e. rw (a.amounts_absent e)) in
    let c = k.shocks.equity_correlation in
    let n = fewer (field Shock equity_correlation) default_equity_correlation c q.equity p.equity (λ e. rw (a.equity_absent e)) in
    omega (arith, file-length q k, ap length x.bytes ∙ file-length p k, u, b, m, n)

-- ---- "then 14 when the lent buffer is shorter than the bytes needed"

-- no check of a case has the number 14
pub case-below : (k : FileCase) → T (below 14 (case_checks k))
unfolding case_checks
case-below k =
    let w = k.rate_bytes in
    let p = needed k in
    below-append 14 ((layout w p).limits (parts_of k)) (sixth k)
    (below-append 14 ((first_fields w p).limits (parts_of k).0) ((days_field 4 w).limits (days_if 4 k) ++ (equity_field p).limits k.shocks.equity_correlation)
    (below-append 14 ((ufr_field p).limits k.ufr) _ (below-if 14 p.ufr _ tt)
    (below-append 14 ((days_field 2 w).limits (days_if 2 k)) _ (below-if 14 (eqb w 2) _ tt)
    (below-append 14 (pension_field.limits k.pension ++ (bonds_field p).limits k.bonds) _ (below-if 14 p.bonds _ tt)
    (below-append 14 ((amounts_field p).limits k.amounts) _ (below-if 14 p.amounts _ tt) tt))))
    (below-append 14 ((days_field 4 w).limits (days_if 4 k)) _ (below-if 14 (eqb w 4) _ tt) (below-if 14 p.equity _ tt)))
    tt

under-fourteen : (k : FileCase) → case_refusal k < 14
unfolding case_refusal
under-fourteen k = first_below 14 (case_checks k) (lit< tt) (case-below k)

module _ (k : FileCase) (room : ℕ) where
  abbrev room_check : List Check
  room_check = (leb (length (shortest k)) room, Room) ∷ []

  -- a case outside the limits has its own number, whatever the buffer
  pub refused-first : (r : Refusal) → failing (case_checks k) ≡ Some r → failing (save_checks k room) ≡ Some r
  refused-first r h = fails-first (case_checks k) room_check r h

  -- any other case is saved where the buffer is long enough, and else gets 14
  room-left : WithinLimits k → failing (save_checks k room) ≡ failing room_check
  room-left w = holds-first (case_checks k) room_check (case-none k (case-accepted k w))

  pub saved-fits : WithinLimits k → length (shortest k) ≤ room → failing (save_checks k room) ≡ None
  saved-fits w h = room-left w ∙ rw (le-leb (length (shortest k)) room h)

  pub saved-too-long : WithinLimits k → room < length (shortest k) → failing (save_checks k room) ≡ Some Room
  saved-too-long w h = room-left w ∙ rw (lt-leb (length (shortest k)) room h)

  -- and 14 is given nowhere else
  pub fourteen-only : save_refusal k room ≡ 14 → WithinLimits k × (room < length (shortest k))
  unfolding save_refusal
  fourteen-only h = by (failing (case_checks k)) refl (leb (length (shortest k)) room) refl
    where
      by : (o : Option Refusal) → failing (case_checks k) ≡ o → (b : Bool) → leb (length (shortest k)) room ≡ b
          → WithinLimits k × (room < length (shortest k))
      by (Some r) e b f =
          let own = case-number k (Some r) e in
          let first = first-fails (save_checks k room) (Some r) (refused-first r e) in
          let never : ⊥ = omega (arith, under-fourteen k, own, first, h) in
          absurd never
      by None e false f = (case-within k (case-number k None e), leb-false (length (shortest k)) room f)
      by None e true f =
          let within = case-within k (case-number k None e) in
          let fits = first-fails (save_checks k room) None (saved-fits within (leb-true (length (shortest k)) room f)) in
          let never : ⊥ = omega (arith, fits, h) in
          absurd never
