-- A file is accepted exactly when it keeps the layout and limits, and the case that is read is the case that it holds. Where it is
-- accepted, each of its checks holds; so the case read is within the limits, and its bytes are the file. Where it is the bytes of a case
-- whose fields are within the limits, its map announces the fields that were written, that case is what is read, and each check holds but
-- for 6, which its days decide. The bytes of a case without two-byte days get 4.
use mathlib.Core.Path.{◌≡◌, refl, ap, ap₂, sym, ◌∙◌, subst}
use mathlib.Core.Bool.{true, cond}
use mathlib.Core.List.{List, [], ◌∷◌, ◌++◌, append-nil, append_assoc}
use Prim.Native.Nat.{ℕ, ◌+◌, ◌*◌, ◌≤◌}
use native.Mathlib.Omega.{arith}
use borrow.Author.Tests.{le-leb, leb-true, not-true}
use lib.Dec.{leb, lit<, lit≤}
use lib.ListN.{length, drop, length-drop, drop_of_length-le}
use Rattle.std.specs.Prelude.{Option, None, Some}
use Rattle.refusal.specs.Numbered.{number_in}
use Rattle.refusal.specs.declared.Refusal.{Refusal}
use Rattle.refusal.specs.declared.Refusal.TheVariants.{BytesFollow, WrongFields, DayCount, Rate, Forward}
use Rattle.model.specs.Numbers.{bytes_of, Bytes}
use Rattle.model.specs.Case.{FileCase, known_form, per_step, with_days}
use Rattle.model.specs.Limits.{WithinLimits}
use Rattle.model.specs.Fields.{Check, right_all}
use Rattle.model.specs.Layout.{day, days, shocks_in_order, Present, map_of, stands, rate_bytes_in, present_in, file_map, first_fields, layout}
use Rattle.model.specs.Layout.{case_from, parts_of, file_of, case_of}
use Rattle.model.specs.inner.Positions.{rate_bytes, ufr_field, equity_field}
use Rattle.model.specs.Layout.{Agrees, Keeps}
use Rattle.model.specs.Refusals.{failing, exactly_one, bits_right, map_checks, forwards_right, checks, refusal, days_at, day_count}
use Rattle.theory.proofs.general.Lists.{◌also◌}
use Rattle.theory.proofs.acceptance.Checks.{Hold, hold-parts, none-hold, holds-none, first-fails, none-fails, after-hold}
use Rattle.theory.proofs.acceptance.Encoding.{number_small, number-written}
use Rattle.theory.proofs.acceptance.Form.{known_in, later_fields, days-held, case-of-parts, parts-of-case}
use Rattle.theory.proofs.acceptance.Bitmap.{one-days-field, map-of-present, announced}
use Rattle.theory.proofs.acceptance.Laws.{field-lawful, none-refused}
use Rattle.theory.proofs.acceptance.Within.{ForwardsWithin, forwards-true, forwards-test, upto-lawful, UfrWithin, ufr-lawful}
use Rattle.theory.proofs.acceptance.Within.{PartsWithin, layout-lawful, parts-limits, limits-parts}

-- "then 6": of the days
abbrev pub sixth : FileCase → List Check
sixth k = (forwards_right (per_step k) k.days, Forward) ∷ []

-- after the checks of the map and those of the fields: "then 2; then 6"
abbrev pub last_checks : List ℕ → ℕ → Present → List Check
last_checks file w p = (leb (length file) ((layout w p).end file 2), BytesFollow) ∷ sixth (case_of file)

-- the number of a file is that of its refusal
pub refusal-number : (file : List ℕ) (o : Option Refusal) → failing (checks file) ≡ o → refusal file ≡ number_in o
unfolding refusal
refusal-number file o h = first-fails (checks file) o h

pub accepted-none : (file : List ℕ) → refusal file ≡ 0 → failing (checks file) ≡ None
unfolding refusal
accepted-none file h = none-fails (checks file) h

-- ---- an accepted file

module _ (file : List ℕ) (h : refusal file ≡ 0) where
  -- the days field and the optional fields that its map announces
  abbrev form : ℕ
  form = rate_bytes_in (file_map file)

  abbrev shown : Present
  shown = present_in (file_map file)

  -- each of its checks holds
  passed : Hold (map_checks file) × Hold ((layout form shown).checks file 2) × Hold (last_checks file form shown)
  unfolding refusal checks
  passed =
      let fields = (layout form shown).checks file 2 in
      let last = last_checks file form shown in
      let (m, k) = hold-parts (map_checks file) (fields ++ last) (none-hold (checks file) h) in
      let (f, e) = hold-parts fields last k in
      (m, f, e)

  -- its fields are the parts of its case
  parts : PartsWithin form shown ((layout form shown).value file 2)
  parts = (layout-lawful form shown).within file 2 passed.1

  parts_are : parts_of (case_of file) ≡ (layout form shown).value file 2
  unfolding case_of
  parts_are =
      parts-of-case form ((layout form shown).value file 2) (known_in (file_map file)) parts.0.1.0.1 parts.1.0.1 refl

  -- its case is within the limits and agrees with those fields
  limits : WithinLimits (case_of file) × Agrees shown (case_of file)
  unfolding case_of
  limits =
      parts-limits shown (case_of file) (known_in (file_map file)) (subst (PartsWithin form shown) (sym parts_are) parts)
      (forwards-true (per_step (case_of file)) (case_of file).days passed.2.1.0)

  pub within-limits : WithinLimits (case_of file)
  within-limits = limits.0

  pub agrees-shown : Agrees (present_in (file_map file)) (case_of file)
  agrees-shown = limits.1

  -- where bit 1 is set, bit 7 is not
  pub two_bytes : stands 1 (file_map file) ≡ true → (case_of file).rate_bytes ≡ 2
  unfolding case_of
  two_bytes one =
      let m = file_map file in
      let both = one-days-field m passed.0.1.0 in
      ap (λ b. cond b 4 2) (not-true (stands 7 m) (subst (λ b. exactly_one b (stands 7 m) ≡ true) one both))

  -- its rates are in the file, in either days field
  pub days-reach : days_at file + 1 + rate_bytes file * 60 * day_count file ≤ length file
  unfolding day_count
  days-reach =
      leb-true (days_at file + 1 + rate_bytes file * 60 * day_count file) (length file) (days-held file passed.1).1.1.0

  -- each of its rates is within its limits
  pub rates-right : right_all (day (rate_bytes file)) ((days (rate_bytes file)).value file (days_at file)) ≡ true
  rates-right = (days-held file passed.1).1.1.1.0

  -- its case is written as its bytes
  form-kept : file_of shown (case_of file) ≡ bytes_of 2 (map_of form shown) ++ (layout form shown).bytes (parts_of (case_of file))
  unfolding file_of case_of
  form-kept = refl

  written_back : Bytes file → file_of shown (case_of file) ≡ file
  unfolding file_of file_map
  written_back b =
      let value = (layout form shown).value file 2 in
      let bytes = (layout form shown).bytes value in
      let none = drop_of_length-le file (leb-true (length file) ((layout form shown).end file 2) passed.2.0) in
      let fields = rw (none, append-nil bytes) at ((layout-lawful form shown).written file b 2 passed.1) in
      let map = map-of-present (file_map file) (number_small file b 0 2) passed.0.1.0 in
      form-kept
      ∙ ap₂ (λ (m : ℕ) (l : List ℕ). bytes_of 2 m ++ l) map (ap (layout form shown).bytes parts_are ∙ fields)
      ∙ number-written file b 0 2 (leb-true 2 (length file) passed.0.0)

-- an accepted file keeps the layout and limits, and the case read is the case that it holds
pub accepted-keeps : (file : List ℕ) → Bytes file → refusal file ≡ 0 → (x : Keeps file) × (x.held ≡ case_of file)
accepted-keeps file b h =
    let (w, a) = limits file h in
    (record { present = present_in (file_map file); held = case_of file; within = w; agrees = a; bytes = sym (written_back file h b) }, refl)

-- ---- the bytes of a case

module _ (file : List ℕ) (p : Present) (k : FileCase) (known : known_form k.rate_bytes ≡ true) (e : file ≡ file_of p k) where
  -- the map is read as a field of 2 bytes, and it announces the fields that were written: their checks are left
  fields-left : (rate_bytes_in (file_map file) ≡ k.rate_bytes) × (present_in (file_map file) ≡ p)
      × (drop 2 file ≡ (layout k.rate_bytes p).bytes (parts_of k))
      × (failing (checks file) ≡ failing ((layout k.rate_bytes p).checks file 2 ++ last_checks file k.rate_bytes p))
  unfolding checks file_map file_of
  fields-left =
      let w = k.rate_bytes in
      let (right, small, present, form) = announced w p known in
      let (m, after, reach) =
      (field-lawful WrongFields (lit≤ tt) (upto-lawful 2 65535 (lit< tt))).read file 0 (map_of w p) ((layout w p).bytes (parts_of k)) small e in
      let f : rate_bytes_in (file_map file) ≡ w = ap rate_bytes_in m ∙ form in
      let s : present_in (file_map file) ≡ p = ap present_in m ∙ present in
      let rest : ℕ → Present → List Check = λ v q. (layout v q).checks file 2 ++ last_checks file v q in
      let map : Hold (map_checks file) = reach.0 also subst (λ i. bits_right i ≡ true) (sym m) right also tt in (
        f,
        s,
        after,
        after-hold (map_checks file) (rest (rate_bytes_in (file_map file)) (present_in (file_map file))) map
            ∙ ap₂ (λ (v : ℕ) (q : Present). failing (rest v q)) f s,
      )

  -- where its fields are within their limits, the case is the one read, and of all checks only 6 is left
  pub case-read : PartsWithin k.rate_bytes p (parts_of k) → (failing (checks file) ≡ failing (sixth k)) × (case_of file ≡ k)
  unfolding case_of
  case-read parts =
      let w = k.rate_bytes in
      let (f, s, after, left) = fields-left in
      let bytes = (layout w p).bytes (parts_of k) in
      let (value, none, fields) = (layout-lawful w p).read file 2 (parts_of k) [] parts (after ∙ sym (append-nil bytes)) in
      let is : case_of file ≡ k =
      ap₂ (λ (v : ℕ) (q : Present). case_from v ((layout v q).value file 2)) f s ∙ ap (case_from w) value ∙ case-of-parts k known in
      let end = (layout w p).end file 2 in
      let short : length file ≤ end = omega (arith, sym (length-drop end file) ∙ ap length none) in
      let two : Hold ((leb (length file) end, BytesFollow) ∷ []) = le-leb (length file) end short also tt in (
        left
            ∙ after-hold ((layout w p).checks file 2) (last_checks file w p) fields
            ∙ after-hold ((leb (length file) end, BytesFollow) ∷ []) (sixth (case_of file)) two
            ∙ ap (λ (c : FileCase). failing (sixth c)) is,
        is,
      )

-- the bytes of a case without two-byte days: their count is 0, so 4 refuses the file, and the UFR before it is read
pub no-days-refused : (file : List ℕ) (p : Present) (k : FileCase) → file ≡ file_of p (with_days 2 [] k) → UfrWithin p k.ufr
    → failing (checks file) ≡ Some DayCount
no-days-refused file p k e ufr =
    let (f, s, after, left) = fields-left file p (with_days 2 [] k) refl e in
    let fields = (later_fields p).bytes (k.pension, (k.bonds, (k.amounts, (shocks_in_order k.shocks, k.people)))) in
    let equity = (equity_field p).bytes k.shocks.equity_correlation in
    let u = (ufr_field p).bytes k.ufr in
    let none = (days 2).bytes [] in
    let behind = fields ++ equity in
    let bytes = append_assoc u (none ++ fields) equity ∙ ap (λ (l : List ℕ). u ++ l) (append_assoc none fields equity) in
    let (value, days-on, held) = (ufr-lawful p).read file 2 k.ufr (none ++ behind) ufr (after ∙ bytes) in
    let at = (ufr_field p).end file 2 in
    let first = (ufr_field p).checks file 2 in
    let counted = (days 2).checks file at in
    let later = (later_fields p).checks file ((days 2).end file at) in
    let own = (equity_field p).checks file ((first_fields 2 p).end file 2) in
    let last = own ++ last_checks file 2 p in
    left
    ∙ ap failing (append_assoc (first ++ (counted ++ later)) own (last_checks file 2 p))
    ∙ ap failing (append_assoc first (counted ++ later) last)
    ∙ after-hold first (counted ++ later ++ last) held
    ∙ ap failing (append_assoc counted later last)
    ∙ none-refused (day 2) 70 DayCount Rate file at behind (later ++ last) days-on

-- ---- a file that keeps the layout and limits

pub forwards-within : (k : FileCase) → WithinLimits k → ForwardsWithin (per_step k) k.days
unfolding per_step
forwards-within k w = w.days.forwards

-- it is accepted, and the case that it holds is the one read
pub keeps-accepted : (file : List ℕ) (x : Keeps file) → (refusal file ≡ 0) × (case_of file ≡ x.held)
keeps-accepted file x =
    let k = x.held in
    let (six, is) = case-read file x.present k x.within.form x.bytes (limits-parts x.present k x.within x.agrees) in
    (refusal-number file None (six ∙ holds-none (sixth k) (forwards-test (per_step k) k.days (forwards-within k x.within) also tt)), is)

-- so no file holds two cases
pub one-case : (file : List ℕ) (x y : Keeps file) → x.held ≡ y.held
one-case file x y = sym (keeps-accepted file x).1 ∙ (keeps-accepted file y).1
