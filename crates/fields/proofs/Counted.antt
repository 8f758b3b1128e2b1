-- A count byte, the count, the rest of the length: check by check, and where the cursor then is.
use Rattle.std.specs.Cmp.{first_so, second_so}
use Rattle.std.proofs.Common.{Option, Some, None, ◌≡◌, ◌∙◌, ℕ, ◌+◌, ◌*◌, ◌/◌, ◌≤◌, true, List, [], ◌∷◌, ◌++◌, get_or, take, drop, length, ap}
use Rattle.std.specs.Borrow.{Bor}
use mathlib.Core.Path.{ap₂}
use borrow.Author.Tests.{leb-true}
use lib.Dec.{leb, lit<}
use native.Mathlib.Nat.{mul-div_cancel_left}
use Rattle.refusal.specs.declared.Refusal.TheVariants.{EndsEarly}
use Rattle.model.specs.Fields.{Check, reaches, within, value_all}
use Rattle.model.specs.Layout.{flow}
use Rattle.model.specs.Refusals.{failing}
use Rattle.fields.specs.Checks.{count_checks}
use Rattle.fields.specs.Reading.{Moved, IsPart}
use Rattle.refusal.specs.declared.Refusal.{Refusal}
use Rattle.fields.specs.declared.cursor.Cursor.{Cursor}
use Rattle.fields.proofs.Digits.{values-whole}
use Rattle.fields.proofs.Steps.{go, stop}

module _ (most size : ℕ) (r : Refusal) (file : List ℕ) (at n : ℕ) (is : n ≡ get_or file at 0) where
  abbrev byte : List Check
  byte = (reaches file (at + 1), EndsEarly) ∷ []

  abbrev few : List Check
  few = (within 1 most n, r) ∷ []

  abbrev whole : List Check
  whole = (reaches file (at + 1 + size * n), EndsEarly) ∷ []

  abbrev all : List Check
  all = count_checks most r size file at

  in_order : failing (byte ++ (few ++ whole)) ≡ failing all
  in_order = ap (λ k. failing ((reaches file (at + 1), EndsEarly) ∷ (within 1 most k, r) ∷ (reaches file (at + 1 + size * k), EndsEarly) ∷ [])) is

  pub not-few : (e : Refusal) → failing byte ≡ None → Some e ≡ failing few → Some e ≡ failing all
  not-few e b h = go byte (few ++ whole) b (stop e few whole h) ∙ in_order

  pub whole-last : {y : Option Refusal} → failing byte ≡ None → failing few ≡ None → y ≡ failing whole → y ≡ failing all
  whole-last b f h = go byte (few ++ whole) b (go few whole f h) ∙ in_order

pub within-both : (a b v : ℕ) → within a b v ≡ true → (a ≤ v) × (v ≤ b)
within-both a b v h = (leb-true a v (first_so (leb a v) (leb v b) h), leb-true v b (second_so (leb a v) (leb v b) h))

-- what is read from a cursor that has moved
pub part-moved : {old new : Cursor} {part : Bor (List ℕ)} {at n : ℕ} → Moved old new at → IsPart new.file part new.at n → IsPart old.file part at n
part-moved {old} {new} {part} {at} {n} m h = record {
  bytes = h.bytes ∙ ap₂ (λ f i. take n (drop i f.now)) m.same m.behind;
  place = h.place ∙ ap₂ (λ f i. (f.ref_ptr.0, i + f.ref_ptr.1)) m.same m.behind;
  whole = h.whole;
}

pub moved-on : {old mid new : Cursor} {at end : ℕ} (k : ℕ) → Moved old mid at → Moved mid new (mid.at + k) → at + k ≡ end → Moved old new end
moved-on k m h e = record { same = h.same ∙ m.same; behind = h.behind ∙ ap (λ i. i + k) m.behind ∙ e }

pub reaches-moved : {old new : Cursor} {at : ℕ} (k : ℕ) → Moved old new at → reaches new.file.now (new.at + k) ≡ reaches old.file.now (at + k)
reaches-moved k m = ap₂ (λ f i. reaches f.now (i + k)) m.same m.behind

-- the flows of a part of the file
pub flows-are : {file part : Bor (List ℕ)} {at : ℕ} (n : ℕ) → IsPart file part at (4 * n)
    → value_all flow part.now 0 (length part.now / 4) ≡ value_all flow file.now at n
flows-are {file} {part} {at} n h =
    ap (λ k. value_all flow part.now 0 (k / 4)) h.whole
    ∙ ap (value_all flow part.now 0) (mul-div_cancel_left n (lit< tt))
    ∙ values-whole 4 0 100000000 n file.now at part.now h.bytes
