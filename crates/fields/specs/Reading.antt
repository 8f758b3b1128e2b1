-- What reading from a cursor tells.
use Rattle.std.specs.Prelude.{ℕ, Bool, true, false, ◌+◌, ◌≡◌, List, length, take, drop, Result}
use Rattle.std.specs.Borrow.{Bor}
use Rattle.model.specs.Fields.{Field}
use Rattle.fields.specs.Checks.{Checked}
use Rattle.refusal.specs.declared.Refusal.{Refusal}
use Rattle.fields.specs.declared.cursor.Cursor.{Cursor}

-- the cursor has moved to a position of the same file
pub record Moved (old new : Cursor) (end : ℕ) : Type 0 where
  pub same : new.file ≡ old.file
  pub behind : new.at ≡ end

-- the caller's own bytes, `count` of them from a position on
pub record IsPart (file part : Bor (List ℕ)) (at count : ℕ) : Type 0 where
  pub bytes : part.now ≡ take count (drop at file.now)
  pub place : part.ref_ptr ≡ (file.ref_ptr.0, at + file.ref_ptr.1)
  pub whole : length part.now ≡ count

-- a field is read: its checks, then its value as Q says that it is held, and the cursor is after it
abbrev pub Reads : {A B : Type 0} → Field A → (B → A → Type 0) → Cursor → Cursor → Result B Refusal → Type 0
Reads f Q old new result =
    Checked (f.checks old.file.now old.at) (λ v. Q v (f.value old.file.now old.at) × Moved old new (f.end old.file.now old.at)) result

-- what is told where a field is there, and where it is not
abbrev pub IfThere : Bool → Type 0 → Type 0 → Type 0
IfThere true There Without = There
IfThere false There Without = Without
