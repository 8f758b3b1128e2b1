-- What many files in one input are, and that each is visited. Assumes nothing.
use Rattle.std.specs.Prelude.{ℕ, ◌^◌, ◌-◌, ◌<◌, ◌≤◌, ◌⊎◌, List, Option, IfSome, length}
use Rattle.std.specs.List.{FoldsTo}
use Rattle.std.specs.Io.KnownBytes.{Consumes, IsAtEnd}
use Rattle.batch.specs.Input.{LengthRead}

-- the reader has lost a file and its length before it; the file is shorter only where the input ends within it
pub record NextFile (before : Option (List ℕ)) (file : List ℕ) (after : Option (List ℕ)) : Type 0 where
  pub wanted : ℕ
  pub middle : Option (List ℕ)
  pub told : LengthRead before middle wanted
  pub lost : Consumes middle after file
  pub most : length file ≤ wanted
  pub cut : length file < wanted → IsAtEnd after

-- the reader has lost the length of a file, and of the file what came before a read failed
pub record FileCut (before : Option (List ℕ)) (file : List ℕ) (after : Option (List ℕ)) : Type 0 where
  pub wanted : ℕ
  pub middle : Option (List ℕ)
  pub told : LengthRead before middle wanted
  pub lost : Consumes middle after file
  pub most : length file ≤ wanted

-- no file follows that there is room for: fewer than the four bytes of a length are left, or it is above 100,000
abbrev pub NoFile : Option (List ℕ) → Type 0
NoFile before = IfSome before (λ bytes. length bytes < 4)
    ⊎ ((wanted : ℕ) × (middle : Option (List ℕ)) × LengthRead before middle wanted × 100000 < wanted)

-- one turn: a file was read, and then visited. `visits` says that a visit of a file may take the one state to the other
abbrev pub Turn : {F : Type 0} → (F → List ℕ → F → Type 0) → F × Option (List ℕ) → List ℕ → F × Option (List ℕ) → Type 0
Turn visits p file q = NextFile p.1 file q.1 × visits p.0 file q.0

-- turn by turn, until no file followed, or there were as many as the loop has turns
pub record Visited {F : Type 0} (visits : F → List ℕ → F → Type 0) (first : F) (before : Option (List ℕ)) : Type 0 where
  pub files : List (List ℕ)
  pub left : Option (List ℕ)
  pub last : F
  pub each : FoldsTo (Turn visits) (first, before) files (last, left)
  pub end : NoFile left ⊎ (2 ^ 64 - 1 ≤ length files)
