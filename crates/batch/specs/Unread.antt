-- What an input that cannot be read leaves. Assumes nothing.
use Rattle.std.specs.Prelude.{ℕ, ◌≤◌, ◌≡◌, ◌⊎◌, List, Option, ⊤, length}
use Rattle.std.specs.List.{FoldsTo}
use Rattle.std.specs.Io.KnownBytes.{Keeps}
use Rattle.batch.specs.Input.{LosesCount}
use Rattle.batch.specs.Files.{FileCut, Turn}
use Rattle.batch.specs.declared.Stopped.{Stopped}
use Rattle.batch.specs.declared.Stopped.TheVariants.{Read, Write}

-- what a writer holds before and after: nothing more where a read has failed; of a write that failed nothing is said
abbrev pub KeepsUnread : Option (List ℕ) → Option (List ℕ) → Stopped → Type 0
KeepsUnread before after (Read error) = Keeps before after
KeepsUnread before after (Write error) = ⊤

-- a file that a failed read cuts is visited too, with the `count` bytes that came before; where the read of a length fails, none is
pub record CutVisited {F : Type 0} (visits : F → List ℕ → F → Type 0) (first : F) (before after : Option (List ℕ)) (count : ℕ) : Type 0 where
  pub file : List ℕ
  pub last : F
  pub cut : FileCut before file after
  pub long : length file ≡ count
  pub visited : visits first file last

-- turn by turn, until a read failed after `count` bytes of a length or of a file
pub record VisitedUntil {F : Type 0} (visits : F → List ℕ → F → Type 0) (first : F) (before after : Option (List ℕ)) (count : ℕ) : Type 0 where
  pub files : List (List ℕ)
  pub left : Option (List ℕ)
  pub last : F
  pub each : FoldsTo (Turn visits) (first, before) files (last, left)
  pub end : ((count ≤ 4) × LosesCount left after count) ⊎ CutVisited visits last left after count

-- of a write that failed nothing is said here
abbrev pub VisitedBefore : {F : Type 0} → (F → List ℕ → F → Type 0) → F → Option (List ℕ) → Option (List ℕ) → Stopped → Type 0
VisitedBefore visits first before after (Read cut) = VisitedUntil visits first before after cut.count
VisitedBefore visits first before after (Write error) = ⊤
