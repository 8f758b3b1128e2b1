-- Files that are read and visited in turn. Assumes nothing.
use Rattle.std.proofs.Common.{◌≡◌, ℕ, inr, List, Option, Some, None, ◌≤◌, length, take, ap, arith, length-take-le, length-append, ◌++◌, ◌∷◌, [], ◌+◌, ◌∙◌}
use Rattle.batch.specs.Input.{LosesFront, LengthGiven, FileGiven}
use Rattle.batch.specs.Files.{NextFile, FileCut, NoFile}

-- a length and what there is of the file after it
pub next-file : (before middle after : Option (List ℕ)) (wanted count : ℕ) (held buf : List ℕ) → LengthGiven before middle (Some wanted)
    → FileGiven wanted middle after held buf (Some count) → NextFile before (take count buf) after
next-file before middle after wanted count held buf told given =
    let read = given.1 in
    let long : length (take count buf) ≡ count = length-take-le count buf read.front.within in
    record {
      wanted = wanted;
      middle = middle;
      told = told.1;
      lost = read.front.lost;
      most = omega (arith, long, read.most);
      cut = λ fewer. read.end (omega (arith, long, fewer));
    }

-- a length and what there is of the file before a read that failed
pub file-cut : (before middle after : Option (List ℕ)) (wanted count : ℕ) (buf : List ℕ) → LengthGiven before middle (Some wanted) → count ≤ wanted
    → LosesFront middle after buf count → FileCut before (take count buf) after
file-cut before middle after wanted count buf told most front =
    let long : length (take count buf) ≡ count = length-take-le count buf front.within in
    record { wanted = wanted; middle = middle; told = told.1; lost = front.lost; most = omega (arith, long, most) }

-- a file that is longer than the room for it
pub too-long : (before middle after : Option (List ℕ)) (wanted : ℕ) (held buf : List ℕ) → length held ≡ 100000 → LengthGiven before middle (Some wanted)
    → FileGiven wanted middle after held buf None → NoFile before
too-long before middle after wanted held buf room told given = inr (wanted, middle, told.1, omega (arith, room, given.0))

pub one-more : {A : Type 0} (files : List A) (file : A) (turns : ℕ) → length files ≡ turns → length (files ++ (file ∷ [])) ≡ turns + 1
one-more files file turns e = length-append files (file ∷ []) ∙ ap (λ n. n + 1) e
