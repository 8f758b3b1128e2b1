-- How many bytes a case file has at most, and how many of them decide about any file. Both have to be believed; proofs/Sizes.antt uses each
-- promise once in plain numbers.
use Rattle.std.specs.Prelude.{ℕ, ◌≤◌, ◌≡◌, List, length, take}
use Rattle.model.specs.Layout.{case_of}
use Rattle.model.specs.Refusals.{failing, checks, refusal}

-- the longest file that is accepted has this many bytes
abbrev pub longest_file : ℕ
longest_file = 17625

-- this many bytes from the front decide about any file: one more than the longest file that is accepted
abbrev pub deciding_bytes : ℕ
deciding_bytes = 17626

-- no accepted file is longer
pub record AcceptedFilesAreShort : Type 0 where
  pub most : (file : List ℕ) → refusal file ≡ 0 → length file ≤ longest_file

-- a file of just this many bytes is accepted
pub record LongestFileIsAccepted : Type 0 where
  pub file : List ℕ
  pub accepted : refusal file ≡ 0
  pub long : length file ≡ longest_file

-- whoever reads no more than the first bytes of a file learns whether it is refused, with which number, and, where it is accepted, all of
-- it and its case
pub record FirstBytesDecide : Type 0 where
  pub same_refusal : (file : List ℕ) → failing (checks (take deciding_bytes file)) ≡ failing (checks file)
  pub all_of_it : (file : List ℕ) → refusal file ≡ 0 → take deciding_bytes file ≡ file
  pub same_case : (file : List ℕ) → refusal file ≡ 0 → case_of (take deciding_bytes file) ≡ case_of file
