-- What is promised of reading a case file. All of it has to be believed. Each record is a promise: it is the contract of a function of the crate
-- `promises`, with its premises, or a clause of the call that it is about. proofs/Plain.antt uses each once more in plain numbers, so that a
-- record that says less is refused.
use Rattle.std.specs.Prelude.{ℕ, ◌+◌, ◌*◌, ◌≤◌, ◌≡◌, ◌≢◌, List, [], length, take, drop, Some}
use Rattle.refusal.specs.Numbered.{number_of}
use Rattle.refusal.specs.declared.Refusal.{Refusal}
use Rattle.model.specs.Numbers.{Bytes}
use Rattle.model.specs.Limits.{WithinLimits}
use Rattle.model.specs.Layout.{Keeps, case_of}
use Rattle.model.specs.Refusals.{failing, checks, refusal, rates_part, days_at}

-- "a file is accepted exactly when it keeps the layout and limits there", and the case that is read is the one that it holds
pub record FilesAreAcceptedExactly : Type 0 where
  pub accepted_keeps : (file : List ℕ) → Bytes file → refusal file ≡ 0 → Keeps file
  pub keeps_accepted : (file : List ℕ) → Keeps file → refusal file ≡ 0
  pub case_held : (file : List ℕ) (x : Keeps file) → case_of file ≡ x.held
  pub case_within : (file : List ℕ) → refusal file ≡ 0 → WithinLimits (case_of file)

-- no file is the bytes of two cases
pub record NoFileHoldsTwoCases : Type 0 where
  pub same : (file : List ℕ) (x y : Keeps file) → x.held ≡ y.held

-- ---- a call for the number that a file is refused with

pub record RefusalCall (file : List ℕ) : Type 0 where
  pub bytes : Bytes file
  -- "The first that applies is given."
  pub refused : (r : Refusal) → failing (checks file) ≡ Some r → refusal file ≡ number_of r
  -- 0 exactly where the file keeps the layout and limits
  pub accepted_keeps : refusal file ≡ 0 → Keeps file
  pub keeps_accepted : Keeps file → refusal file ≡ 0
  -- no number is that of a buffer, a window or a history, since none is lent
  pub most : refusal file ≤ 12

pub record EveryRefusalCall : Type 0 where
  pub call : (file : List ℕ) → Bytes file → RefusalCall file

-- ---- a call for the part that holds the rates: "all n × 120 bytes; of a file that 1 to 12 refuse, an empty part"; "n × 240 bytes" of rates
-- of four bytes

pub record PartCall (file : List ℕ) : Type 0 where
  pub bytes : Bytes file
  -- empty exactly of a refused file
  pub refused : (r : Refusal) → failing (checks file) ≡ Some r → rates_part file ≡ []
  pub empty : rates_part file ≡ [] → refusal file ≢ 0
  -- by the days of the case that the file holds
  pub two_bytes : refusal file ≡ 0 → (case_of file).rate_bytes ≡ 2 → length (rates_part file) ≡ 120 * length (case_of file).days
  pub four_bytes : refusal file ≡ 0 → (case_of file).rate_bytes ≡ 4 → length (rates_part file) ≡ 240 * length (case_of file).days
  -- after the count of the days, and inside the file
  pub place : refusal file ≡ 0 → rates_part file ≡ take (length (rates_part file)) (drop (days_at file + 1) file)
  pub inside : refusal file ≡ 0 → days_at file + 1 + length (rates_part file) ≤ length file

pub record EveryPartCall : Type 0 where
  pub call : (file : List ℕ) → Bytes file → PartCall file
