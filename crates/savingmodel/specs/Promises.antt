-- What is promised of a case that is written back in its shortest form. All of it has to be believed. Each record is a promise: it is the
-- contract of a function of the crate `promises`, with its premises, or a clause of the call that it is about. proofs/Plain.antt uses each
-- once more in plain numbers, so that a record that says less is refused.
use Rattle.std.specs.Prelude.{ℕ, ◌≤◌, ◌<◌, ◌≡◌, List, [], ◌∷◌, ◌++◌, length, take, drop, ℤ, Some, Ok, Err}
use Rattle.refusal.specs.Numbered.{refused_by}
use Rattle.refusal.specs.declared.Refusal.{Refusal}
use Rattle.refusal.specs.declared.Refusal.TheVariants.{Room}
use Rattle.model.specs.Case.{FileCase}
use Rattle.model.specs.Layout.{Keeps, case_of}
use Rattle.model.specs.Limits.{WithinLimits}
use Rattle.model.specs.Refusals.{failing, refusal}
use Rattle.model.specs.Sizes.{longest_file}
use Rattle.model.specs.declared.case.CaseFields.{CaseFields}
use Rattle.savingmodel.specs.Saving.{given, shortest, case_checks, case_refusal, save_checks, save_refusal, save_answer, saved_after}

-- "Reading the saved bytes gives the same case": they are accepted, and the case that they hold is the one that was saved
pub record SavedBytesGiveTheCase : Type 0 where
  pub accepted : (k : FileCase) → WithinLimits k → refusal (shortest k) ≡ 0
  pub same : (k : FileCase) → WithinLimits k → case_of (shortest k) ≡ k

-- "two cases have the same bytes exactly when all their numbers, list lengths included and with the days in order, are equal"
pub record SameBytesExactlyWhenEqual : Type 0 where
  pub equal_by_bytes : (k j : FileCase) → WithinLimits k → WithinLimits j → shortest k ≡ shortest j → k ≡ j
  pub same_bytes : (k j : FileCase) → WithinLimits k → WithinLimits j → k ≡ j → shortest k ≡ shortest j

-- "in its shortest form": no file of the case, with whatever optional fields, is shorter
pub record NoFileOfTheCaseIsShorter : Type 0 where
  pub shortest_of_all : (file : List ℕ) (x : Keeps file) → length (shortest x.held) ≤ length file

-- a case outside the limits gets the number of its refusal, and no other case does
pub record CaseRefusedExactlyOutsideLimits : Type 0 where
  pub within_accepted : (k : FileCase) → WithinLimits k → case_refusal k ≡ 0
  pub accepted_within : (k : FileCase) → case_refusal k ≡ 0 → WithinLimits k

-- a case outside the limits gets its own number, however long the buffer is
pub record OwnRefusalFirst : Type 0 where
  pub own : (k : FileCase) (room : ℕ) (r : Refusal) → failing (case_checks k) ≡ Some r → save_answer k room ≡ Err r

-- "then 14 when the lent buffer is shorter than the bytes needed": exactly where the case is within the limits and the buffer is too short
pub record FourteenExactlyForWantOfRoom : Type 0 where
  pub too_short : (k : FileCase) (room : ℕ) → WithinLimits k → room < length (shortest k) → save_answer k room ≡ Err Room
  pub only_within : (k : FileCase) (room : ℕ) → save_refusal k room ≡ 14 → WithinLimits k
  pub only_too_short : (k : FileCase) (room : ℕ) → save_refusal k room ≡ 14 → room < length (shortest k)

-- "a refusal writes no byte": whatever the refusal, it is the answer, and the buffer is what it was
pub record RefusedSaveChangesNothing : Type 0 where
  pub answer : (k : FileCase) (room : ℕ) (r : Refusal) → failing (save_checks k room) ≡ Some r → save_answer k room ≡ Err r
  pub kept : (k : FileCase) (held : List ℕ) (r : Refusal) → save_answer k (length held) ≡ Err r → saved_after k held ≡ held

-- a case within the limits is saved in every buffer that is long enough: the answer is the count of its bytes, they stand at the front, and
-- "the buffer's bytes past the written ones keep their content"
pub record SavedWhereThereIsRoom : Type 0 where
  pub answer : (k : FileCase) (room : ℕ) → WithinLimits k → length (shortest k) ≤ room → save_answer k room ≡ Ok (length (shortest k))
  pub front : (k : FileCase) (held : List ℕ) → WithinLimits k → length (shortest k) ≤ length held
      → take (length (shortest k)) (saved_after k held) ≡ shortest k
  pub later : (k : FileCase) (held : List ℕ) → WithinLimits k → length (shortest k) ≤ length held
      → drop (length (shortest k)) (saved_after k held) ≡ drop (length (shortest k)) held

-- the rates of some days, one day after another, and the fields of a case that are no lists
abbrev pub rates_in : List (List ℤ) → List ℤ
rates_in [] = []
rates_in (day ∷ days) = day ++ rates_in days

abbrev pub fields_in : FileCase → CaseFields
fields_in k = record { rate_bytes = k.rate_bytes; ufr = k.ufr; amounts = k.amounts; shocks = k.shocks; people = k.people }

-- every case within the limits can be handed in: so what is said of a case that a host hands in is said of each
pub record EveryCaseCanBeHandedIn : Type 0 where
  pub handed_in : (k : FileCase) → WithinLimits k → given (fields_in k) (rates_in k.days) k.pension k.bonds ≡ k

-- the bytes of a case within the limits are no more than those of the longest file, so a buffer of this many is always long enough
pub record SavedFilesAreShort : Type 0 where
  pub most : (k : FileCase) → WithinLimits k → length (shortest k) ≤ longest_file

-- ---- one call: of a case that is handed in, and what the lent buffer holds before it

-- a call that is not refused: the case is within the limits and the buffer long enough; what is answered, and what the buffer then holds,
-- which is read as the same case
pub record AcceptedSave (k : FileCase) (held : List ℕ) : Type 0 where
  pub within : WithinLimits k
  pub room : length (shortest k) ≤ length held
  pub most : length (shortest k) ≤ longest_file
  pub answer : save_answer k (length held) ≡ Ok (length (shortest k))
  pub front : take (length (shortest k)) (saved_after k held) ≡ shortest k
  pub later : drop (length (shortest k)) (saved_after k held) ≡ drop (length (shortest k)) held
  pub read : refusal (shortest k) ≡ 0
  pub same : case_of (shortest k) ≡ k
  pub shortest_of_all : (file : List ℕ) (x : Keeps file) → x.held ≡ k → length (shortest k) ≤ length file

-- every call
pub record SaveCall (k : FileCase) (held : List ℕ) : Type 0 where
  pub number : refused_by (save_answer k (length held)) ≡ save_refusal k (length held)
  -- whatever the refusal
  pub refused : (r : Refusal) → failing (save_checks k (length held)) ≡ Some r → save_answer k (length held) ≡ Err r
  pub kept : (r : Refusal) → save_answer k (length held) ≡ Err r → saved_after k held ≡ held
  pub own : (r : Refusal) → failing (case_checks k) ≡ Some r → save_answer k (length held) ≡ Err r
  pub too_short : WithinLimits k → length held < length (shortest k) → save_answer k (length held) ≡ Err Room
  pub fourteen_within : save_refusal k (length held) ≡ 14 → WithinLimits k
  pub fourteen_too_short : save_refusal k (length held) ≡ 14 → length held < length (shortest k)
  -- accepted exactly where the case is within the limits and the buffer long enough
  pub accepts : WithinLimits k → length (shortest k) ≤ length held → save_refusal k (length held) ≡ 0
  pub accepted : save_refusal k (length held) ≡ 0 → AcceptedSave k held

-- of every case and every buffer
pub record EverySaveCall : Type 0 where
  pub call : (k : FileCase) (held : List ℕ) → SaveCall k held
