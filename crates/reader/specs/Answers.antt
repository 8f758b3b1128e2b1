-- What reading a file gives, a case or a refusal, and the part of the file that holds the rates.
use Rattle.std.specs.Prelude.{ℕ, ◌+◌, ◌≡◌, if◌then◌else◌, List, [], ◌∷◌, Option, Some, None, Result, IfOk, IsOkAnd}
use Rattle.std.specs.Borrow.{Bor}
use Rattle.std.specs.Result.{result_err}
use Rattle.model.specs.Numbers.{Bytes}
use Rattle.heldcase.specs.Held.{held}
use Rattle.model.specs.Layout.{Keeps, case_of}
use Rattle.model.specs.Fields.{Check}
use Rattle.model.specs.Refusals.{failing, first_of, checks, rates_part, days_at}
use Rattle.refusal.specs.Numbered.{number_of}
use Rattle.refusal.specs.declared.Refusal.{Refusal}
use Rattle.reader.specs.declared.file.Reading.{Reading}

-- the offset of the rates' part in the file, and the place that lies k entries after another
abbrev pub rates_from : Option Refusal → List ℕ → ℕ
rates_from None file = days_at file + 1
rates_from (Some r) file = 0

abbrev pub behind : ℕ × ℕ → ℕ → ℕ × ℕ
behind place k = (place.0, k + place.1)

-- the caller's own bytes: the rates' part of the file, at its place in the file
pub record RatesPart (file r : Bor (List ℕ)) : Type 0 where
  pub bytes : r.now ≡ rates_part file.now
  pub place : r.ref_ptr ≡ behind file.ref_ptr (rates_from (failing (checks file.now)) file.now)

-- a file is read: the answer is its refusal, and an accepted one gives its case and its rates
pub record Read (file : Bor (List ℕ)) (r : Result Reading Refusal) : Type 0 where
  pub refusal : result_err r ≡ failing (checks file.now)
  pub given : IfOk r (λ x. (x.«case» ≡ held (case_of file.now)) × RatesPart file x.rates)
  pub there : IfOk r (λ x. x.rates_at ≡ days_at file.now + 1)

-- what a reading tells
pub record ReadExactly (file : List ℕ) (r : Result Reading Refusal) : Type 0 where
  -- the type of the lent slice says it of each entry
  pub bytes : Bytes file
  pub refusal : result_err r ≡ failing (checks file)
  -- "a file is accepted exactly when it keeps the layout and limits there", and the case read is the case that it holds
  pub keeps_accepted : (x : Keeps file) → IsOkAnd r (λ y. y.«case» ≡ held x.held)
  pub accepted_keeps : IfOk r (λ y. (x : Keeps file) × (y.«case» ≡ held x.held))

-- "The first that applies is given.", of numbers: each check is looked at in its turn, and where none fails the number is 0
pub record IsFirstOfAll : Type 0 where
  pub none : first_of [] ≡ 0
  pub next : (check : Check) (checks : List Check) → first_of (check ∷ checks) ≡ (if check.0 then first_of checks else number_of check.1)
