-- What is kept of the days of a file.
use Rattle.std.specs.Prelude.{ℕ, ◌≡◌, ◌+◌, ◌*◌, List, length, ℤ}
use Rattle.std.specs.Borrow.{Bor}
use Rattle.fields.specs.Sums.{Sums}
use Rattle.fields.specs.Reading.{IsPart}
use Rattle.fields.specs.declared.sums.FileDays.{FileDays}

-- their sums, and their bytes, which follow the count
pub record IsDays (w : ℕ) (file : Bor (List ℕ)) (at : ℕ) (v : FileDays) (ds : List (List ℤ)) : Type 0 where
  pub sums : Sums w ds v.summed.per_step v.summed.sums
  pub place : v.rates_at ≡ at + 1
  pub part : IsPart file v.rates (at + 1) (w * 60 * length ds)
