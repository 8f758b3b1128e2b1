-- The steps whose tests are known before a search.
use Rattle.std.specs.Prelude.{ℕ, ◌≤◌, ◌<◌}
use Rattle.arith.specs.Rounding.{low, high}
use Rattle.method.specs.Rounded.{tested}
use Rattle.zerorates.specs.declared.known.Interval.{Interval}

-- the results of each step below n are above the factor, or those of each from n on below it
abbrev pub AboveUntil : ℕ → ℕ → ℕ → Type 0
AboveUntil t factor n = (i : ℕ) → i < n → factor < tested low t i

abbrev pub BelowFrom : ℕ → ℕ → ℕ → Type 0
BelowFrom t factor n = (i : ℕ) → n ≤ i → i < 22001 → tested high t i < factor

-- steps whose tests are known: those below lo, and those from hi on
pub record Known (t factor : ℕ) (p : Interval) : Type 0 where
  pub above : AboveUntil t factor p.lo
  pub below : BelowFrom t factor p.hi
