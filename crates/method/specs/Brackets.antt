-- The two searches by which the ends of a zero rate's bracket are defined.
use Rattle.std.specs.Prelude.{ℕ, zero, suc, Bool, if◌then◌else◌}

-- the largest index below n that passes, and the smallest of the n indices from i on; `none` where none passes
unfoldable pub largest : (ℕ → Bool) → ℕ → ℕ → ℕ
largest test zero none = none
largest test (suc n) none = let r = largest test n none in if test n then n else r

unfoldable pub smallest : (ℕ → Bool) → ℕ → ℕ → ℕ → ℕ
smallest test i zero none = none
smallest test i (suc n) none = let r = smallest test (suc i) n none in if test i then i else r
