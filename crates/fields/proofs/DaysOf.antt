-- The days of a list of rates are its chunks of 60, where it is a whole number of days.
use Prim.Native.Nat.{ℕ, zero, suc, ◌/◌, ◌%◌}
use mathlib.Core.Path.{◌≡◌, refl, ap, ◌∙◌}
use mathlib.Core.List.{List, [], ◌∷◌}
use borrow.Author.Tests.{eq-eqb, ne_eqb}
use lib.ListN.{length, take, drop}
use lib.IntN.{ℤ}
use Rattle.std.specs.Simd.{first_chunks}
use Rattle.savingmodel.specs.Saving.{days_in, days_of}

chunks-days : (n : ℕ) (rates : List ℤ) → first_chunks 60 n rates ≡ days_in n rates
chunks-days zero rates = refl
chunks-days (suc n) rates = ap (λ (days : List (List ℤ)). take 60 rates ∷ days) (chunks-days n (drop 60 rates))

pub all-days : (rates : List ℤ) {days : List (List ℤ)} → days ≡ first_chunks 60 (length rates / 60) rates → length rates % 60 ≡ 0 → days ≡ days_of rates
unfolding days_of
all-days rates e h = e ∙ rw (eq-eqb (length rates % 60) 0 h) (chunks-days (length rates / 60) rates)

pub no-days : (rates : List ℤ) → (length rates % 60 ≡ 0 → ⊥) → ◌≡◌ {A = List (List ℤ)} [] (days_of rates)
unfolding days_of
no-days rates h = rw (ne_eqb (length rates % 60) 0 h)
