-- A case as the engine holds it, and the default case, at numbers, each computed. Assumes nothing.
use mathlib.Core.Path.{◌≡◌, refl}
use mathlib.Core.List.{[], ◌∷◌}
use lib.ListN.{length, get_or, replicate}
use lib.IntN.{pos}
use Rattle.model.specs.Case.{FileCase}
use Rattle.model.specs.Layout.{no_amounts, shocks_from}
use Rattle.heldcase.specs.Held.{held, default_case}
use Rattle.method.proofs.Computing.{all}

-- a day of rates in four bytes, the first 0.00003 and the others 0.00007, and a shock that would move them
abbrev pub one_day : FileCase
one_day = record {
  rate_bytes = 4;
  ufr = 4321;
  days = (pos 300 ∷ replicate 59 (pos 700)) ∷ [];
  pension = 7 ∷ [];
  bonds = 9 ∷ 8 ∷ [];
  amounts = no_amounts;
  shocks = shocks_from (100 ∷ [], (0, 0)) 500;
  people = record { heads = 1; pension_age = 0; mean_age = 0 };
}

held-numbers : ((held one_day).ufr ≡ 4321) × ((held one_day).per_step ≡ 100)
unfolding held all
held-numbers = (refl, refl)

-- N is 10,000,000, and the curve is the base curve, to term 60
held-sums : (length (held one_day).sums ≡ 60) × (get_or (held one_day).sums 0 0 ≡ 10000300) × (get_or (held one_day).sums 59 0 ≡ 10000700)
unfolding held all
held-sums = (refl, refl, refl)

held-correlation : (held one_day).shocks.equity_correlation ≡ 500
unfolding held
held-correlation = refl

held-flows : ((held one_day).pension ≡ 7 ∷ []) × ((held one_day).bonds ≡ 9 ∷ 8 ∷ [])
unfolding held
held-flows = (refl, refl)

default-numbers : (default_case.ufr ≡ 4200) × (default_case.per_step ≡ 0) × (default_case.sums ≡ replicate 60 0)
unfolding default_case
default-numbers = (refl, refl, refl)

default-shocks : (default_case.shocks.spread ≡ 0) × (default_case.shocks.duration ≡ 0) × (default_case.shocks.equity_correlation ≡ 1000)
unfolding default_case
default-shocks = (refl, refl, refl)

default-people : (default_case.people.heads ≡ 0) × (default_case.people.pension_age ≡ 0) × (default_case.people.mean_age ≡ 0)
unfolding default_case
default-people = (refl, refl, refl)
