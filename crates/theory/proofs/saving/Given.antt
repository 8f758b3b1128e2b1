-- Every case within the limits can be handed in: its fields, its days one after another, and its flows give it. So what is said of a
-- case that a host hands in is said of each such case.
use mathlib.Core.Path.{◌≡◌, refl, ap, ap₂, ◌∙◌}
use mathlib.Core.List.{List, [], ◌∷◌}
use Prim.Native.Nat.{ℕ, suc, ◌*◌, ◌/◌, ◌%◌, ◌<◌}
use native.Mathlib.Omega.{arith}
use borrow.Author.Tests.{eq-eqb}
use lib.ListN.{length, get_or, length-append}
use lib.Seq.{take_at, drop_at}
use lib.IntN.{ℤ}
use Rattle.model.specs.Case.{FileCase, with_days}
use Rattle.model.specs.Limits.{WithinLimits}
use Rattle.savingmodel.specs.Saving.{days_in, days_of, given}
use Rattle.savingmodel.specs.Promises.{rates_in, fields_in}

-- each day has 60 rates
abbrev Whole : List (List ℤ) → Type 0
Whole days = (d : ℕ) → d < length days → length (get_or days d []) ≡ 60

later : (day : List ℤ) (days : List (List ℤ)) → Whole (day ∷ days) → Whole days
later day days h d l = h (suc d) (omega arith)

rates-length : (days : List (List ℤ)) → Whole days → length (rates_in days) ≡ 60 * length days
rates-length [] h = refl
rates-length (day ∷ days) h =
    length-append day (rates_in days) ∙ omega (arith, h 0 (omega arith), rates-length days (later day days h))

days-back : (days : List (List ℤ)) → Whole days → days_in (length days) (rates_in days) ≡ days
days-back [] h = refl
days-back (day ∷ days) h =
    let long : length day ≡ 60 = h 0 (omega arith) in
    ap₂ (λ (d : List ℤ) (ds : List (List ℤ)). d ∷ ds) (take_at day (rates_in days) 60 long)
    (ap (days_in (length days)) (drop_at day (rates_in days) 60 long) ∙ days-back days (later day days h))

pub days-given : (days : List (List ℤ)) → Whole days → days_of (rates_in days) ≡ days
unfolding days_of
days-given days h =
    let long = rates-length days h in
    let none : length (rates_in days) % 60 ≡ 0 = omega (arith, long) in
    let count : length (rates_in days) / 60 ≡ length days = omega (arith, long) in
    rw (eq-eqb (length (rates_in days) % 60) 0 none, count) (days-back days h)

pub case-given : (k : FileCase) → WithinLimits k → given (fields_in k) (rates_in k.days) k.pension k.bonds ≡ k
case-given k w = ap (λ (days : List (List ℤ)). with_days k.rate_bytes days k) (days-given k.days (λ d l. (w.days.each d l).terms))
