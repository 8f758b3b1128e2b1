-- Numbers that hold a root, compared with fractions on both sides of them. Each statement is computed. Assumes nothing.
use mathlib.Core.Path.{◌≡◌, refl}
use mathlib.Core.Bool.{true, false}
use native.Mathlib.Nat.{not-le_of_lt}
use lib.Dec.{lit<, lit≤}
use Rattle.model.specs.declared.figures.Verdict.TheVariants.{Dekkingstekort, Reservetekort, VrijVermogen}
use Rattle.method.specs.Fraction.{◌//◌, whole, Rooted, ◌≤ʳ◌, ◌ʳ≤◌, rooted_at_most}
use Rattle.method.specs.Exact as Exact
use Rattle.method.proofs.Computing.{all}

-- 2 + 2 × the root of 2 is 4.82842..

abbrev root_of_two : Rooted
root_of_two = record { plain = whole 2; factor = whole 2; under = whole 2 }

at-most-rooted : (48284 // 10000 ≤ʳ root_of_two) × (whole 1 ≤ʳ root_of_two) × (48285 // 10000 ≤ʳ root_of_two → ⊥)
at-most-rooted = (lit≤ tt, lit≤ tt, λ h. not-le_of_lt (lit< tt) h)

rooted-at-most : (root_of_two ʳ≤ 48285 // 10000) × (root_of_two ʳ≤ 48284 // 10000 → ⊥)
rooted-at-most = ((lit≤ tt, lit≤ tt), λ h. not-le_of_lt (lit< tt) h.1)

-- a number below the plain part is not reached, however small the part that holds the root
abbrev no_root : Rooted
no_root = record { plain = whole 2; factor = whole 0; under = whole 2 }

rooted-plain : (no_root ʳ≤ whole 2) × (no_root ʳ≤ whole 1 → ⊥) × (whole 2 ≤ʳ no_root) × (whole 3 ≤ʳ no_root → ⊥)
rooted-plain = ((lit≤ tt, lit≤ tt), λ h. not-le_of_lt (lit< tt) h.0, lit≤ tt, λ h. not-le_of_lt (lit< tt) h)

rooted-tests : (rooted_at_most root_of_two (48285 // 10000) ≡ true)
    × (rooted_at_most root_of_two (48284 // 10000) ≡ false)
    × (rooted_at_most root_of_two (whole 1) ≡ false)
    × (rooted_at_most no_root (whole 2) ≡ true)
    × (rooted_at_most no_root (whole 1) ≡ false)
rooted-tests = (refl, refl, refl, refl, refl)

-- its root, S, is 2.19736..: L is 20, and A is 22.19 and 22.20; below 21 the first border decides
rooted-verdicts : (Exact.judge (2219 // 100) (whole 20) root_of_two ≡ Reservetekort)
    × (Exact.judge (2220 // 100) (whole 20) root_of_two ≡ VrijVermogen)
    × (Exact.judge (2099 // 100) (whole 20) no_root ≡ Dekkingstekort)
unfolding all
rooted-verdicts = (refl, refl, refl)
