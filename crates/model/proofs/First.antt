-- The number of the first check that fails, check by check. Assumes nothing.
use mathlib.Core.Path.{◌≡◌, refl}
use mathlib.Core.Bool.{true, false, cond}
use mathlib.Core.List.{List, [], ◌∷◌}
use Rattle.refusal.specs.Numbered.{number_of}
use Rattle.model.specs.Fields.{Check}
use Rattle.model.specs.Refusals.{first_of}

pub first-none : first_of [] ≡ 0
unfolding first_of
first-none = refl

pub first-more : (check : Check) (checks : List Check) → first_of (check ∷ checks) ≡ cond check.0 (first_of checks) (number_of check.1)
unfolding first_of
first-more (true, r) checks = refl
first-more (false, r) checks = refl
