-- The last step that is counted, computed. Assumes nothing.
use mathlib.Core.Path.{◌≡◌, refl}
use Rattle.searchmodel.specs.Bisection.{count_left}
use Rattle.searchmodel.proofs.Computing.{all}

-- the step of 20,000 is counted, and the one after it, which is none, is not
last-step-counted : count_left (record { first = 22000; last = 22001 }) ≡ 1
unfolding all
last-step-counted = refl
