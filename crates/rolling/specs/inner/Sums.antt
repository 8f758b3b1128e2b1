-- The sums per term, with a day more and with a day less; the first days of a window.
use Rattle.std.specs.Prelude.{ℕ, List, ℤ, pos, ◌+ℤ◌, ◌-ℤ◌, slice_index_or}
use Rattle.model.specs.Numbers.{table}
use Rattle.rollingmodel.specs.Rolling.{slot, day_in}
use Rattle.rollingmodel.specs.declared.RollingWindow.{RollingWindow}

abbrev pub plus : List ℤ → List ℤ → List ℤ
plus sums day = table (λ t. slice_index_or sums t (pos 0) +ℤ slice_index_or day t (pos 0)) 60

abbrev pub minus : List ℤ → List ℤ → List ℤ
minus sums day = table (λ t. slice_index_or sums t (pos 0) -ℤ slice_index_or day t (pos 0)) 60

-- the first n days of a window, from the oldest
abbrev pub first_days : RollingWindow → ℕ → List (List ℤ)
first_days w n = table (λ i. day_in w.rates (slot 70 w.start i)) n
