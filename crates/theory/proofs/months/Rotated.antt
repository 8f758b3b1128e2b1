-- The sum of a list of months, from the front and from any month of the ring on: the two parts of the list are exchanged, and a sum does
-- not depend on their order. Assumes nothing.
use Prim.Native.Nat.{ℕ, ◌<◌}
use mathlib.Core.Path.{◌≡◌, sym, ap, ◌∙◌}
use mathlib.Core.List.{List, [], ◌∷◌, ◌++◌}
use lib.ListN.{take, drop, take-append-drop}
use lib.IntN.{ℤ, pos, ◌+ℤ◌, +ℤ_assoc, +ℤ_comm, +ℤ_idl}
use Rattle.monthsmodel.specs.Months.{month, months_of, oldest_first, total}
use Rattle.theory.proofs.acceptance.Runs.{values_length}
use Rattle.theory.proofs.general.Ring.{rotated}

pub total-append : (xs ys : List ℤ) → total (xs ++ ys) ≡ total xs +ℤ total ys
unfolding total
total-append [] ys = sym (+ℤ_idl (total ys))
total-append (x ∷ xs) ys = ap (λ z. x +ℤ z) (total-append xs ys) ∙ sym (+ℤ_assoc x (total xs) (total ys))

-- "The ring is summed from its first byte on, and the result equals the sum taken from the oldest month."
pub oldest-sum : (history : List ℕ) (start : ℕ) → start < 120 → total (oldest_first start (months_of history)) ≡ total (months_of history)
unfolding oldest_first months_of
oldest-sum history start l =
    let months = months_of history in
    ap total (rotated months 120 start (pos 0) (values_length month history 0 120) l)
    ∙ total-append (drop start months) (take start months)
    ∙ +ℤ_comm (total (drop start months)) (total (take start months))
    ∙ sym (total-append (take start months) (drop start months))
    ∙ ap total (take-append-drop start months)
