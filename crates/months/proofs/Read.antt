-- A month of a history, from the chunk of its two bytes.
use Prim.Native.Nat.{ℕ, ◌*◌, ◌/◌, ◌<◌}
use mathlib.Core.Path.{◌≡◌, ap, ◌∙◌}
use mathlib.Core.List.{List}
use native.Mathlib.Nat.{zero-add}
use native.Mathlib.Omega.{arith}
use lib.ListN.{length, get_or}
use lib.IntN.{ℤ}
use Rattle.std.specs.Simd.{first_chunks}
use Rattle.model.specs.Layout.{daily_rate}
use Rattle.model.specs.Numbers.{twos_complement}
use Rattle.monthsmodel.specs.Months.{month}
use Rattle.fields.proofs.Digits.{chunk-number}

pub month-read : (history : List ℕ) (chunks : List (List ℕ)) (i : ℕ) (d : List ℕ) {z : ℤ} → chunks ≡ first_chunks 2 (length history / 2) history → i < length chunks
    → z ≡ (daily_rate 2).value (get_or chunks i d) 0 → z ≡ month.value history (2 * i)
month-read history chunks i d e l h =
    h
    ∙ ap (twos_complement 2) (chunk-number 2 chunks history i d e (omega arith) l)
    ∙ ap (month.value history) (zero-add (2 * i))
