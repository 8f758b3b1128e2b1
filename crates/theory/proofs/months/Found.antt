-- The UFR that a history gives, where it is not refused: it is the rounded mean itself, at most 5,000 steps, and the mean may be taken from
-- the oldest month on. Assumes nothing.
use Prim.Native.Nat.{ℕ, ◌≤◌, ◌<◌}
use mathlib.Core.Path.{◌≡◌, refl, ap, sym, ◌∙◌, subst}
use mathlib.Core.Bool.{true}
use mathlib.Core.List.{List}
use native.Mathlib.Omega.{arith}
use borrow.Author.Tests.{leb-true}
use lib.Dec.{T, leb, eqb}
use lib.ListN.{length}
use lib.IntN.{ℤ, pos, negsuc, ◌*ℤ◌}
use Rattle.std.specs.Cmp.{second_so}
use Rattle.method.specs.Curve.{natural}
use Rattle.model.specs.Fields.{within_z}
use Rattle.monthsmodel.specs.Months.{months_of, oldest_first, total, hundreds, rounded_ufr, history_checks, ufr_refusal, ufr_found}
use Rattle.theory.proofs.acceptance.Checks.{Hold, none-hold}
use Rattle.theory.proofs.months.Rotated.{oldest-sum}

-- an integer of 0 to 5,000
whole : (z : ℤ) → within_z (pos 0) (pos 5000) z ≡ true → (natural z ≤ 5000) × (pos (natural z) ≡ z)
whole (pos n) h = (leb-true n 5000 (second_so (leb 0 n) (leb n 5000) h), refl)
whole (negsuc n) h = absurd (subst T (sym h) tt)

module _ (history : List ℕ) (start : ℕ) (none : ufr_refusal history start ≡ 0) where
  passed : Hold (history_checks history start)
  unfolding ufr_refusal
  passed = none-hold (history_checks history start) none

  pub start-within : start < 120
  start-within = let l = leb-true start 119 (second_so (eqb (length history) 240) (leb start 119) passed.0) in omega arith

  pub found-most : ufr_found history ≤ 5000
  found-most = (whole (rounded_ufr history) passed.1.1.0).0

  -- the UFR found is the mean of the months from the oldest on, rounded as `Nearest` says (nearest-hundred)
  pub found-rounded : pos (ufr_found history) ≡ pos 100 *ℤ hundreds (total (oldest_first start (months_of history)))
  unfolding rounded_ufr
  found-rounded =
      (whole (rounded_ufr history) passed.1.1.0).1 ∙ ap (λ z. pos 100 *ℤ hundreds z) (sym (oldest-sum history start start-within))
