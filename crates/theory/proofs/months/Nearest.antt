-- The mean of 120 months rounded to the nearest 100 steps. With q = floor((z + 6,000) ÷ 12,000), z - 12,000 × q lies between -6,000 and
-- 5,999: so no other multiple is nearer, and the only one that can be equally near is lower. Assumes nothing.
use Prim.Native.Nat.{ℕ, ◌+◌, ◌*◌, ◌≤◌, ◌<◌}
use mathlib.Core.Path.{◌≡◌, sym}
use native.Mathlib.Nat.{le_antisymm}
use native.Mathlib.Omega.{arith}
use lib.IntN.{ℤ, pos, negsuc, nat_abs, ◌+ℤ◌, ◌-ℤ◌, ◌*ℤ◌}
use Rattle.monthsmodel.specs.Months.{floor_z, hundreds, apart, Nearest}
use Rattle.theory.proofs.general.Differences.{Diff, above, below, diff-self, again, one-diff, diff-pos, diff-sum, diff-minus, diff-times, diff-le, le-diff}

-- z ÷ 12,000 rounded down, of either sign
floor-between : (z : ℤ) (a b c d : ℕ) → Diff z a b → Diff (floor_z z 12000) c d
    → (12000 * c + b ≤ a + 12000 * d) × (a + 12000 * d < 12000 * c + b + 12000)
floor-between (pos n) a b c d h k = (omega arith, omega arith)
floor-between (negsuc n) a b c d h k = (omega arith, omega arith)

-- what is left of z beside q hundreds, and beside p hundreds
module _ (a b c d e f : ℕ) (least : 12000 * c + b ≤ a + 6000 + 12000 * d) (most : a + 6000 + 12000 * d < 12000 * c + b + 12000) where
  left-least : (x y : ℤ) → Diff x (a + 12000 * d) (b + 12000 * c) → Diff y (a + 12000 * f) (b + 12000 * e) → nat_abs x ≤ nat_abs y
  left-least (pos n) (pos m) h k = omega arith
  left-least (pos n) (negsuc m) h k = omega arith
  left-least (negsuc n) (pos m) h k = omega arith
  left-least (negsuc n) (negsuc m) h k = omega arith

  left-higher : (x y : ℤ) → Diff x (a + 12000 * d) (b + 12000 * c) → Diff y (a + 12000 * f) (b + 12000 * e) → nat_abs y ≡ nat_abs x → e + d ≤ c + f
  left-higher (pos n) (pos m) h k l = omega arith
  left-higher (pos n) (negsuc m) h k l = omega arith
  left-higher (negsuc n) (pos m) h k l = omega arith
  left-higher (negsuc n) (negsuc m) h k l = omega arith

-- z - 12,000 × q as a difference
pub diff-apart : (z q : ℤ) (a b c d : ℕ) → Diff z a b → Diff q c d → Diff (z -ℤ pos 12000 *ℤ q) (a + 12000 * d) (b + 12000 * c)
diff-apart z q a b c d h k = diff-minus z (pos 12000 *ℤ q) a b (12000 * c) (12000 * d) h (diff-times 12000 q c d k)

module _ (z : ℤ) where
  abbrev q : ℤ
  q = hundreds z

  between : (12000 * above q + below z ≤ above z + 6000 + 12000 * below q) × (above z + 6000 + 12000 * below q < 12000 * above q + below z + 12000)
  between =
      let more = again (z +ℤ pos 6000) (above z + 6000) (below z + 0) (above z + 6000) (below z)
      (diff-sum z (pos 6000) (above z) (below z) 6000 0 (diff-self z) (diff-pos 6000)) (omega arith) in
      floor-between (z +ℤ pos 6000) (above z + 6000) (below z) (above q) (below q) more (diff-self q)

  -- "The UFR is their mean rounded to the nearest 100 steps, halves upward."
  pub nearest-hundred : Nearest z (hundreds z)
  nearest-hundred =
      let left : (p : ℤ) → Diff (z -ℤ pos 12000 *ℤ p) (above z + 12000 * below p) (below z + 12000 * above p) =
      λ p. diff-apart z p (above z) (below z) (above p) (below p) (diff-self z) (diff-self p) in
      record {
        nearest = λ p.
            left-least (above z) (below z) (above q) (below q) (above p) (below p) between.0 between.1
            (z -ℤ pos 12000 *ℤ q) (z -ℤ pos 12000 *ℤ p) (left q) (left p);
        upward = λ p e.
            le-diff p q (above p) (below p) (above q) (below q) (diff-self p) (diff-self q)
            (left-higher (above z) (below z) (above q) (below q) (above p) (below p) between.0 between.1
            (z -ℤ pos 12000 *ℤ q) (z -ℤ pos 12000 *ℤ p) (left q) (left p) e);
      }

-- and no other number of hundreds is
pub nearest-once : (z p q : ℤ) → Nearest z p → Nearest z q → p ≡ q
nearest-once z p q h k =
    let same : apart z p ≡ apart z q = le_antisymm (h.nearest q) (k.nearest p) in
    let pq = diff-le {y = p} {z = q} (above p) (below p) (above q) (below q) (diff-self p) (diff-self q) (k.upward p same) in
    let qp = diff-le {y = q} {z = p} (above q) (below q) (above p) (below p) (diff-self q) (diff-self p) (h.upward q (sym same)) in
    one-diff p q (above p) (below p) (diff-self p) (again q (above q) (below q) (above p) (below p) (diff-self q) (omega arith))
