-- The rounding of a mean once more, with each number written where it is used, as two bounds. Nothing else rests on this. It is here so that
-- a promise that said less would not give it. Assumes nothing.
use Prim.Native.Nat.{ℕ, ◌+◌, ◌*◌, ◌≤◌, ◌<◌}
use mathlib.Core.Path.{◌≡◌}
use native.Mathlib.Omega.{arith}
use lib.IntN.{ℤ, pos, negsuc, nat_abs, ◌+ℤ◌, ◌-ℤ◌, ◌*ℤ◌}
use Rattle.monthsmodel.specs.Months.{apart, Nearest}
use Rattle.theory.proofs.general.Differences.{Diff, again, diff-pos, diff-sum, diff-minus, diff-le}
use Rattle.theory.proofs.months.Nearest.{diff-apart}

-- x is z - 12,000 × q; one hundred more takes 12,000 away, and one less adds it
not-above : (x y : ℤ) (a b : ℕ) → Diff x a b → Diff y a (b + 12000) → nat_abs x ≤ nat_abs y → (nat_abs y ≡ nat_abs x → ⊥) → a < b + 6000
not-above (pos n) (pos m) a b h k l e = omega arith
not-above (pos n) (negsuc m) a b h k l e = omega arith
not-above (negsuc n) (pos m) a b h k l e = omega arith
not-above (negsuc n) (negsuc m) a b h k l e = omega arith

not-below : (x y : ℤ) (a b : ℕ) → Diff x a b → Diff y (a + 12000) b → nat_abs x ≤ nat_abs y → b ≤ a + 6000
not-below (pos n) (pos m) a b h k l = omega arith
not-below (pos n) (negsuc m) a b h k l = omega arith
not-below (negsuc n) (pos m) a b h k l = omega arith
not-below (negsuc n) (negsuc m) a b h k l = omega arith

-- the mean of months whose sum is z = a - b lies at most 50 steps below q = c - d hundreds and less than 50 steps above: times 120
plain-nearest : (z q : ℤ) (a b c d : ℕ) → Diff z a b → Diff q c d → Nearest z q
    → (b + 12000 * c ≤ a + 12000 * d + 6000) × (a + 12000 * d < b + 12000 * c + 6000)
plain-nearest z q a b c d h k n =
    let more = q +ℤ pos 1 in
    let less = q -ℤ pos 1 in
    let up : Diff more (c + 1) (d + 0) = diff-sum q (pos 1) c d 1 0 k (diff-pos 1) in
    let down : Diff less (c + 0) (d + 1) = diff-minus q (pos 1) c d 1 0 k (diff-pos 1) in
    let left = diff-apart z q a b c d h k in
    let above = again (z -ℤ pos 12000 *ℤ more) (a + 12000 * (d + 0)) (b + 12000 * (c + 1)) (a + 12000 * d) (b + 12000 * c + 12000)
    (diff-apart z more a b (c + 1) (d + 0) h up) (omega arith) in
    let below = again (z -ℤ pos 12000 *ℤ less) (a + 12000 * (d + 1)) (b + 12000 * (c + 0)) (a + 12000 * d + 12000) (b + 12000 * c)
    (diff-apart z less a b (c + 0) (d + 1) h down) (omega arith) in
    let no_tie : apart z more ≡ apart z q → ⊥ =
    λ e. let l = diff-le {y = more} {z = q} (c + 1) (d + 0) c d up k (n.upward more e) in omega arith in (
      not-below (z -ℤ pos 12000 *ℤ q) (z -ℤ pos 12000 *ℤ less) (a + 12000 * d) (b + 12000 * c) left below (n.nearest less),
      not-above (z -ℤ pos 12000 *ℤ q) (z -ℤ pos 12000 *ℤ more) (a + 12000 * d) (b + 12000 * c) left above (n.nearest more) no_tie,
    )
