-- The curve that the code's sums describe. Assumes nothing.
use Prim.Native.Nat.{ℕ, ◌+◌, ◌≤◌}
use mathlib.Core.Path.{◌≡◌, refl}
use native.Mathlib.Omega.{arith}
use lib.ListN.{get_or}
use lib.IntN.{pos, ◌+ℤ◌, ◌-ℤ◌}
use Rattle.method.specs.Curve.{P}
use Rattle.theory.proofs.general.Differences.{diff-pos, diff-sum, diff-minus, natural-is}
use Rattle.curves.specs.declared.sums.CurveSums.{CurveSums}
use Rattle.curves.specs.inner.Shifted.{curve_of}
use Rattle.curves.specs.inner.Ranges.{FactorsWithin}

pub N-of : (c : CurveSums) → (curve_of c).N ≡ c.n
unfolding curve_of
N-of c = refl

pub ufr-of : (c : CurveSums) → (curve_of c).ufr ≡ c.ufr
unfolding curve_of
ufr-of c = refl

pub P-of : (c : CurveSums) (t : ℕ) → P (curve_of c) t ≡ get_or c.sums t 0
unfolding P curve_of
P-of c t =
    let n : ℕ = c.n in
    let x : ℕ = get_or c.sums t 0 in
    natural-is (pos n +ℤ (pos x -ℤ pos n)) (n + (x + 0)) (0 + (0 + n)) x
    (diff-sum (pos n) (pos x -ℤ pos n) n 0 (x + 0) (0 + n) (diff-pos n) (diff-minus (pos x) (pos n) x 0 n 0 (diff-pos x) (diff-pos n)))
    (omega arith)

-- what the code needs of its numbers
module _ (c : CurveSums) (w : FactorsWithin c) where
  pub ufr-most : c.ufr ≤ 5000
  ufr-most = omega (arith, ufr-of c, w.within.ufr_most)

  pub sum-most : (t : ℕ) → t ≤ 60 → get_or c.sums t 0 ≤ 777000000
  sum-most t h = omega (arith, N-of c, P-of c t, w.within.most t h, w.most)
