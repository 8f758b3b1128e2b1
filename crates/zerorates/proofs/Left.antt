-- The steps that are left after some tests are steps, and there is one. Assumes nothing.
use Prim.Native.Nat.{ℕ, ◌≤◌}
use mathlib.Core.Path.{◌≡◌, sym, subst}
use mathlib.Core.Bool.{Bool}
use native.Mathlib.Omega.{arith}
use Rattle.arith.specs.Rounding.{End}
use Rattle.searchmodel.specs.Bisection.{after_tests}
use Rattle.searchmodel.specs.declared.StepsLeft.{StepsLeft}
use Rattle.theory.proofs.curve.Bisection.{after-halves}
use Rattle.zerorates.specs.inner.Ranges.{LeftWithin}

module _ {p : StepsLeft} (e : End) (test : ℕ → Bool) (j : ℕ) (is : p ≡ after_tests e test j) where
  pub left-within : LeftWithin p
  left-within = let k = after-halves e test j in subst LeftWithin (sym is) record { order = k.order; most = k.most }

  pub first-most : p.first ≤ 22000
  first-most = omega (arith, left-within.order, left-within.most)
