-- Weights, and a growth weighed by one. Assumes nothing.
use Prim.Native.Nat.{ℕ, suc, ◌-◌, ◌≤◌, ◌<◌}
use mathlib.Core.Path.{refl}
use native.Mathlib.Omega.{arith}
use native.Mathlib.Decide.{dec_le}
use lib.ListN.{length, get_or, get_or-eq_default}
use Rattle.method.specs.Curve.{weight, weights}
use Rattle.model.specs.Numbers.{every}
use Rattle.theory.proofs.general.Lists.{every-le}

-- no weight is above 1
weight-most : (i : ℕ) → i < 40 → get_or weights i 0 ≤ 1000
unfolding every weights
weight-most i = every-le (λ i. get_or weights i 0) (λ _. 1000) 40 i refl

forty : (i : ℕ) → 40 ≤ i → length weights ≤ i
unfolding weights
forty i h = h

pub weight-of-most : (t : ℕ) → weight t ≤ 1000
unfolding weight
weight-of-most t = go (dec_le (suc (t - 21)) 40)
  where
    go : Dec (t - 21 < 40) → get_or weights (t - 21) 0 ≤ 1000
    go (yes h) = weight-most (t - 21) h
    go (no h) = rw (get_or-eq_default weights 0 {n = t - 21} (forty (t - 21) (omega arith))) (omega arith)
