-- What the checks of a file leave true of a curve, relative to N: of all three curves, and more of the base curve.
use Rattle.std.specs.Prelude.{ℕ, suc, ◌+◌, ◌*◌, ◌≤◌, ◌<◌}
use Rattle.method.specs.Curve.{Curve, P}

-- P(t) is 0.98 to 1.11 times N, and t × P(t) less (t - 1) × P(t - 1), which is N + t × s(t) - (t - 1) × s(t - 1), 0.97 to 1.13 times N
pub record CurveWithin (c : Curve) : Type 0 where
  pub some : 0 < c.N
  pub least : (t : ℕ) → t ≤ 60 → 98 * c.N ≤ 100 * P c t
  pub most : (t : ℕ) → t ≤ 60 → 100 * P c t ≤ 111 * c.N
  pub forward_least : (t : ℕ) → suc t ≤ 60 → 100 * (t * P c t) + 97 * c.N ≤ 100 * (suc t * P c (suc t))
  pub forward_most : (t : ℕ) → suc t ≤ 60 → 100 * (suc t * P c (suc t)) ≤ 100 * (t * P c t) + 113 * c.N
  pub ufr_most : c.ufr ≤ 5000

-- with no shift, 0.99 to 1.10 and 0.98 to 1.12
pub record BaseWithin (c : Curve) : Type 0 where
  pub within : CurveWithin c
  pub base_least : (t : ℕ) → t ≤ 60 → 99 * c.N ≤ 100 * P c t
  pub base_most : (t : ℕ) → t ≤ 60 → 100 * P c t ≤ 110 * c.N
  pub base_forward_least : (t : ℕ) → suc t ≤ 60 → 100 * (t * P c t) + 98 * c.N ≤ 100 * (suc t * P c (suc t))
  pub base_forward_most : (t : ℕ) → suc t ≤ 60 → 100 * (suc t * P c (suc t)) ≤ 100 * (t * P c t) + 112 * c.N
