-- What is promised of bonds, which are worked out off the adjusted curve, at factors by the rule of the terms to 20. Each record is a promise,
-- with its premises; proofs/PlainBonds.antt uses each once more in plain numbers, so that a record that says less is refused.
use Rattle.std.specs.Prelude.{◌≡◌, ◌+◌, ◌≤◌, length, ℕ}
use Rattle.arith.specs.Rounding.{End, low, high}
use Rattle.model.specs.Constants.{unit, last_market_term}
use Rattle.model.specs.Case.{FileCase, with_ufr}
use Rattle.model.specs.Limits.{WithinLimits}
use Rattle.method.specs.Fraction.{Fraction, ◌*ᶠ◌, whole}
use Rattle.method.specs.Curve.{Move, curve}
use Rattle.method.specs.Exact as Exact
use Rattle.method.specs.Rounded as Rounded
use Rattle.method.specs.Rounded.{figures_of, verdict_of}
use Rattle.method.specs.Containment.{In, factor_width_most}

-- B with bond flows at the adjusted factors, which are those of pension flows: exact, and rounded at both ends
abbrev pub adjusted_exact_b : FileCase → Move → Fraction
adjusted_exact_b k m = Exact.worth (Exact.factor (curve k m)) 1 k.bonds

abbrev pub adjusted_b : FileCase → Move → End → ℕ
adjusted_b k m e = Rounded.worth e (Rounded.factor (curve k m) e) 1 k.bonds

-- on each curve, and in both workings, B does not depend on the UFR
pub record BondsNotByTheUfr : Type 0 where
  pub exact : (ufr : ℕ) (k : FileCase) (m : Move) → Exact.B (with_ufr ufr k) m ≡ Exact.B k m
  pub rounded : (ufr : ℕ) (k : FileCase) (m : Move) (e : End) → Rounded.B (with_ufr ufr k) m e ≡ Rounded.B k m e

-- of a case without a bond flow past term 20 every figure and the verdict is that of bonds at the adjusted factors
pub record BondsToTerm20AsAdjusted : Type 0 where
  pub exact : (k : FileCase) → length k.bonds ≤ 20 → (m : Move) → Exact.B k m ≡ adjusted_exact_b k m
  pub rounded : (k : FileCase) → length k.bonds ≤ 20 → (m : Move) (e : End) → Rounded.B k m e ≡ adjusted_b k m e
  pub figures : (k : FileCase) → length k.bonds ≤ 20 → Rounded.figures k ≡ figures_of (Rounded.L k) (adjusted_b k) k.amounts k.shocks k.people
  pub verdict : (k : FileCase) → length k.bonds ≤ 20 → Rounded.verdict k ≡ verdict_of (Rounded.L k) (adjusted_b k) k.amounts k.shocks k.people

-- of a case within the limits, on each curve, the exact bond factor of every term to 60 is in its bracket, which is no wider than that of a
-- factor may be: "4 × t × t units"
pub record BondFactorsInBrackets : Type 0 where
  pub within : (k : FileCase) → WithinLimits k → (m : Move) (t : ℕ) → t ≤ last_market_term
      → In (λ e. Rounded.unadjusted (curve k m) e t) (whole unit *ᶠ Exact.unadjusted (curve k m) t)
  pub width : (k : FileCase) → WithinLimits k → (m : Move) (t : ℕ) → t ≤ last_market_term
      → Rounded.unadjusted (curve k m) high t ≤ Rounded.unadjusted (curve k m) low t + factor_width_most t
