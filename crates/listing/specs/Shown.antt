-- What the window shows of a case, where the factors of the case are in front of the lent buffer (METHOD, Buffers, window, listing).
-- Assumes nothing.
use Rattle.std.specs.Prelude.{ℕ, ◌≤◌, ◌<◌, ◌≡◌, List, length, ℤ}
use Rattle.arith.specs.Rounding.{End, low, high}
use Rattle.model.specs.Case.{FileCase}
use Rattle.model.specs.Layout.{case_of}
use Rattle.method.specs.Curve.{base, curve}
use Rattle.method.specs.Rounded as Rounded
use Rattle.method.specs.Buffers.{factors_after, valuation_refusal}
use Rattle.method.specs.Window.{double, window_point}
use Rattle.model.specs.declared.figures.Figures.{Figures}
use Rattle.model.specs.declared.window.Point.TheVariants.{Factor, Money, Blank}
use Rattle.listing.specs.Holds.{Holds}

-- over this buffer point p shows a factor, and each double holds the whole number of its end
pub record FactorShown (p : ℕ) (held : List ℕ) (f : Figures) (figure : End → ℕ) : Type 0 where
  pub point : window_point p held f ≡ Factor (double (figure low)) (double (figure high))
  pub whole : (e : End) → Holds (double (figure e)) (figure e)

-- point p shows a money figure likewise, whatever buffer is lent, also an empty one
pub record MoneyShown (p : ℕ) (f : Figures) (figure : End → ℕ) : Type 0 where
  pub point : (lent : List ℕ) → window_point p lent f ≡ Money (double (figure low)) (double (figure high))
  pub whole : (e : End) → Holds (double (figure e)) (figure e)

-- "a factor (1 to 120), a money figure (121 to 130: L B A S1 S2 S3 S4 S5 S6 S) or blank (any other number)": only the factors ask
-- anything of the buffer
pub record Shown (k : FileCase) (held : List ℕ) : Type 0 where
  pub factor : (t : ℕ) → 1 ≤ t → t ≤ 120 → FactorShown t held (Rounded.figures k) (λ e. Rounded.factor (curve k base) e t)
  pub l : MoneyShown 121 (Rounded.figures k) (Rounded.L k base)
  pub b : MoneyShown 122 (Rounded.figures k) (Rounded.B k base)
  pub a : MoneyShown 123 (Rounded.figures k) (Rounded.A k)
  pub s1 : MoneyShown 124 (Rounded.figures k) (Rounded.S1 k)
  pub s2 : MoneyShown 125 (Rounded.figures k) (Rounded.S2 k)
  pub s3 : MoneyShown 126 (Rounded.figures k) (Rounded.S3 k)
  pub s4 : MoneyShown 127 (Rounded.figures k) (Rounded.S4 k)
  pub s5 : MoneyShown 128 (Rounded.figures k) (Rounded.S5 k)
  pub s6 : MoneyShown 129 (Rounded.figures k) (Rounded.S6 k)
  pub s : MoneyShown 130 (Rounded.figures k) (Rounded.S k)
  pub none : (lent : List ℕ) → window_point 0 lent (Rounded.figures k) ≡ Blank
  pub later : (lent : List ℕ) (p : ℕ) → 130 < p → window_point p lent (Rounded.figures k) ≡ Blank

-- What is promised: of every file that is valued, with whatever buffers it is valued, the window shows the figures, over what the buffer of factors
-- holds then. So no point from 1 to 130 is blank.
pub record ShownAfterValuations : Type 0 where
  pub shown : (file factors : List ℕ) (rates : List ℤ) → valuation_refusal (length factors) (length rates) file ≡ 0
      → Shown (case_of file) (factors_after file factors rates)
