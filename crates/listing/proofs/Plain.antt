-- What is promised of the window's points, used in plain numbers. Nothing else rests on this: a promise that said less would not give it.
-- Assumes nothing.
use Prim.Native.Nat.{ℕ}
use mathlib.Core.Path.{◌≡◌}
use mathlib.Core.List.{List, []}
use lib.Dec.{lit≤}
use lib.IntN.{ℤ}
use lib.ListN.{length}
use Rattle.std.specs.Prelude.{T, Float}
use Rattle.std.specs.Float.{binary64}
use Rattle.std.specs.Float.Ieee.{in_unsigned, to_unsigned}
use Rattle.arith.specs.Rounding.{End, low, high}
use Rattle.model.specs.Case.{FileCase}
use Rattle.model.specs.Layout.{case_of}
use Rattle.method.specs.Curve.{base, curve}
use Rattle.method.specs.Rounded as Rounded
use Rattle.method.specs.Buffers.{factors_after, valuation_refusal}
use Rattle.method.specs.Window.{double, window_point}
use Rattle.model.specs.declared.figures.Figures.{Figures}
use Rattle.model.specs.declared.window.Point.TheVariants.{Factor, Money, Blank}
use Rattle.listing.specs.Holds.{Holds}
use Rattle.listing.specs.Shown.{FactorShown, MoneyShown, Shown, ShownAfterValuations}

-- a double is that of a whole number, and gives it back
holds : (x : Float) (n : ℕ) → Holds x n → (x ≡ double n) × T (in_unsigned binary64 64 x) × (to_unsigned 64 x ≡ n)
holds x n h = (h.is, h.exact, h.back)

-- a factor and a money figure with both their doubles, the latter also over no buffer
factor-shown : (held : List ℕ) (f : Figures) (figure : End → ℕ) → FactorShown 1 held f figure
    → (window_point 1 held f ≡ Factor (double (figure low)) (double (figure high)))
    × Holds (double (figure low)) (figure low) × Holds (double (figure high)) (figure high)
factor-shown held f figure h = (h.point, h.whole low, h.whole high)

money-shown : (f : Figures) (figure : End → ℕ) → MoneyShown 121 f figure
    → (window_point 121 [] f ≡ Money (double (figure low)) (double (figure high)))
    × Holds (double (figure low)) (figure low) × Holds (double (figure high)) (figure high)
money-shown f figure h = (h.point [], h.whole low, h.whole high)

-- of a case: the first factor and the last, the ten figures, and no other point
module _ (k : FileCase) (held : List ℕ) (s : Shown k held) where
  factor-1 : FactorShown 1 held (Rounded.figures k) (λ e. Rounded.factor (curve k base) e 1)
  factor-1 = s.factor 1 (lit≤ tt) (lit≤ tt)

  factor-120 : FactorShown 120 held (Rounded.figures k) (λ e. Rounded.factor (curve k base) e 120)
  factor-120 = s.factor 120 (lit≤ tt) (lit≤ tt)

  worths :
      MoneyShown 121 (Rounded.figures k) (Rounded.L k base)
      × MoneyShown 122 (Rounded.figures k) (Rounded.B k base)
      × MoneyShown 123 (Rounded.figures k) (Rounded.A k)
  worths = (s.l, s.b, s.a)

  losses :
      MoneyShown 124 (Rounded.figures k) (Rounded.S1 k)
      × MoneyShown 125 (Rounded.figures k) (Rounded.S2 k)
      × MoneyShown 126 (Rounded.figures k) (Rounded.S3 k)
      × MoneyShown 127 (Rounded.figures k) (Rounded.S4 k)
      × MoneyShown 128 (Rounded.figures k) (Rounded.S5 k)
      × MoneyShown 129 (Rounded.figures k) (Rounded.S6 k)
      × MoneyShown 130 (Rounded.figures k) (Rounded.S k)
  losses = (s.s1, s.s2, s.s3, s.s4, s.s5, s.s6, s.s)

  blanks : (window_point 0 [] (Rounded.figures k) ≡ Blank) × (window_point 131 [] (Rounded.figures k) ≡ Blank)
  blanks = (s.none [], s.later [] 131 (lit≤ tt))

-- after a valuation with these buffers
after : ShownAfterValuations → (file factors : List ℕ) (rates : List ℤ) → valuation_refusal (length factors) (length rates) file ≡ 0
    → Shown (case_of file) (factors_after file factors rates)
after p = p.shown
