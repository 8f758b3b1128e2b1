-- What the window shows, each number written where it is used. Nothing else rests on this. It is here so that a field of `Shown` that
-- said less (a range that begins later, a figure left out, a double that need not hold its number) would not give it.
-- Assumes nothing.
use Prim.Native.Nat.{ℕ, ◌<◌}
use mathlib.Core.Path.{◌≡◌}
use mathlib.Core.List.{List, []}
use native.Mathlib.Omega.{arith}
use lib.Ieee.{to_unsigned}
use lib.IntN.{ℤ}
use lib.ListN.{length}
use Rattle.arith.specs.Rounding.{End, low, high}
use Rattle.model.specs.Case.{FileCase}
use Rattle.model.specs.Layout.{case_of}
use Rattle.method.specs.Curve.{base, curve}
use Rattle.method.specs.Rounded as Rounded
use Rattle.method.specs.Buffers.{factors_after, valuation_refusal}
use Rattle.method.specs.Window.{double, window_point}
use Rattle.model.specs.declared.figures.Figures.{Figures}
use Rattle.model.specs.declared.window.Point.{Point}
use Rattle.model.specs.declared.window.Point.TheVariants.{Factor, Money, Blank}
use Rattle.listing.specs.Shown.{MoneyShown, Shown, ShownAfterValuations}

-- a point that shows two numbers, and both of them read back
abbrev Shows : Point → Point → (End → ℕ) → Type 0
Shows point expected figure =
    (point ≡ expected) × (to_unsigned 64 (double (figure low)) ≡ figure low) × (to_unsigned 64 (double (figure high)) ≡ figure high)

money : {p : ℕ} {f : Figures} {figure : End → ℕ} → MoneyShown p f figure → (lent : List ℕ)
    → Shows (window_point p lent f) (Money (double (figure low)) (double (figure high))) figure
money m lent = (m.point lent, (m.whole low).back, (m.whole high).back)

module _ (k : FileCase) (held : List ℕ) (shown : Shown k held) where
  factor-point : (t : ℕ) → 0 < t → t < 121
      → Shows (window_point t held (Rounded.figures k))
      (Factor (double (Rounded.factor (curve k base) low t)) (double (Rounded.factor (curve k base) high t)))
      (λ e. Rounded.factor (curve k base) e t)
  factor-point t p q =
      let s = shown.factor t (omega (arith, p)) (omega (arith, q)) in
      (s.point, (s.whole low).back, (s.whole high).back)

  -- the ten money figures, over no factors and over any
  money-points : (lent : List ℕ)
      → Shows (window_point 121 [] (Rounded.figures k)) (Money (double (Rounded.L k base low)) (double (Rounded.L k base high))) (Rounded.L k base)
      × Shows (window_point 121 lent (Rounded.figures k)) (Money (double (Rounded.L k base low)) (double (Rounded.L k base high))) (Rounded.L k base)
      × Shows (window_point 122 lent (Rounded.figures k)) (Money (double (Rounded.B k base low)) (double (Rounded.B k base high))) (Rounded.B k base)
      × Shows (window_point 123 lent (Rounded.figures k)) (Money (double (Rounded.A k low)) (double (Rounded.A k high))) (Rounded.A k)
      × Shows (window_point 124 lent (Rounded.figures k)) (Money (double (Rounded.S1 k low)) (double (Rounded.S1 k high))) (Rounded.S1 k)
      × Shows (window_point 125 lent (Rounded.figures k)) (Money (double (Rounded.S2 k low)) (double (Rounded.S2 k high))) (Rounded.S2 k)
      × Shows (window_point 126 lent (Rounded.figures k)) (Money (double (Rounded.S3 k low)) (double (Rounded.S3 k high))) (Rounded.S3 k)
      × Shows (window_point 127 lent (Rounded.figures k)) (Money (double (Rounded.S4 k low)) (double (Rounded.S4 k high))) (Rounded.S4 k)
      × Shows (window_point 128 lent (Rounded.figures k)) (Money (double (Rounded.S5 k low)) (double (Rounded.S5 k high))) (Rounded.S5 k)
      × Shows (window_point 129 lent (Rounded.figures k)) (Money (double (Rounded.S6 k low)) (double (Rounded.S6 k high))) (Rounded.S6 k)
      × Shows (window_point 130 lent (Rounded.figures k)) (Money (double (Rounded.S k low)) (double (Rounded.S k high))) (Rounded.S k)
  money-points lent = (
    money shown.l [],
    money shown.l lent,
    money shown.b lent,
    money shown.a lent,
    money shown.s1 lent,
    money shown.s2 lent,
    money shown.s3 lent,
    money shown.s4 lent,
    money shown.s5 lent,
    money shown.s6 lent,
    money shown.s lent,
  )

  blank-points : (lent : List ℕ)
      → (window_point 0 lent (Rounded.figures k) ≡ Blank) × (window_point 131 lent (Rounded.figures k) ≡ Blank)
      × (window_point 1000000 [] (Rounded.figures k) ≡ Blank)
  blank-points lent = (shown.none lent, shown.later lent 131 (omega arith), shown.later [] 1000000 (omega arith))

-- after a file was valued: the first and the last factor and figure, at both ends, and the points around them
points-after-a-valuation : ShownAfterValuations → (file factors : List ℕ) (rates : List ℤ) → valuation_refusal (length factors) (length rates) file ≡ 0
    → let c = curve (case_of file) base in
    let figures = Rounded.figures (case_of file) in
    let held = factors_after file factors rates in
    (window_point 0 held figures ≡ Blank)
    × Shows (window_point 1 held figures) (Factor (double (Rounded.factor c low 1)) (double (Rounded.factor c high 1))) (λ e. Rounded.factor c e 1)
    × Shows (window_point 120 held figures) (Factor (double (Rounded.factor c low 120)) (double (Rounded.factor c high 120))) (λ e. Rounded.factor c e 120)
    × Shows (window_point 121 held figures)
    (Money (double (Rounded.L (case_of file) base low)) (double (Rounded.L (case_of file) base high)))
    (Rounded.L (case_of file) base)
    × Shows (window_point 130 held figures)
    (Money (double (Rounded.S (case_of file) low)) (double (Rounded.S (case_of file) high)))
    (Rounded.S (case_of file))
    × (window_point 131 held figures ≡ Blank)
points-after-a-valuation p file factors rates h =
    let k = case_of file in
    let held = factors_after file factors rates in
    let s = p.shown file factors rates h in (
      (blank-points k held s held).0,
      factor-point k held s 1 (omega arith) (omega arith),
      factor-point k held s 120 (omega arith) (omega arith),
      money s.l held,
      money s.s held,
      (blank-points k held s held).1,
    )
