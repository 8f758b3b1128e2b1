-- Containment and width, a field a sentence (METHOD, Brackets and widths): any accepted file, whatever its UFR, days, flows, amounts,
-- shocks and people, is worked twice, exactly over fractions and rounded. The fields compare the exact working with what is given: ten
-- brackets, a verdict, and both ends of each factor and zero rate. The widths are promised as they are written here.
use Rattle.std.specs.Prelude.{ℕ, ◌+◌, ◌*◌, ◌≤◌, ◌<◌, ◌≡◌, ◌≢◌, ◌⊎◌, ℤ, pos, neg_ℤ, ◌+ℤ◌, ◌≤ℤ◌, ◌<ℤ◌}
use Rattle.arith.specs.Rounding.{End, low, high}
use Rattle.model.specs.Constants.{steps_per_one, unit, last_market_term, last_term}
use Rattle.method.specs.Fraction.{Fraction, ◌//◌, ◌*ᶠ◌, ◌^ᶠ◌, whole, Real, ◌≤ᶠ◌, Rooted, RealRooted, ◌≤ʳ◌, ◌ʳ≤◌}
use Rattle.model.specs.Case.{FileCase}
use Rattle.model.specs.Limits.{Between}
use Rattle.method.specs.Curve.{Move, base, curve, natural, P}
use Rattle.method.specs.Exact as Exact
use Rattle.arith.specs.Brackets.{end_of}
use Rattle.method.specs.Margins.{WL, WB, NearFirst, NearSecond, first_margin, second_margin}
use Rattle.arith.specs.declared.bracket.Bracket.{Bracket}
use Rattle.model.specs.declared.figures.Figures.{Figures}
use Rattle.model.specs.declared.figures.Verdict.{Verdict}
use Rattle.model.specs.declared.figures.Verdict.TheVariants.{Onbeslist}

-- what a valuation gives: the ten brackets and the verdict, and the ends of the factor and of the zero rate of each term
pub record Given : Type 0 where
  pub figures : Figures
  pub verdict : Verdict
  pub factor : End → ℕ → ℕ
  pub rate : End → ℕ → ℤ

-- ---- the terms and steps that are spoken of, and the widths
-- "Zero rate: test steps z from -2,000 to 20,000."
abbrev pub least_step : ℤ
least_step = neg_ℤ (pos 2000)

abbrev pub most_step : ℤ
most_step = pos 20000

-- "the factor of term t is at most 4 × t × t units wide"
abbrev pub factor_width_most : ℕ → ℕ
factor_width_most t = 4 * t * t

-- "a zero rate at most 2 steps"
abbrev pub rate_width_most : ℕ
rate_width_most = 2

-- "the liabilities L at most WL cents"
abbrev pub L_width_most : FileCase → ℕ
L_width_most k = WL k

-- "bonds B and assets A at most WB each"
abbrev pub B_width_most : FileCase → ℕ
B_width_most k = WB k

abbrev pub A_width_most : FileCase → ℕ
A_width_most k = WB k

-- "the buffer S at most 3 × WL + 2 × WB + 8"
abbrev pub S_width_most : FileCase → ℕ
S_width_most k = 3 * WL k + 2 * WB k + 8

-- "its width is the upper less the lower": at most this much
abbrev pub WideAtMost : ℕ → Bracket → Type 0
WideAtMost width bracket = bracket.upper ≤ bracket.lower + width

-- the whole number n is at most x at the lower end, and at least x at the upper; x is a fraction indeed
abbrev pub Ordered : End → ℕ → Fraction → Type 0
Ordered low n x = whole n ≤ᶠ x
Ordered high n x = x ≤ᶠ whole n

pub record Bounds (e : End) (n : ℕ) (x : Fraction) : Type 0 where
  pub real : Real x
  pub order : Ordered e n x

-- both numbers of a bracket, for a figure and for one known by its square
abbrev pub In : (End → ℕ) → Fraction → Type 0
In bracket x = (e : End) → Bounds e (bracket e) x

abbrev pub SquareIn : (End → ℕ) → Fraction → Type 0
SquareIn bracket x² = (e : End) → Bounds e (bracket e * bracket e) x²

-- and for one whose square holds a root, compared "by squaring twice"
abbrev pub RootedOrdered : End → ℕ → Rooted → Type 0
RootedOrdered low n r = whole n ≤ʳ r
RootedOrdered high n r = r ʳ≤ whole n

pub record RootedBounds (e : End) (n : ℕ) (r : Rooted) : Type 0 where
  pub real : RealRooted r
  pub order : RootedOrdered e n r

abbrev pub RootedSquareIn : (End → ℕ) → Rooted → Type 0
RootedSquareIn bracket r = (e : End) → RootedBounds e (bracket e * bracket e) r

-- 1 + a rate of z steps, which is not cut off at 0 where the rate is above -1
abbrev pub one_plus : ℤ → Fraction
one_plus z = natural (pos steps_per_one +ℤ z) // steps_per_one

-- z steps bound the zero rate of term t, "the number above -1 whose (1 + rate)^t is that product"
abbrev pub RateOrdered : End → ℤ → ℕ → Fraction → Type 0
RateOrdered low z t product = one_plus z ^ᶠ t ≤ᶠ product
RateOrdered high z t product = product ≤ᶠ one_plus z ^ᶠ t

pub record RateBounds (e : End) (z : ℤ) (t : ℕ) (product : Fraction) : Type 0 where
  pub real : Real product
  pub above_minus_one : neg_ℤ (pos steps_per_one) <ℤ z
  pub order : RateOrdered e z t product

pub record ContainmentAndWidth (k : FileCase) (given : Given) : Type 0 where
  -- no exact factor or value on any of the three curves is a fraction over 0, or 0 over something
  pub product_real : (m : Move) (t : ℕ) → t ≤ last_term → (0 < (Exact.product (curve k m) t).num) × Real (Exact.product (curve k m) t)
  pub value_real : (m : Move) → Real (Exact.L k m) × Real (Exact.B k m)
  -- "P(t) = N + s(t), where a shift adds or takes n × shift": as integers, on every curve, so that no P(t) is cut off at 0
  pub PUncut : (m : Move) (t : ℕ) → t ≤ last_market_term → pos (P (curve k m) t) ≡ pos (curve k m).N +ℤ (curve k m).sum t
  -- both zero rates of every term are steps from -2,000 to 20,000, and so above -1
  pub rate_found : (e : End) (t : ℕ) → 1 ≤ t → t ≤ last_term → Between least_step most_step (given.rate e t)
  -- "Then each exact figure lies in its bracket: the factor and the zero rate of every term from 1 to 120, L, B, A, S1 to S6 and S."
  -- "The exact S2 and S6 are compared through their squares, and the exact S, whose square holds a root, by squaring twice."
  pub factor_in : (t : ℕ) → 1 ≤ t → t ≤ last_term → In (λ e. given.factor e t) (whole unit *ᶠ Exact.factor (curve k base) t)
  pub rate_in : (e : End) (t : ℕ) → 1 ≤ t → t ≤ last_term → RateBounds e (given.rate e t) t (Exact.product (curve k base) t)
  pub LIn : In (end_of given.figures.l) (Exact.L k base)
  pub BIn : In (end_of given.figures.b) (Exact.B k base)
  pub AIn : In (end_of given.figures.a) (Exact.A k)
  pub S1In : In (end_of given.figures.s1) (Exact.S1 k)
  pub S2In : SquareIn (end_of given.figures.s2) (Exact.S2² k)
  pub S3In : In (end_of given.figures.s3) (Exact.S3 k)
  pub S4In : In (end_of given.figures.s4) (Exact.S4 k)
  pub S5In : In (end_of given.figures.s5) (Exact.S5 k)
  pub S6In : SquareIn (end_of given.figures.s6) (Exact.S6² k)
  pub SIn : RootedSquareIn (end_of given.figures.s) (Exact.S² k)
  -- "From lower to upper end, the factor of term t is at most 4 × t × t units wide, a zero rate at most 2 steps, the liabilities L at
  -- most WL cents, bonds B and assets A at most WB each, the buffer S at most 3 × WL + 2 × WB + 8."
  pub factor_width : (t : ℕ) → 1 ≤ t → t ≤ last_term → given.factor high t ≤ given.factor low t + factor_width_most t
  pub rate_width : (t : ℕ) → 1 ≤ t → t ≤ last_term → given.rate high t ≤ℤ (given.rate low t +ℤ pos rate_width_most)
  pub LWidth : WideAtMost (L_width_most k) given.figures.l
  pub BWidth : WideAtMost (B_width_most k) given.figures.b
  pub AWidth : WideAtMost (A_width_most k) given.figures.a
  pub SWidth : WideAtMost (S_width_most k) given.figures.s
  -- "Each verdict given, other than undecided, is the exact one."
  pub right : given.verdict ≢ Onbeslist → given.verdict ≡ Exact.verdict k
  -- "Undecided is said only within the margins of a border"
  pub margin : given.verdict ≡ Onbeslist
      → NearFirst (first_margin k) (Exact.A k) (Exact.L k base)
      ⊎ NearSecond (second_margin k) (Exact.A k) (Exact.L k base) (Exact.S² k)
