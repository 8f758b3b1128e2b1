-- WL, WB and the margins within which a verdict may stay undecided (METHOD, Brackets and widths).
use Rattle.std.specs.Prelude.{ℕ, suc, ◌+◌, ◌*◌, ◌^◌, List, [], ◌∷◌, length}
use Rattle.arith.specs.Rounding.{high, divide}
use Rattle.method.specs.Fraction.{Fraction, ◌+ᶠ◌, ◌∸ᶠ◌, ◌*ᶠ◌, square, whole, ◌≤ᶠ◌, Rooted, ◌≤ʳ◌, ◌ʳ≤◌}
use Rattle.model.specs.Case.{FileCase}

-- "the sum of 4 × t × t × flow", the first flow at term t
unfoldable pub weighted_sum : ℕ → List ℕ → ℕ
weighted_sum t [] = 0
weighted_sum t (euros ∷ flows) = 4 * t * t * euros + weighted_sum (suc t) flows

-- "Q is the sum of 4 × t × t × flow over the m pension flows, divided by 10^10 and rounded up"
abbrev pub Q : List ℕ → ℕ
Q flows = divide high (weighted_sum 1 flows) (10 ^ 10)

-- "WL = 2 × m + Q .. WB the same over k bond flows, with 2 × k"
abbrev pub W : List ℕ → ℕ
W flows = 2 * length flows + Q flows

abbrev pub WL : FileCase → ℕ
WL k = W k.pension

abbrev pub WB : FileCase → ℕ
WB k = W k.bonds

-- "exact |20 × A - 21 × L| is at most" a number of cents
pub record NearFirst (margin : ℕ) (a l : Fraction) : Type 0 where
  pub above : whole 20 *ᶠ a ≤ᶠ whole 21 *ᶠ l +ᶠ whole margin
  pub below : whole 21 *ᶠ l ≤ᶠ whole 20 *ᶠ a +ᶠ whole margin

-- "|A - L - S| at most" a number of cents, through squares: A - L - margin is at most S, and S at most A - L + margin, which is not
-- below 0; S², which holds a root, "by squaring twice"
pub record NearSecond (margin : ℕ) (a l : Fraction) (s² : Rooted) : Type 0 where
  pub above : square (a ∸ᶠ (l +ᶠ whole margin)) ≤ʳ s²
  pub positive : l ≤ᶠ a +ᶠ whole margin
  pub below : s² ʳ≤ square ((a +ᶠ whole margin) ∸ᶠ l)

-- "20 × WB + 21 × WL", "4 × WL + 3 × WB + 8"
abbrev pub first_margin : FileCase → ℕ
first_margin k = 20 * WB k + 21 * WL k

abbrev pub second_margin : FileCase → ℕ
second_margin k = 4 * WL k + 3 * WB k + 8
