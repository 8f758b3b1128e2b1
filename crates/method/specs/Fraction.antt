-- Fractions of natural numbers: a numerator over a denominator, never shortened, compared by multiplying crosswise.
use Rattle.std.specs.Prelude.{ℕ, ◌+◌, ◌*◌, ◌-◌, ◌^◌, ◌≤◌, ◌<◌, ◌≡◌, Bool, ◌&&◌, if◌then◌else◌, nat_le, nat_lt}

infix 60 ◌//◌
infixl 50 ◌+ᶠ◌ ◌∸ᶠ◌
infixl 55 ◌*ᶠ◌ ◌÷ᶠ◌
infixr 58 ◌^ᶠ◌
infix 40 ◌≈◌ ◌≐◌ ◌≤ᶠ◌ ◌≤ʳ◌ ◌ʳ≤◌
pub record Fraction : Type 0 where
  pub num : ℕ
  pub den : ℕ

abbrev pub ◌//◌ : ℕ → ℕ → Fraction
◌//◌ a b = record { num = a; den = b }

abbrev pub ◌+ᶠ◌ : Fraction → Fraction → Fraction
◌+ᶠ◌ x y = (x.num * y.den + y.num * x.den) // (x.den * y.den)

-- the difference, or 0 where the second is the larger
abbrev pub ◌∸ᶠ◌ : Fraction → Fraction → Fraction
◌∸ᶠ◌ x y = (x.num * y.den - y.num * x.den) // (x.den * y.den)

abbrev pub ◌*ᶠ◌ : Fraction → Fraction → Fraction
◌*ᶠ◌ x y = (x.num * y.num) // (x.den * y.den)

abbrev pub ◌÷ᶠ◌ : Fraction → Fraction → Fraction
◌÷ᶠ◌ x y = (x.num * y.den) // (x.den * y.num)

abbrev pub ◌^ᶠ◌ : Fraction → ℕ → Fraction
◌^ᶠ◌ x n = (x.num ^ n) // (x.den ^ n)

abbrev pub square : Fraction → Fraction
square x = x *ᶠ x

abbrev pub whole : ℕ → Fraction
whole n = n // 1

-- a denominator above 0: without it the comparisons below say nothing
abbrev pub Real : Fraction → Type 0
Real x = 0 < x.den

-- crosswise: the same number, at most, and the tests of the order
abbrev pub ◌≈◌ : Fraction → Fraction → Type 0
◌≈◌ x y = x.num * y.den ≡ y.num * x.den

abbrev pub ◌≤ᶠ◌ : Fraction → Fraction → Type 0
◌≤ᶠ◌ x y = x.num * y.den ≤ y.num * x.den

abbrev pub at_most : Fraction → Fraction → Bool
at_most x y = nat_le (x.num * y.den) (y.num * x.den)

abbrev pub less : Fraction → Fraction → Bool
less x y = nat_lt (x.num * y.den) (y.num * x.den)

abbrev pub larger : Fraction → Fraction → Fraction
larger x y = if at_most x y then y else x

-- both are fractions, and the same number
abbrev pub ◌≐◌ : Fraction → Fraction → Type 0
◌≐◌ x y = Real x × Real y × (x ≈ y)

-- A number that holds a root: plain + factor × the root of under. A fraction is compared with it through squares.
pub record Rooted : Type 0 where
  pub plain : Fraction
  pub factor : Fraction
  pub under : Fraction

-- the square of the part that holds the root
abbrev pub rooted_part² : Rooted → Fraction
rooted_part² r = square r.factor *ᶠ r.under

abbrev pub RealRooted : Rooted → Type 0
RealRooted r = Real r.plain × Real r.factor × Real r.under

-- q is at most r: what q exceeds the plain part by, or 0, is at most the part that holds the root
abbrev pub ◌≤ʳ◌ : Fraction → Rooted → Type 0
◌≤ʳ◌ q r = square (q ∸ᶠ r.plain) ≤ᶠ rooted_part² r

-- r is at most q: q is at least the plain part, and what it exceeds that by is at least the part that holds the root; and the test of it
abbrev pub ◌ʳ≤◌ : Rooted → Fraction → Type 0
◌ʳ≤◌ r q = (r.plain ≤ᶠ q) × (rooted_part² r ≤ᶠ square (q ∸ᶠ r.plain))

abbrev pub rooted_at_most : Rooted → Fraction → Bool
rooted_at_most r q = at_most r.plain q && at_most (rooted_part² r) (square (q ∸ᶠ r.plain))
