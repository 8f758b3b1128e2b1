-- The operands for which a product is divided in a few steps of 64 bits, and brackets of them. Assumes nothing.
use Rattle.std.specs.Prelude.{ℕ, ◌+◌, ◌*◌, ◌-◌, ◌^◌, ◌≤◌, ◌<◌}
use Rattle.arith.specs.declared.bracket.Bracket.{Bracket}

-- of x × a ÷ b: the product, with b added, fits 64 bits
pub record Small (x a b : ℕ) : Type 0 where
  pub some : 0 < b
  pub fits : x * a + b ≤ 2 ^ 64

-- of a × b ÷ c, where the product passes 64 bits: all within 2^42, about 4.39 × 10^12, and the quotient fits 64 bits, with room for one more
pub record InRange (a b c : ℕ) : Type 0 where
  pub left : a < 2 ^ 42
  pub right : b < 2 ^ 42
  pub some : 0 < c
  pub most : c ≤ 2 ^ 42
  pub fits : a * b < (2 ^ 64 - 1) * c

-- of a bracket that is multiplied and divided: both ends are in range
pub record BothIn (Takes : ℕ → ℕ → ℕ → Type 0) (x : Bracket) (a b : ℕ) : Type 0 where
  pub lower : Takes x.lower a b
  pub upper : Takes x.upper a b

-- of two brackets that are multiplied, and counted in other units
pub record Pairwise (Takes : ℕ → ℕ → ℕ → Type 0) (x y : Bracket) (unit : ℕ) : Type 0 where
  pub lower : Takes x.lower y.lower unit
  pub upper : Takes x.upper y.upper unit

-- of a bracket divided by another, crosswise
pub record Crosswise (Takes : ℕ → ℕ → ℕ → Type 0) (x : Bracket) (unit : ℕ) (g : Bracket) : Type 0 where
  pub lower : Takes x.lower unit g.upper
  pub upper : Takes x.upper unit g.lower

-- of a bracket × a ÷ b, in whichever way: its ends are in order and below 2^42, about 4.39 × 10^12, and a ÷ b is at most 2
pub record TimesWithin (x : Bracket) (a b : ℕ) : Type 0 where
  pub order : x.lower ≤ x.upper
  pub upper : x.upper < 2 ^ 42
  pub some : 0 < b
  pub most : b ≤ 2 ^ 40
  pub ratio : a ≤ 2 * b

-- a bracket whose ends are at most `most`
pub record UpTo (most : ℕ) (b : Bracket) : Type 0 where
  pub lower : b.lower ≤ most
  pub upper : b.upper ≤ most
