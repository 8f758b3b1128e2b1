-- One order for both ends of a bracket: `x ≤⟨ e ⟩ y` is x ≤ y at the lower end and y ≤ x at the upper. A number that rounds a quotient
-- or a root to an end is `≤⟨ e ⟩` what it rounds, so a law about rounding is stated and proved once, over e.
-- Assumes nothing.
use Prim.Native.Nat.{ℕ, ◌+◌, ◌-◌, ◌*◌, ◌≤◌, ◌<◌}
use mathlib.Core.Path.{◌≡◌}
use native.Mathlib.Omega.{arith}
use native.Mathlib.Nat.{mul-le-mul_right, le_of_mul-le-mul_right}
use Rattle.arith.specs.Rounding.{End, low, high, other, divide}
use Rattle.arith.specs.Root.{root}
use Rattle.arith.proofs.Rounding.{divide-floor, divide-ceiling, divide-le, le-divide}
use Rattle.arith.proofs.Root.{root-floor, root-ceiling}

infix 40 ◌≤⟨◌⟩◌
infixl 45 ◌and◌ ◌less◌
infixl 50 ◌times◌
abbrev Order : End → ℕ → ℕ → Type 0
Order low x y = x ≤ y
Order high x y = y ≤ x

-- a record, so that the end and the numbers are read off a proof
pub record ◌≤⟨◌⟩◌ (x : ℕ) (e : End) (y : ℕ) : Type 0 where
  pub le : Order e x y

-- ---- the laws of an order
pub equal : (e : End) {x y : ℕ} → x ≡ y → x ≤⟨ e ⟩ y
equal low h = omega arith
equal high h = omega arith

-- where x - y is a - b. So what follows from inequalities that are multiplied (`times`) and added (`and`) is proved by one equation,
-- at both ends at once.
pub from : {e : End} {a b x y : ℕ} → a ≤⟨ e ⟩ b → x + b ≡ y + a → x ≤⟨ e ⟩ y
from {e = low} h q = omega arith
from {e = high} h q = omega arith

pub ◌and◌ : {e : End} {a b c d : ℕ} → a ≤⟨ e ⟩ b → c ≤⟨ e ⟩ d → a + c ≤⟨ e ⟩ b + d
◌and◌ {e = low} h k = omega arith
◌and◌ {e = high} h k = omega arith

-- a difference pairs an end with the other one
pub ◌less◌ : {e : End} {a b c d : ℕ} → a ≤⟨ e ⟩ b → c ≤⟨ other e ⟩ d → a - c ≤⟨ e ⟩ b - d
◌less◌ {e = low} h k = omega arith
◌less◌ {e = high} h k = omega arith

pub ◌times◌ : {e : End} {a b : ℕ} → a ≤⟨ e ⟩ b → (c : ℕ) → a * c ≤⟨ e ⟩ b * c
◌times◌ {e = low} h c = record { le = mul-le-mul_right c h.le }
◌times◌ {e = high} h c = record { le = mul-le-mul_right c h.le }

pub cancel : {e : End} {a b c : ℕ} → 0 < c → a * c ≤⟨ e ⟩ b * c → a ≤⟨ e ⟩ b
cancel {e = low} p h = record { le = le_of_mul-le-mul_right h.le p }
cancel {e = high} p h = record { le = le_of_mul-le-mul_right h.le p }

pub reverse : {e : End} {a b : ℕ} → a ≤⟨ other e ⟩ b → b ≤⟨ e ⟩ a
reverse {e = low} h = omega arith
reverse {e = high} h = omega arith

-- ---- rounding
pub divide-end : (e : End) (a b : ℕ) → 0 < b → divide e a b * b ≤⟨ e ⟩ a
divide-end low a b p = record { le = (divide-floor a b p).0 }
divide-end high a b p = record { le = (divide-ceiling a b p).0 }

-- no other number is nearer
pub divide-best : {e : End} {a b k : ℕ} → 0 < b → k * b ≤⟨ e ⟩ a → k ≤⟨ e ⟩ divide e a b
divide-best {e = low} {a} {b} {k} p h = record { le = le-divide low a b k p h.le }
divide-best {e = high} {a} {b} {k} p h = record { le = divide-le high a b k p h.le }

-- a quotient that is smaller rounds to no larger a number
pub divide-order : {e : End} {b d : ℕ} (a c : ℕ) → 0 < b → 0 < d → a * d ≤⟨ e ⟩ c * b → divide e a b ≤⟨ e ⟩ divide e c d
divide-order {e} {b} {d} a c hb hd h = divide-best hd (cancel hb (from (divide-end e a b hb times d and h) (omega arith)))

pub root-end : (e : End) (n d : ℕ) → 0 < d → root e n d * root e n d * d ≤⟨ e ⟩ n
root-end low n d p = record { le = (root-floor n d p).reaches }
root-end high n d p = record { le = (root-ceiling n d p).covers }
