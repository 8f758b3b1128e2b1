-- The root of a fraction n ÷ d, rounded to a whole number at an end of a bracket: first what it is, then how it is computed.
-- Assumes nothing.
use Rattle.std.specs.Prelude.{ℕ, zero, suc, ◌+◌, ◌*◌, ◌≤◌, ◌<◌, if◌then◌else◌, nat_le}
use Rattle.std.specs.Float.Ieee.{size}
use Rattle.arith.specs.Rounding.{End, low, high}

-- r is the root of n ÷ d rounded down: r × r × d ≤ n < (r + 1) × (r + 1) × d
pub record FloorRoot (n d r : ℕ) : Type 0 where
  pub reaches : r * r * d ≤ n
  pub last : n < (r + 1) * (r + 1) * d

-- r is the root of n ÷ d rounded up: the first number with n ≤ r × r × d
pub record CeilingRoot (n d r : ℕ) : Type 0 where
  pub covers : n ≤ r * r * d
  pub first : (m : ℕ) → n ≤ m * m * d → r ≤ m

-- The root of n ÷ d rounded down, if it has at most k binary digits: twice the root of n ÷ (4 × d), or one more.
unfoldable pub root_of_digits : ℕ → ℕ → ℕ → ℕ
root_of_digits zero n d = 0
root_of_digits (suc k) n d =
    let r = 2 * root_of_digits k n (4 * d) in
    if nat_le ((r + 1) * (r + 1) * d) n then r + 1 else r

-- The root of n ÷ d, for d above 0. It has no more binary digits than n.
-- Rounded up it is the root rounded down where that is exact, and else one more.
unfoldable pub root : End → ℕ → ℕ → ℕ
unfolding root_of_digits size
root low n d = root_of_digits (size n) n d
root high n d =
    let r = root_of_digits (size n) n d in
    if nat_le n (r * r * d) then r else r + 1
