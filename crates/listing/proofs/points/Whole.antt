-- A whole number up to 2^53 as a double and back. Assumes nothing.
use mathlib.Core.Path.{refl}
use Prim.Native.Nat.{ℕ, ◌≤◌, ◌^◌}
use native.Mathlib.Nat.{lt_of_le_of_lt}
use lib.Dec.{T, le→leb, lit<}
use lib.IntN.{pos}
use lib.Ieee.{binary64, in_float}
use lib.Ieee.Back.{unsigned_back}
use Rattle.method.specs.Window.{double}
use Rattle.listing.specs.Holds.{Holds}

pub small : (n : ℕ) → n ≤ 2 ^ 53 → T (in_float binary64 (pos n))
unfolding in_float
small n h = le→leb n (2 ^ 53) h

pub holds : (n : ℕ) → n ≤ 2 ^ 53 → Holds (double n) n
holds n h =
    let b = unsigned_back binary64 64 n (small n h) (lt_of_le_of_lt h (lit< tt)) in
    record { is = refl; exact = b.0; back = b.1 }
