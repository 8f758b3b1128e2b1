-- Brackets by their two ends, and their ends from a bracket. Assumes nothing.
use Prim.Native.Nat.{ℕ}
use mathlib.Core.Path.{◌≡◌, ap}
use Rattle.arith.specs.Rounding.{End, low, high}
use Rattle.arith.specs.Brackets.{bracket, end_of}
use Rattle.arith.specs.declared.bracket.Bracket.{Bracket}

-- brackets with the same ends
pub by-ends : (f g : End → ℕ) → ((e : End) → f e ≡ g e) → bracket f ≡ bracket g
by-ends f g h = rw (h low, h high)

-- an end of a bracket that is known
pub end_is : (x : Bracket) (f : End → ℕ) → x ≡ bracket f → (e : End) → end_of x e ≡ f e
end_is x f p low = ap (λ (y : Bracket). y.lower) p
end_is x f p high = ap (λ (y : Bracket). y.upper) p
