-- The two results of a step, which are rounded down and up, and what the searches of a term ask of them.
use Rattle.std.specs.Prelude.{◌≡◌, ℕ, ◌≤◌, Bool}
use Rattle.std.specs.Ordering.{is_le, is_ge, nat_cmp}
use Rattle.std.specs.declared.cmp.Ordering.{Ordering}
use Rattle.arith.specs.Rounding.{End, low, high}
use Rattle.method.specs.Rounded.{tested}
use Rattle.searchmodel.specs.Bisection.{rate_test}
use Rattle.arith.specs.declared.bracket.Bracket.{Bracket}

-- whether step i passes the rounded working's test of a rate of term t. The lower rate goes by the upper factor and the upper rate by the
-- lower, so a test has one number as its factor.
abbrev pub passed : End → ℕ → ℕ → ℕ → Bool
passed e t factor i = rate_test (λ e s. factor) e t i

-- the same, by how the result compares with the factor
abbrev pub passing : End → Ordering → Bool
passing low o = is_ge o
passing high o = is_le o

-- both results of step i are between the ends of x
pub record Results (x : Bracket) (t i : ℕ) : Type 0 where
  pub lower : x.lower ≤ tested low t i
  pub upper : tested high t i ≤ x.upper

-- both results of step i compare so with the factor
pub record BothCompare (o : Ordering) (t i factor : ℕ) : Type 0 where
  pub by : (e : End) → o ≡ nat_cmp (tested e t i) factor
