-- Factors as the code holds them, a bracket for each term.
use Rattle.std.specs.Prelude.{ℕ, suc, ◌-◌, List, slice_index_or}
use Rattle.arith.specs.Rounding.{End}
use Rattle.arith.specs.Brackets.{bracket, end_of}
use Rattle.arith.specs.declared.bracket.Bracket.{Bracket}
use Rattle.model.specs.Numbers.{table}

-- the brackets of a figure at the terms 1 to n
abbrev pub brackets : (End → ℕ → ℕ) → ℕ → List Bracket
brackets figure n = table (λ i. bracket (λ e. figure e (suc i))) n

-- an end of the figure of a term, from 1
abbrev pub factor_at : List Bracket → End → ℕ → ℕ
factor_at factors e t = end_of (slice_index_or factors (t - 1) (record { lower = 0; upper = 0 })) e
