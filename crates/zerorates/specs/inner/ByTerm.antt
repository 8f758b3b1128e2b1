-- Zero rates as the code holds them, a bracket for each term.
use Rattle.std.specs.Prelude.{ℕ, suc, ◌-◌, List, slice_index_or, ℤ, pos}
use Rattle.arith.specs.Rounding.{End, low, high}
use Rattle.model.specs.Numbers.{table}
use Rattle.zerorates.specs.declared.rates.RateBracket.{RateBracket}

-- the bracket of a rate, and those at the terms 1 to n
abbrev pub rate_bracket : (End → ℤ) → RateBracket
rate_bracket rate = record { lower = rate low; upper = rate high }

abbrev pub rate_brackets : (End → ℕ → ℤ) → ℕ → List RateBracket
rate_brackets rate n = table (λ i. rate_bracket (λ e. rate e (suc i))) n

-- an end of the rate of a term, from 1
abbrev pub rate_end : RateBracket → End → ℤ
rate_end b low = b.lower
rate_end b high = b.upper

abbrev pub rate_at : List RateBracket → End → ℕ → ℤ
rate_at rates e t = rate_end (slice_index_or rates (t - 1) (record { lower = pos 0; upper = pos 0 })) e
