-- What the computed statements of this crate compute with: the definitions of specs/, and those of the crates below it. Assumes nothing.
use Prim.Native.Nat.{ℕ}
use Prim.Native.String.{String}
use mathlib.Core.List.{List, [], ◌∷◌, ◌++◌}
use lib.Ieee.{size}
use Rattle.arith.specs.Rounding.{divide}
use Rattle.arith.specs.Root.{root, root_of_digits}
use Rattle.method.specs.Brackets.{largest, smallest}
use Rattle.method.specs.Curve.{moved_sum, curve, P, weight, weights}
use Rattle.method.specs.Exact as Exact
use Rattle.method.specs.Rounded as Rounded
use Rattle.method.specs.Margins.{weighted_sum}
use Rattle.method.specs.Buffers.{valuation_refusal, by_term, factor_entries, factors_after, rates_after, rate_entries, valuation_of}
use Rattle.method.specs.EquityClasses.{judge_by_fraction}
use Rattle.method.specs.FourBytes.{rewritten_file}
use Rattle.method.specs.Window.{window_point}
use Rattle.method.specs.Listing.{ascii, digits, decimal, word, line, figure_lines, listing}
use Rattle.model.proofs.Computing as Model

-- the bytes of a text, line by line
abbrev pub text : List String → List ℕ
text [] = []
text (one ∷ lines) = ascii one ++ ascii "\n" ++ text lines

-- A proof whose `unfolding` line names `all` computes with every definition that is named here.
unfoldable pub all : ℕ
unfolding
    Model.all
    moved_sum curve P
    weights weight Exact.G Exact.weighed Exact.growth Exact.product_of Exact.factor Exact.unadjusted Exact.worth Exact.judge
    Rounded.scaled Rounded.growth Rounded.weighed Rounded.unadjusted Rounded.factor largest smallest Rounded.rate_of Rounded.worth Rounded.judge
    divide root root_of_digits size
    weighted_sum valuation_refusal by_term factor_entries rate_entries factors_after rates_after valuation_of window_point
    rewritten_file judge_by_fraction
    ascii digits decimal word line figure_lines listing
all = 0
