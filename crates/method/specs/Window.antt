-- The points of the window (METHOD, Buffers, window, listing).
use Rattle.std.specs.Prelude.{ℕ, ◌*◌, ◌-◌, ◌^◌, Bool, ◌&&◌, if◌then◌else◌, List, map, nat_le, pos, Float, length, slice_index_or}
use Rattle.std.specs.Float.{binary64}
use Rattle.std.specs.Float.Ieee.{of_int}
use Rattle.arith.specs.Brackets.{bracket}
use Rattle.method.specs.Buffers.{entry_of}
use Rattle.method.specs.Listing.{named_figures}
use Rattle.arith.specs.declared.bracket.Bracket.{Bracket}
use Rattle.model.specs.declared.figures.Figures.{Figures}
use Rattle.model.specs.declared.window.Point.{Point}
use Rattle.model.specs.declared.window.Point.TheVariants.{Factor, Money, Blank}

-- "each bracket as two doubles holding the same whole numbers"
abbrev pub double : ℕ → Float
double n = of_int binary64 (pos n)

-- a double holds each whole number up to 2^53
abbrev pub holds : Bracket → Bool
holds b = nat_le b.lower (2 ^ 53) && nat_le b.upper (2 ^ 53)

-- "121 to 130: L B A S1 S2 S3 S4 S5 S6 S"
abbrev pub figures_in_order : Figures → List Bracket
figures_in_order f = map (λ named. named.1) (named_figures f)

abbrev pub factor_point : Bracket → Point
factor_point b = if holds b then Factor (double b.lower) (double b.upper) else Blank

abbrev pub money_point : Bracket → Point
money_point b = if holds b then Money (double b.lower) (double b.upper) else Blank

-- the bracket of factor t in a buffer
abbrev pub factor_bracket : List ℕ → ℕ → Bracket
factor_bracket factors t = bracket (λ e. entry_of factors e t)

-- "A window point is a factor (1 to 120), a money figure (121 to 130: L B A S1 S2 S3 S4 S5 S6 S) or blank (any other number)." Each
-- needs only what it shows: a factor is blank where one of its own two entries is not lent, and a money figure needs no entry. A point
-- is blank also where a double does not hold an end. After an accepted valuation neither occurs.
unfoldable pub window_point : ℕ → List ℕ → Figures → Point
window_point p factors figures =
    let factor = if nat_le (2 * p) (length factors) then factor_point (factor_bracket factors p) else Blank in
    let figure = money_point (slice_index_or (figures_in_order figures) (p - 121) (record { lower = 0; upper = 0 })) in
    if nat_le 1 p && nat_le p 120 then factor
    else if nat_le 121 p && nat_le p 130 then figure
    else Blank
