-- The listing, as bytes (METHOD, Buffers, window, listing).
use Rattle.std.specs.Prelude.{ℕ, zero, suc, ◌+◌, ◌/◌, ◌%◌, if◌then◌else◌, List, [], ◌∷◌, ◌++◌, nat_le, nat_lt, length, drop, Result, Ok, Err}
use Rattle.std.specs.List.{flat_map}
use Prim.Native.Char.{code}
use Prim.Native.String.{String, len, char_at}
use Rattle.model.specs.Numbers.{table}
use Rattle.arith.specs.declared.bracket.Bracket.{Bracket}
use Rattle.model.specs.declared.figures.Figures.{Figures}
use Rattle.model.specs.declared.figures.Verdict.{Verdict}
use Rattle.model.specs.declared.figures.Verdict.TheVariants.{Dekkingstekort, Reservetekort, VrijVermogen, Onbeslist}
use Rattle.model.specs.declared.figures.Valuation.{Valuation}

-- the bytes of a text in ASCII
unfoldable pub ascii : String → List ℕ
ascii text = table (λ i. code (char_at text i)) (len text)

-- a number in base ten, of at most k digits; a number of 64 bits has at most 20
unfoldable pub digits : ℕ → ℕ → List ℕ
digits zero n = []
digits (suc k) n = let rest = digits k (n / 10) in if nat_lt n 10 then ((48 + n) ∷ []) else (rest ++ ((48 + n % 10) ∷ []))

unfoldable pub decimal : ℕ → List ℕ
decimal n = digits 20 n

-- the word of each verdict
unfoldable pub word : Verdict → List ℕ
word Dekkingstekort = ascii "DEKKINGSTEKORT"
word Reservetekort = ascii "RESERVETEKORT"
word VrijVermogen = ascii "VRIJ VERMOGEN"
word Onbeslist = ascii "ONBESLIST"

-- the ten money figures under their names, in the order of the listing and of the window's points
abbrev pub named_figures : Figures → List (List ℕ × Bracket)
named_figures f =
    (ascii "L", f.l) ∷ (ascii "B", f.b) ∷ (ascii "A", f.a)
    ∷ (ascii "S1", f.s1) ∷ (ascii "S2", f.s2) ∷ (ascii "S3", f.s3) ∷ (ascii "S4", f.s4) ∷ (ascii "S5", f.s5) ∷ (ascii "S6", f.s6)
    ∷ (ascii "S", f.s) ∷ []

-- "one line each, name, lower, upper (cents, base ten, one space between)"
unfoldable pub line : List ℕ → Bracket → List ℕ
line name b = name ++ ascii " " ++ decimal b.lower ++ ascii " " ++ decimal b.upper ++ ascii "\n"

unfoldable pub figure_lines : Figures → List ℕ
figure_lines f = flat_map (λ named. line named.0 named.1) (named_figures f)

-- "then V and the verdict"; "A refused file prints R and its number, one space between, as its only line."
unfoldable pub listing : Result Valuation ℕ → List ℕ
listing (Err r) = ascii "R " ++ decimal r ++ ascii "\n"
listing (Ok v) = figure_lines v.figures ++ ascii "V " ++ word v.verdict ++ ascii "\n"

-- a lent buffer after the listing was written into it: its later bytes keep their content, and one that is too short is left alone
unfoldable pub listing_after : Result Valuation ℕ → List ℕ → List ℕ
listing_after v held =
    let text = listing v in
    if nat_le (length text) (length held) then text ++ drop (length text) held else held

-- how many bytes were written: 0 where the buffer is too short
unfoldable pub listing_length : Result Valuation ℕ → ℕ → ℕ
listing_length v room = let text = listing v in if nat_le (length text) room then length text else 0
