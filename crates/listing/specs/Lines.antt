-- The listing of a valuation, line by line. Assumes nothing.
use Rattle.std.specs.Prelude.{◌≡◌, ◌++◌, Ok}
use Rattle.method.specs.Listing.{ascii, word, line, listing}
use Rattle.model.specs.declared.figures.Valuation.{Valuation}

-- ten lines, each of a figure under its own name, and that of the verdict
abbrev pub IsLineByLine : Type 0
IsLineByLine = (v : Valuation) →
    let f = v.figures in
    listing (Ok v)
    ≡ line (ascii "L") f.l ++ line (ascii "B") f.b ++ line (ascii "A") f.a ++ line (ascii "S1") f.s1 ++ line (ascii "S2") f.s2
    ++ line (ascii "S3") f.s3 ++ line (ascii "S4") f.s4 ++ line (ascii "S5") f.s5 ++ line (ascii "S6") f.s6 ++ line (ascii "S") f.s
    ++ ascii "V " ++ word v.verdict ++ ascii "\n"
