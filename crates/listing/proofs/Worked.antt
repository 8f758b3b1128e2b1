-- The listing of file C1 (METHOD, Buffers, window, listing), from its figures and its verdict, and one of a refusal. Assumes nothing.
use mathlib.Core.Path.{◌≡◌, refl}
use Prim.Native.Nat.{ℕ}
use Rattle.std.specs.Prelude.{Ok, Err}
use Rattle.model.specs.Numbers.{table}
use Rattle.method.specs.Listing.{ascii, digits, decimal, word, line, figure_lines, listing}
use Rattle.arith.specs.declared.bracket.Bracket.{Bracket}
use Rattle.model.specs.declared.figures.Figures.{Figures}
use Rattle.model.specs.declared.figures.Verdict.TheVariants.{VrijVermogen}

both : ℕ → Bracket
both n = record { lower = n; upper = n }

pub figures_c1 : Figures
unfolding both
figures_c1 = record {
  l = both 100000000;
  b = both 0;
  a = both 110000000;
  s1 = both 0;
  s2 = both 0;
  s3 = both 0;
  s4 = both 0;
  s5 = both 0;
  s6 = both 10000000;
  s = both 10000000;
}

pub listing-C1 :
    listing (Ok (record { figures = figures_c1; verdict = VrijVermogen }))
    ≡ ascii "L 100000000 100000000\nB 0 0\nA 110000000 110000000\nS1 0 0\nS2 0 0\nS3 0 0\nS4 0 0\nS5 0 0\nS6 10000000 10000000\nS 10000000 10000000\nV VRIJ VERMOGEN\n"
unfolding both figures_c1 table ascii digits decimal word line figure_lines listing
listing-C1 = refl

pub listing-13 : listing (Err 13) ≡ ascii "R 13\n"
unfolding table ascii digits decimal listing
listing-13 = refl
