-- What a host is told: the numbers of verdicts and refusals, each figure in its place, kinds of points, counts and UFRs; and what a struct of
-- these numbers says, and prints. All of it as computed statements about the definitions.
-- tests/writers wrote this file, from the one table of words, hosts/words.toml: change that, not this. Assumes nothing.
use Prim.Native.Nat.{ℕ}
use Prim.Native.String.{String}
use mathlib.Core.Path.{◌≡◌, refl}
use mathlib.Core.List.{List, [], ◌∷◌, ◌++◌, map}
use Rattle.std.specs.Prelude.{Ok, Err}
use Rattle.std.specs.Float.{binary64}
use Rattle.std.specs.Float.Ieee.{of_bits}
use Rattle.refusal.specs.declared.Refusal.{Refusal}
use Rattle.refusal.specs.declared.Refusal.TheVariants.{
  EndsEarly,
  BytesFollow,
  WrongFields,
  DayCount,
  Rate,
  Forward,
  FlowCount,
  Flow,
  Ufr,
  Amount,
  Shock,
  People,
  Buffers,
  Room,
  WindowFull,
  WindowEmpty,
  History,
  Month,
  MonthsUfr,
  Damaged,
}
use Rattle.model.specs.declared.figures.Figures.{Figures}
use Rattle.model.specs.declared.figures.Verdict.{Verdict}
use Rattle.model.specs.declared.figures.Verdict.TheVariants.{Dekkingstekort, Reservetekort, VrijVermogen, Onbeslist}
use Rattle.model.specs.declared.figures.Valuation.{Valuation}
use Rattle.model.specs.declared.window.Point.TheVariants.{Factor, Money, Blank}
use Rattle.method.specs.Window.{double}
use Rattle.method.specs.Listing.{listing}
use Rattle.method.proofs.Computing.{text, all}
use Rattle.flat.specs.Flat.{verdict_number, verdict_from, host_valuation, valuation_from, host_point, host_saved, host_ufr}
use Rattle.flat.specs.declared.HostValuation.{HostValuation}
use Rattle.flat.specs.declared.HostSaved.{HostSaved}
use Rattle.flat.specs.declared.HostUfr.{HostUfr}

-- ten brackets, no number of which is another's
abbrev pub ten_brackets : Figures
ten_brackets = record {
  l = record { lower = 1; upper = 2 };
  b = record { lower = 3; upper = 4 };
  a = record { lower = 5; upper = 6 };
  s1 = record { lower = 7; upper = 8 };
  s2 = record { lower = 9; upper = 10 };
  s3 = record { lower = 11; upper = 12 };
  s4 = record { lower = 13; upper = 14 };
  s5 = record { lower = 15; upper = 16 };
  s6 = record { lower = 17; upper = 18 };
  s = record { lower = 19; upper = 20 };
}

abbrev pub no_brackets : Figures
no_brackets = record {
  l = record { lower = 0; upper = 0 };
  b = record { lower = 0; upper = 0 };
  a = record { lower = 0; upper = 0 };
  s1 = record { lower = 0; upper = 0 };
  s2 = record { lower = 0; upper = 0 };
  s3 = record { lower = 0; upper = 0 };
  s4 = record { lower = 0; upper = 0 };
  s5 = record { lower = 0; upper = 0 };
  s6 = record { lower = 0; upper = 0 };
  s = record { lower = 0; upper = 0 };
}

-- the ten brackets with a verdict
abbrev pub judged : Verdict → Valuation
judged a = record {
  figures = ten_brackets;
  verdict = a;
}

-- refusal, verdict and figures
abbrev pub told : ℕ → ℕ → Figures → HostValuation
told a b c = record {
  refusal = a;
  verdict = b;
  figures = c;
}

-- refusal and bytes written
abbrev pub saved : ℕ → ℕ → HostSaved
saved a b = record {
  refusal = a;
  written = b;
}

-- refusal and UFR
abbrev pub found : ℕ → ℕ → HostUfr
found a b = record {
  refusal = a;
  ufr = b;
}

-- every verdict, with its number
abbrev pub every_verdict : List Verdict
every_verdict =
    Dekkingstekort  -- 1
    ∷ Reservetekort  -- 2
    ∷ VrijVermogen  -- 3
    ∷ Onbeslist  -- 4
    ∷ []

-- every refusal, with its number
abbrev pub every_refusal : List Refusal
every_refusal =
    EndsEarly  -- 1
    ∷ BytesFollow  -- 2
    ∷ WrongFields  -- 3
    ∷ DayCount  -- 4
    ∷ Rate  -- 5
    ∷ Forward  -- 6
    ∷ FlowCount  -- 7
    ∷ Flow  -- 8
    ∷ Ufr  -- 9
    ∷ Amount  -- 10
    ∷ Shock  -- 11
    ∷ People  -- 12
    ∷ Buffers  -- 13
    ∷ Room  -- 14
    ∷ WindowFull  -- 15
    ∷ WindowEmpty  -- 16
    ∷ History  -- 17
    ∷ Month  -- 18
    ∷ MonthsUfr  -- 19
    ∷ Damaged  -- 27
    ∷ []

verdict-numbers : map verdict_number every_verdict ≡ 1 ∷ 2 ∷ 3 ∷ 4 ∷ []
unfolding all
verdict-numbers = refl

host-figures : ((host_valuation (Ok (judged Onbeslist))).figures.l.lower ≡ 1)
    × ((host_valuation (Ok (judged Onbeslist))).figures.l.upper ≡ 2)
    × ((host_valuation (Ok (judged Onbeslist))).figures.b.lower ≡ 3)
    × ((host_valuation (Ok (judged Onbeslist))).figures.b.upper ≡ 4)
    × ((host_valuation (Ok (judged Onbeslist))).figures.a.lower ≡ 5)
    × ((host_valuation (Ok (judged Onbeslist))).figures.a.upper ≡ 6)
    × ((host_valuation (Ok (judged Onbeslist))).figures.s1.lower ≡ 7)
    × ((host_valuation (Ok (judged Onbeslist))).figures.s1.upper ≡ 8)
    × ((host_valuation (Ok (judged Onbeslist))).figures.s2.lower ≡ 9)
    × ((host_valuation (Ok (judged Onbeslist))).figures.s2.upper ≡ 10)
    × ((host_valuation (Ok (judged Onbeslist))).figures.s3.lower ≡ 11)
    × ((host_valuation (Ok (judged Onbeslist))).figures.s3.upper ≡ 12)
    × ((host_valuation (Ok (judged Onbeslist))).figures.s4.lower ≡ 13)
    × ((host_valuation (Ok (judged Onbeslist))).figures.s4.upper ≡ 14)
    × ((host_valuation (Ok (judged Onbeslist))).figures.s5.lower ≡ 15)
    × ((host_valuation (Ok (judged Onbeslist))).figures.s5.upper ≡ 16)
    × ((host_valuation (Ok (judged Onbeslist))).figures.s6.lower ≡ 17)
    × ((host_valuation (Ok (judged Onbeslist))).figures.s6.upper ≡ 18)
    × ((host_valuation (Ok (judged Onbeslist))).figures.s.lower ≡ 19)
    × ((host_valuation (Ok (judged Onbeslist))).figures.s.upper ≡ 20)
unfolding all
host-figures = (refl, refl, refl, refl, refl, refl, refl, refl, refl, refl, refl, refl, refl, refl, refl, refl, refl, refl, refl, refl)

host-verdicts : map (λ v. host_valuation (Ok (judged v))) every_verdict ≡ map (λ n. told 0 n ten_brackets) (1 ∷ 2 ∷ 3 ∷ 4 ∷ [])
unfolding all
host-verdicts = refl

host-refusals : map (λ r. host_valuation (Err r)) every_refusal ≡ map (λ n. told n 0 no_brackets) (1 ∷ 2 ∷ 3 ∷ 4 ∷ 5 ∷ 6 ∷ 7 ∷ 8 ∷ 9 ∷ 10 ∷ 11 ∷ 12 ∷ 13 ∷ 14 ∷ 15 ∷ 16 ∷ 17 ∷ 18 ∷ 19 ∷ 27 ∷ [])
unfolding all
host-refusals = refl

host-saved : (host_saved (Ok 160) ≡ saved 0 160)
    × (host_saved (Ok 0) ≡ saved 0 0)
    × (map (λ r. host_saved (Err r)) every_refusal ≡ map (λ n. saved n 0) (1 ∷ 2 ∷ 3 ∷ 4 ∷ 5 ∷ 6 ∷ 7 ∷ 8 ∷ 9 ∷ 10 ∷ 11 ∷ 12 ∷ 13 ∷ 14 ∷ 15 ∷ 16 ∷ 17 ∷ 18 ∷ 19 ∷ 27 ∷ []))
unfolding all
host-saved = (refl, refl, refl)

host-ufr : (host_ufr (Ok 3100) ≡ found 0 3100)
    × (host_ufr (Ok 0) ≡ found 0 0)
    × (map (λ r. host_ufr (Err r)) every_refusal ≡ map (λ n. found n 0) (1 ∷ 2 ∷ 3 ∷ 4 ∷ 5 ∷ 6 ∷ 7 ∷ 8 ∷ 9 ∷ 10 ∷ 11 ∷ 12 ∷ 13 ∷ 14 ∷ 15 ∷ 16 ∷ 17 ∷ 18 ∷ 19 ∷ 27 ∷ []))
unfolding all
host-ufr = (refl, refl, refl)

host-points : (host_point Blank ≡ record { kind = 0; lower = of_bits binary64 0; upper = of_bits binary64 0 })
    × (host_point (Factor (double 3) (double 4)) ≡ record { kind = 1; lower = double 3; upper = double 4 })
    × (host_point (Money (double 3) (double 4)) ≡ record { kind = 2; lower = double 3; upper = double 4 })
unfolding all
host-points = (refl, refl, refl)

verdicts-back : (verdict_from 1 ≡ Dekkingstekort)
    × (verdict_from 2 ≡ Reservetekort)
    × (verdict_from 3 ≡ VrijVermogen)
    × (verdict_from 4 ≡ Onbeslist)
    × (verdict_from 0 ≡ Onbeslist)
    × (verdict_from 5 ≡ Onbeslist)
    × (verdict_from 255 ≡ Onbeslist)
unfolding all
verdicts-back = (refl, refl, refl, refl, refl, refl, refl)

figures-back : (valuation_from (told 0 1 ten_brackets) ≡ Ok (judged Dekkingstekort))
    × (valuation_from (told 0 2 ten_brackets) ≡ Ok (judged Reservetekort))
    × (valuation_from (told 0 3 ten_brackets) ≡ Ok (judged VrijVermogen))
    × (valuation_from (told 0 4 ten_brackets) ≡ Ok (judged Onbeslist))
    × (valuation_from (told 0 0 ten_brackets) ≡ Ok (judged Onbeslist))
    × (valuation_from (told 0 5 ten_brackets) ≡ Ok (judged Onbeslist))
    × (valuation_from (told 0 255 ten_brackets) ≡ Ok (judged Onbeslist))
unfolding all
figures-back = (refl, refl, refl, refl, refl, refl, refl)

refusals-back : map (λ n. valuation_from (told n 3 ten_brackets)) (1 ∷ 2 ∷ 3 ∷ 4 ∷ 5 ∷ 6 ∷ 7 ∷ 8 ∷ 9 ∷ 10 ∷ 11 ∷ 12 ∷ 13 ∷ 14 ∷ 15 ∷ 16 ∷ 17 ∷ 18 ∷ 19 ∷ 27 ∷ 20 ∷ 255 ∷ []) ≡ map Err (1 ∷ 2 ∷ 3 ∷ 4 ∷ 5 ∷ 6 ∷ 7 ∷ 8 ∷ 9 ∷ 10 ∷ 11 ∷ 12 ∷ 13 ∷ 14 ∷ 15 ∷ 16 ∷ 17 ∷ 18 ∷ 19 ∷ 27 ∷ 20 ∷ 255 ∷ [])
unfolding all
refusals-back = refl

abbrev pub ten_lines : List String
ten_lines =
    "L 1 2"
    ∷ "B 3 4"
    ∷ "A 5 6"
    ∷ "S1 7 8"
    ∷ "S2 9 10"
    ∷ "S3 11 12"
    ∷ "S4 13 14"
    ∷ "S5 15 16"
    ∷ "S6 17 18"
    ∷ "S 19 20"
    ∷ []

host-listings : (listing (valuation_from (told 0 1 ten_brackets)) ≡ text (ten_lines ++ ("V DEKKINGSTEKORT" ∷ [])))
    × (listing (valuation_from (told 0 2 ten_brackets)) ≡ text (ten_lines ++ ("V RESERVETEKORT" ∷ [])))
    × (listing (valuation_from (told 0 3 ten_brackets)) ≡ text (ten_lines ++ ("V VRIJ VERMOGEN" ∷ [])))
    × (listing (valuation_from (told 0 4 ten_brackets)) ≡ text (ten_lines ++ ("V ONBESLIST" ∷ [])))
    × (listing (valuation_from (told 0 0 ten_brackets)) ≡ text (ten_lines ++ ("V ONBESLIST" ∷ [])))
    × (listing (valuation_from (told 0 5 ten_brackets)) ≡ text (ten_lines ++ ("V ONBESLIST" ∷ [])))
    × (listing (valuation_from (told 0 255 ten_brackets)) ≡ text (ten_lines ++ ("V ONBESLIST" ∷ [])))
    × (listing (valuation_from (told 1 3 ten_brackets)) ≡ text ("R 1" ∷ []))
    × (listing (valuation_from (told 27 3 ten_brackets)) ≡ text ("R 27" ∷ []))
unfolding all
host-listings = (refl, refl, refl, refl, refl, refl, refl, refl, refl)
