-- The answers of the engine as structs that C knows, and what such a struct says. Assumes nothing.
use Rattle.std.specs.Prelude.{ℕ, zero, suc, if◌then◌else◌, ◌==◌, Result, Ok, Err}
use Rattle.std.specs.Float.{binary64}
use Rattle.std.specs.Float.Ieee.{of_bits}
use Rattle.refusal.specs.Numbered.{number_of}
use Rattle.refusal.specs.declared.Refusal.{Refusal}
use Rattle.arith.specs.declared.bracket.Bracket.{Bracket}
use Rattle.model.specs.declared.figures.Figures.{Figures}
use Rattle.model.specs.declared.figures.Verdict.{Verdict}
use Rattle.model.specs.declared.figures.Verdict.TheVariants.{Dekkingstekort, Reservetekort, VrijVermogen, Onbeslist}
use Rattle.model.specs.declared.figures.Valuation.{Valuation}
use Rattle.model.specs.declared.window.Point.{Point}
use Rattle.model.specs.declared.window.Point.TheVariants.{Factor, Money, Blank}
use Rattle.flat.specs.declared.HostValuation.{HostValuation}
use Rattle.flat.specs.declared.HostPoint.{HostPoint}
use Rattle.flat.specs.declared.HostSaved.{HostSaved}
use Rattle.flat.specs.declared.HostUfr.{HostUfr}

abbrev pub nothing : Bracket
nothing = record { lower = 0; upper = 0 }

abbrev pub no_figures : Figures
no_figures = record {
  l = nothing;
  b = nothing;
  a = nothing;
  s1 = nothing;
  s2 = nothing;
  s3 = nothing;
  s4 = nothing;
  s5 = nothing;
  s6 = nothing;
  s = nothing;
}

-- the host's number of each verdict; 0 is kept for a refused file
abbrev pub verdict_number : Verdict → ℕ
verdict_number Dekkingstekort = 1
verdict_number Reservetekort = 2
verdict_number VrijVermogen = 3
verdict_number Onbeslist = 4

-- a number that is no verdict's is undecided
abbrev pub verdict_from : ℕ → Verdict
verdict_from number =
    if number == 1 then Dekkingstekort else if number == 2 then Reservetekort else if number == 3 then VrijVermogen else Onbeslist

-- "A refusal returns only its number": the verdict and the figures of a refused file are 0
abbrev pub host_valuation : Result Valuation Refusal → HostValuation
host_valuation (Err r) = record { refusal = number_of r; verdict = 0; figures = no_figures }
host_valuation (Ok v) = record { refusal = 0; verdict = verdict_number v.verdict; figures = v.figures }

-- the same, with the refusal by a number, also one that no refusal has
abbrev pub host_valuation_by_number : Result Valuation ℕ → HostValuation
host_valuation_by_number (Err number) = record { refusal = number; verdict = 0; figures = no_figures }
host_valuation_by_number (Ok v) = host_valuation (Ok v)

-- what a host's struct says, whether or not a valuation gave it: a number other than 0 is a refusal, whatever is beside it, also one that
-- no refusal has
abbrev pub numbered : ℕ → ℕ → Figures → Result Valuation ℕ
numbered zero verdict figures = Ok (record { figures = figures; verdict = verdict_from verdict })
numbered (suc r) verdict figures = Err (suc r)

abbrev pub valuation_from : HostValuation → Result Valuation ℕ
valuation_from v = numbered v.refusal v.verdict v.figures

-- "a factor .., a money figure .. or blank"
abbrev pub host_point : Point → HostPoint
host_point Blank = record { kind = 0; lower = of_bits binary64 0; upper = of_bits binary64 0 }
host_point (Factor lower upper) = record { kind = 1; lower = lower; upper = upper }
host_point (Money lower upper) = record { kind = 2; lower = lower; upper = upper }

-- "The writer returns the count of bytes written."; a refusal has written none
abbrev pub host_saved : Result ℕ Refusal → HostSaved
host_saved (Ok count) = record { refusal = 0; written = count }
host_saved (Err r) = record { refusal = number_of r; written = 0 }

-- the same, with the refusal by a number
abbrev pub host_saved_by_number : Result ℕ ℕ → HostSaved
host_saved_by_number (Ok count) = host_saved (Ok count)
host_saved_by_number (Err number) = record { refusal = number; written = 0 }

-- "The UFR found"; a refusal has found none
abbrev pub host_ufr : Result ℕ Refusal → HostUfr
host_ufr (Ok ufr) = record { refusal = 0; ufr = ufr }
host_ufr (Err r) = record { refusal = number_of r; ufr = 0 }

-- the same, with the refusal by a number
abbrev pub host_ufr_by_number : Result ℕ ℕ → HostUfr
host_ufr_by_number (Ok ufr) = host_ufr (Ok ufr)
host_ufr_by_number (Err number) = record { refusal = number; ufr = 0 }
