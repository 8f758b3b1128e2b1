-- A host's struct says what was put into it. Assumes nothing.
use mathlib.Core.Path.{◌≡◌, refl, ap}
use Prim.Native.Nat.{ℕ, zero, suc, ◌≤◌}
use native.Mathlib.Omega.{arith}
use Rattle.std.specs.Prelude.{Result, Ok, Err}
use Rattle.refusal.specs.Numbered.{number_of, answer_of}
use Rattle.refusal.specs.declared.Refusal.{Refusal}
use Rattle.refusal.proofs.NotZero.{some_number}
use Rattle.model.specs.declared.figures.Verdict.{Verdict}
use Rattle.model.specs.declared.figures.Verdict.TheVariants.{Dekkingstekort, Reservetekort, VrijVermogen, Onbeslist}
use Rattle.model.specs.declared.figures.Valuation.{Valuation}
use Rattle.model.specs.declared.figures.Figures.{Figures}
use Rattle.flat.specs.Promises.{HandedBackAsGiven}
use Rattle.flat.specs.Flat.{no_figures, verdict_number, verdict_from, host_valuation, numbered, valuation_from}

pub verdict-said : (v : Verdict) → verdict_from (verdict_number v) ≡ v
verdict-said Dekkingstekort = refl
verdict-said Reservetekort = refl
verdict-said VrijVermogen = refl
verdict-said Onbeslist = refl

-- the figures with a verdict
abbrev judged : Figures → Verdict → Result Valuation ℕ
judged figures verdict = Ok (record { figures = figures; verdict = verdict })

-- no refusal has the number 0
number-said : (n verdict : ℕ) (figures : Figures) → 1 ≤ n → numbered n verdict figures ≡ Err n
number-said zero verdict figures h = let never : ⊥ = omega arith in absurd never
number-said (suc n) verdict figures h = refl

answer-said : (answer : Result Valuation Refusal) → valuation_from (host_valuation answer) ≡ answer_of answer
answer-said (Ok v) = ap (judged v.figures) (verdict-said v.verdict)
answer-said (Err r) = number-said (number_of r) 0 no_figures (some_number r)

-- what a valuation gave a host says that valuation: its listing is that of the file
pub handed_back_as_given : HandedBackAsGiven
handed_back_as_given = record { same = answer-said }
