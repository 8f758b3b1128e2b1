-- Each promise of specs/Bonds.antt used once in plain numbers: a UFR of 0, of 4,200 and of 5,000 steps, all three curves, both ends, up to 20 bond
-- flows, and every term below 61. Nothing else rests on this: a promise that said less would not give it. Assumes nothing.
use Rattle.std.specs.Prelude.{◌≡◌, ◌+◌, ◌*◌, ◌≤◌, ◌<◌, length, ℕ}
use mathlib.Core.Path.{ap}
use native.Mathlib.Omega.{arith}
use Rattle.arith.specs.Rounding.{low, high}
use Rattle.model.specs.Case.{FileCase, with_ufr}
use Rattle.model.specs.Limits.{WithinLimits}
use Rattle.method.specs.Curve.{Move, base, up, down, curve}
use Rattle.method.specs.Exact as Exact
use Rattle.method.specs.Rounded as Rounded
use Rattle.method.specs.Rounded.{figures_of, verdict_of}
use Rattle.model.specs.declared.figures.Figures.{Figures}
use Rattle.method.specs.Bonds.{adjusted_b, BondsNotByTheUfr, BondsToTerm20AsAdjusted, BondFactorsInBrackets}

-- ---- the UFR
bonds-by-no-ufr : BondsNotByTheUfr → (k : FileCase)
    → (Rounded.B (with_ufr 0 k) base low ≡ Rounded.B k base low) × (Rounded.B (with_ufr 5000 k) base high ≡ Rounded.B k base high)
    × (Rounded.B (with_ufr 4200 k) up low ≡ Rounded.B k up low) × (Rounded.B (with_ufr 4200 k) down high ≡ Rounded.B k down high)
    × (Exact.B (with_ufr 0 k) base ≡ Exact.B k base) × (Exact.B (with_ufr 5000 k) up ≡ Exact.B k up)
    × (Exact.B (with_ufr 4200 k) down ≡ Exact.B k down)
bonds-by-no-ufr p k = (
  p.rounded 0 k base low,
  p.rounded 5000 k base high,
  p.rounded 4200 k up low,
  p.rounded 4200 k down high,
  p.exact 0 k base,
  p.exact 5000 k up,
  p.exact 4200 k down,
)

-- ---- bond flows to term 20, also none
bonds-to-20 : BondsToTerm20AsAdjusted → (k : FileCase) → length k.bonds < 21
    → (Rounded.B k base low ≡ Rounded.worth low (Rounded.factor (curve k base) low) 1 k.bonds)
    × (Rounded.B k down high ≡ Rounded.worth high (Rounded.factor (curve k down) high) 1 k.bonds)
    × (Exact.B k up ≡ Exact.worth (Exact.factor (curve k up)) 1 k.bonds)
    × ((Rounded.figures k).b ≡ (figures_of (Rounded.L k) (adjusted_b k) k.amounts k.shocks k.people).b)
    × ((Rounded.figures k).s1 ≡ (figures_of (Rounded.L k) (adjusted_b k) k.amounts k.shocks k.people).s1)
    × ((Rounded.figures k).s ≡ (figures_of (Rounded.L k) (adjusted_b k) k.amounts k.shocks k.people).s)
    × (Rounded.verdict k ≡ verdict_of (Rounded.L k) (adjusted_b k) k.amounts k.shocks k.people)
bonds-to-20 p k few =
    let short : length k.bonds ≤ 20 = omega (arith, few) in (
      p.rounded k short base low,
      p.rounded k short down high,
      p.exact k short up,
      ap (λ (f : Figures). f.b) (p.figures k short),
      ap (λ (f : Figures). f.s1) (p.figures k short),
      ap (λ (f : Figures). f.s) (p.figures k short),
      p.verdict k short,
    )

-- ---- bond factors
-- the exact one, multiplied out, between both ends, which are at most 4 × t × t units apart
abbrev Bracketed : FileCase → Move → ℕ → Type 0
Bracketed k m t =
    (0 < (Exact.unadjusted (curve k m) t).den)
    × (Rounded.unadjusted (curve k m) low t * (Exact.unadjusted (curve k m) t).den ≤ 1000000000000 * (Exact.unadjusted (curve k m) t).num)
    × (1000000000000 * (Exact.unadjusted (curve k m) t).num ≤ Rounded.unadjusted (curve k m) high t * (Exact.unadjusted (curve k m) t).den)
    × (Rounded.unadjusted (curve k m) high t ≤ Rounded.unadjusted (curve k m) low t + 4 * (t * t))

bond-factor : BondFactorsInBrackets → (k : FileCase) → WithinLimits k → (m : Move) (t : ℕ) → t < 61 → Bracketed k m t
bond-factor p k w m t h =
    let both = p.within k w m t (omega (arith, h)) in
    let width = p.width k w m t (omega (arith, h)) in (
      (let r = (both low).real in omega (arith, r)),
      (let o = (both low).order in omega (arith, o)),
      (let o = (both high).order in omega (arith, o)),
      omega (arith, width),
    )
