-- What is promised where the equity classes fall together, used once in plain numbers: both ends of S2 and S, the verdict, and the exact S
-- beside a fraction. Nothing else rests on this: a promise that said less would not give it. Assumes nothing.
use Prim.Native.Nat.{ℕ, ◌+◌, ◌*◌, ◌≤◌, ◌<◌}
use mathlib.Core.Path.{◌≡◌}
use mathlib.Core.Bool.{false}
use mathlib.Core.List.{List}
use lib.IntN.{ℤ}
use lib.ListN.{length}
use Rattle.std.specs.Prelude.{Result, Ok}
use Rattle.refusal.specs.declared.Refusal.{Refusal}
use Rattle.arith.specs.Rounding.{low, high, divide}
use Rattle.model.specs.Case.{FileCase}
use Rattle.model.specs.Layout.{stands, file_map, case_of}
use Rattle.model.specs.Limits.{WithinLimits}
use Rattle.model.specs.Refusals.{failing, checks, refusal}
use Rattle.model.specs.declared.figures.Valuation.{Valuation}
use Rattle.method.specs.Fraction.{Fraction, square, ◌≤ᶠ◌, ◌≤ʳ◌, ◌ʳ≤◌}
use Rattle.method.specs.Curve.{base}
use Rattle.method.specs.Exact as Exact
use Rattle.method.specs.Rounded as Rounded
use Rattle.method.specs.Buffers.{valuation_of, answered}
use Rattle.method.specs.EquityClasses.{summed_loss, summed_S², judge_by_fraction, summed_buffer, SummedExactly, Summed, SummedValuation}
use Rattle.method.specs.Promises.{CaseValued, AcceptedCall, FiguresCall, TogetherTheClassesAreSummed}

-- the four losses in tenths of a cent, added
abbrev together : FileCase → ℕ
together k =
    let a = k.amounts in
    let x = k.shocks in
    a.mature * x.mature_fall + a.emerging * x.emerging_fall + a.private * x.private_fall + a.property * x.property_fall

-- the exact S: a fraction counts its square from both sides, and it decides the verdict
exactly : (k : FileCase) → SummedExactly k → (q : Fraction)
    → ((Exact.S2² k).num * (square (summed_loss k.amounts k.shocks)).den ≡ (square (summed_loss k.amounts k.shocks)).num * (Exact.S2² k).den)
    × (0 < (Exact.S2² k).den) × (0 < (square (summed_loss k.amounts k.shocks)).den) × (0 < (summed_S² k).den)
    × (q ≤ʳ Exact.S² k → q.num * (summed_S² k).den ≤ (summed_S² k).num * q.den)
    × (q ≤ᶠ summed_S² k → q ≤ʳ Exact.S² k)
    × (Exact.S² k ʳ≤ q → (summed_S² k).num * q.den ≤ q.num * (summed_S² k).den)
    × (summed_S² k ≤ᶠ q → Exact.S² k ʳ≤ q)
    × (Exact.verdict k ≡ judge_by_fraction (Exact.A k) (Exact.L k base) (summed_S² k))
exactly k s q =
    (s.exact_S2.2, s.exact_S2.0, s.exact_S2.1, s.real, s.below q, s.not_above q, s.above q, s.not_below q, s.exact_verdict)

-- both ends of S2 and S of the rounded working, and its verdict
rounded : (k : FileCase) → Summed k
    → (Rounded.S2 k low ≡ divide low (100 * together k) 1000) × (Rounded.S2 k high ≡ divide high (100 * together k) 1000)
    × (Rounded.S k low ≡ summed_buffer k low) × (Rounded.S k high ≡ summed_buffer k high)
    × (Rounded.verdict k ≡ Rounded.judge (Rounded.A k) (Rounded.L k base) (summed_buffer k))
    × SummedExactly k
rounded k s = (s.rounded_S2 low, s.rounded_S2 high, s.rounded_S low, s.rounded_S high, s.rounded_verdict, s.exact)

-- the same of an answer
abbrev SummedAnswer : FileCase → Valuation → Type 0
SummedAnswer k v =
    (v.figures.s2.lower ≡ divide low (100 * together k) 1000) × (v.figures.s2.upper ≡ divide high (100 * together k) 1000)
    × (v.figures.s.lower ≡ summed_buffer k low) × (v.figures.s.upper ≡ summed_buffer k high)
    × (v.verdict ≡ Rounded.judge (Rounded.A k) (Rounded.L k base) (summed_buffer k))
    × SummedExactly k

summed-answer : (k : FileCase) (v : Valuation) → SummedValuation k v → SummedAnswer k v
summed-answer k v s = (s.s2 low, s.s2 high, s.s low, s.s high, s.verdict, s.exact)

-- a call with both buffers, a file that is valued without buffers, and a case whatever it came from
accepted : (file factors : List ℕ) (rates : List ℤ) → AcceptedCall file factors rates → stands 8 (file_map file) ≡ false → (v : Valuation)
    → valuation_of (length factors) (length rates) file ≡ Ok v → SummedAnswer (case_of file) v
accepted file factors rates a absent v e = summed-answer (case_of file) v (a.without_equity_field absent v e)

without-buffers : (file : List ℕ) → FiguresCall file → stands 8 (file_map file) ≡ false → (v : Valuation)
    → answered (failing (checks file)) (case_of file) ≡ Ok v → SummedAnswer (case_of file) v
without-buffers file c absent v e = summed-answer (case_of file) v (c.without_equity_field absent v e)

of-a-case : (k : FileCase) (answer : Result Valuation Refusal) (f₀ f₁ : List ℕ) (z₀ z₁ : List ℤ) → CaseValued k answer f₀ f₁ z₀ z₁
    → k.shocks.equity_correlation ≡ 1000 → (v : Valuation) → answer ≡ Ok v → SummedAnswer k v
of-a-case k answer f₀ f₁ z₀ z₁ c one v e = summed-answer k v (c.summed one v e)

-- of every case within the limits, and of every accepted file without the field
of-every-case : TogetherTheClassesAreSummed → (k : FileCase) → WithinLimits k → k.shocks.equity_correlation ≡ 1000 → Summed k
of-every-case p = p.within_limits

of-every-file : TogetherTheClassesAreSummed → (file : List ℕ) → refusal file ≡ 0 → stands 8 (file_map file) ≡ false → Summed (case_of file)
of-every-file p = p.without_field
