-- Where the equity classes fall together (METHOD, Equity classes): with a correlation of 1,000, which a file without the field has, S2 is the
-- sum of the four class losses, and S, the margins and the verdict are those with that sum. All of it has to be believed.
use Rattle.std.specs.Prelude.{ℕ, ◌+◌, ◌*◌, ◌≡◌, if◌then◌else◌}
use Rattle.arith.specs.Rounding.{End, divide}
use Rattle.arith.specs.Brackets.{end_of}
use Rattle.method.specs.Fraction.{Fraction, ◌//◌, ◌+ᶠ◌, ◌∸ᶠ◌, ◌*ᶠ◌, square, whole, less, Real, ◌≐◌, ◌≤ᶠ◌, ◌≤ʳ◌, ◌ʳ≤◌}
use Rattle.model.specs.Case.{FileCase}
use Rattle.method.specs.Curve.{base}
use Rattle.method.specs.Exact as Exact
use Rattle.method.specs.Exact.{loss, S1, S3, S4, S5, S6²}
use Rattle.method.specs.Rounded as Rounded
use Rattle.method.specs.Rounded.{buffer}
use Rattle.model.specs.declared.case.Amounts.{Amounts}
use Rattle.model.specs.declared.case.Shocks.{Shocks}
use Rattle.model.specs.declared.figures.Valuation.{Valuation}
use Rattle.model.specs.declared.figures.Verdict.{Verdict}
use Rattle.model.specs.declared.figures.Verdict.TheVariants.{Dekkingstekort, Reservetekort, VrijVermogen}

-- ---- the exact working: "the four equity and property amounts times their thousandths, summed"
abbrev pub summed_loss : Amounts → Shocks → Fraction
summed_loss a x =
    loss a.mature x.mature_fall +ᶠ loss a.emerging x.emerging_fall
    +ᶠ loss a.private x.private_fall +ᶠ loss a.property x.property_fall

-- the square of "the root of S1² + S2² + 2 × correlation × S1 × S2 + S3² + S4² + S5² + S6²", which is a fraction then
abbrev pub summed_S² : FileCase → Fraction
summed_S² k =
    let s2 = summed_loss k.amounts k.shocks in
    square (S1 k) +ᶠ square s2 +ᶠ square (S3 k) +ᶠ square (S4 k) +ᶠ square (S5 k) +ᶠ S6² k
    +ᶠ ((2 * k.shocks.correlation) // 1000) *ᶠ S1 k *ᶠ s2

-- "DEKKINGSTEKORT if 20 × A < 21 × L; else RESERVETEKORT if A < L + S; else VRIJ VERMOGEN", by A, L and a fraction that is S²
unfoldable pub judge_by_fraction : Fraction → Fraction → Fraction → Verdict
judge_by_fraction a l s² =
    if less (whole 20 *ᶠ a) (whole 21 *ᶠ l) then Dekkingstekort
    else if less (square (a ∸ᶠ l)) s² then Reservetekort
    else VrijVermogen

-- ---- the rounded working: "S2 to S5 round once.", euros and thousandths to cents
abbrev pub summed_equity_loss : Amounts → Shocks → End → ℕ
summed_equity_loss a x e =
    divide e
    (100
    * (a.mature * x.mature_fall + a.emerging * x.emerging_fall + a.private * x.private_fall + a.property * x.property_fall))
    1000

-- "S: floor and ceiling root from the lower or upper S1 to S6."
abbrev pub summed_buffer : FileCase → End → ℕ
summed_buffer k e =
    buffer e k.shocks.correlation (Rounded.S1 k e) (summed_equity_loss k.amounts k.shocks e) (Rounded.S3 k e) (Rounded.S4 k e)
    (Rounded.S5 k e) (Rounded.S6 k e)

-- ---- what holds of a case whose classes fall together
-- each fraction lies on the same side of S² as of that fraction, so what is compared "by squaring twice" is S; and the verdict is the same
pub record SummedExactly (k : FileCase) : Type 0 where
  pub exact_S2 : Exact.S2² k ≐ square (summed_loss k.amounts k.shocks)
  pub real : Real (summed_S² k)
  pub below : (q : Fraction) → q ≤ʳ Exact.S² k → q ≤ᶠ summed_S² k
  pub not_above : (q : Fraction) → q ≤ᶠ summed_S² k → q ≤ʳ Exact.S² k
  pub above : (q : Fraction) → Exact.S² k ʳ≤ q → summed_S² k ≤ᶠ q
  pub not_below : (q : Fraction) → summed_S² k ≤ᶠ q → Exact.S² k ʳ≤ q
  pub exact_verdict : Exact.verdict k ≡ judge_by_fraction (Exact.A k) (Exact.L k base) (summed_S² k)

-- in both workings
pub record Summed (k : FileCase) : Type 0 where
  pub rounded_S2 : (e : End) → Rounded.S2 k e ≡ summed_equity_loss k.amounts k.shocks e
  pub rounded_S : (e : End) → Rounded.S k e ≡ summed_buffer k e
  pub rounded_verdict : Rounded.verdict k ≡ Rounded.judge (Rounded.A k) (Rounded.L k base) (summed_buffer k)
  pub exact : SummedExactly k

-- of what is answered
pub record SummedValuation (k : FileCase) (v : Valuation) : Type 0 where
  pub s2 : (e : End) → end_of v.figures.s2 e ≡ summed_equity_loss k.amounts k.shocks e
  pub s : (e : End) → end_of v.figures.s e ≡ summed_buffer k e
  pub verdict : v.verdict ≡ Rounded.judge (Rounded.A k) (Rounded.L k base) (summed_buffer k)
  pub exact : SummedExactly k
