-- At a correlation of 1,000 thousandths the sum under the root of S2 is a square: that of the four class losses together. So S2 is their sum
-- in both workings, the exact S² is a fraction, and S and the verdict are those with that sum. Assumes nothing.
use Prim.Native.Nat.{ℕ, suc, ◌+◌, ◌*◌, ◌≤◌, ◌<◌}
use mathlib.Core.Path.{◌≡◌, sym, ap, ◌∙◌}
use mathlib.Core.Bool.{Bool, false, cond}
use mathlib.Core.List.{List}
use native.Mathlib.Omega.{arith}
use native.Mathlib.Nat.{mul-le-mul, mul-le-mul_right, le_of_mul-le-mul_right, le_antisymm, mul-pos}
use native.Mathlib.Decide.{dec_le}
use lib.Dec.{lit<}
use Rattle.arith.specs.Rounding.{End, low, high, divide}
use Rattle.arith.specs.Root.{root}
use Rattle.arith.proofs.Rounding.{divide-floor, divide-ceiling, divide-le, divide-common}
use Rattle.arith.proofs.Root.{unsquare, root-low-is, root-le, root-ceiling}
use Rattle.method.specs.Fraction.{Fraction, ◌//◌, ◌+ᶠ◌, ◌∸ᶠ◌, ◌*ᶠ◌, square, whole, less, ◌≈◌, ◌≐◌, ◌≤ᶠ◌, Rooted, RealRooted, ◌≤ʳ◌, ◌ʳ≤◌, rooted_at_most}
use Rattle.model.specs.Constants.{default_equity_correlation}
use Rattle.model.specs.Case.{FileCase}
use Rattle.model.specs.Layout.{stands, file_map, case_of}
use Rattle.model.specs.Limits.{WithinLimits}
use Rattle.model.specs.Refusals.{refusal}
use Rattle.model.specs.declared.figures.Figures.{Figures}
use Rattle.model.specs.declared.figures.Valuation.{Valuation}
use Rattle.model.specs.declared.figures.Verdict.{Verdict}
use Rattle.model.specs.declared.figures.Verdict.TheVariants.{Dekkingstekort, Reservetekort, VrijVermogen}
use Rattle.method.specs.Curve.{base}
use Rattle.method.specs.Exact as Exact
use Rattle.method.specs.Exact.{squares_of, pairs_of, loss}
use Rattle.method.specs.Rounded as Rounded
use Rattle.method.specs.Rounded.{class_squares, buffer}
use Rattle.method.specs.EquityClasses.{summed_loss, summed_S², judge_by_fraction, summed_equity_loss, summed_buffer, SummedExactly, Summed, SummedValuation}
use Rattle.theory.proofs.acceptance.Acceptance.{agrees-shown}
use Rattle.theory.proofs.curve.Bracket.{Bounded}
use Rattle.theory.proofs.curve.Steps.{sum, prod}
use Rattle.theory.proofs.general.ByEnds.{end_is}
use Rattle.theory.proofs.general.Conditions.{cond-le, cond-gt}
use Rattle.theory.proofs.money.Money.{tenths, class-squares-in, S1-den, S6-den, S-real}
use Rattle.theory.proofs.money.Rooted.{rooted-within, rooted-beyond, below-sum, sum_below, above-sum, sum-above}

-- ---- rounded

-- the root of n² hundredths is n tenths, rounded at an end
perfect : (e : End) (n : ℕ) → root e (1000 * (n * n)) 100000 ≡ divide e n 10
perfect low n =
    let q : ℕ = divide low n 10 in
    let d = divide-floor n 10 (lit< tt) in
    let l : q * 10 ≤ n = d.0 in
    let h : n + 1 ≤ (q + 1) * 10 = omega (arith, d.1) in
    sym (root-low-is (1000 * (n * n)) 100000 q (record { reaches = omega (arith, mul-le-mul l l); last = omega (arith, mul-le-mul h h) }))
perfect high n =
    let q : ℕ = divide high n 10 in
    let r : ℕ = root high (1000 * (n * n)) 100000 in
    let l : n ≤ q * 10 = (divide-ceiling n 10 (lit< tt)).0 in
    let tenfold : n ≤ r * 10 = unsquare n (r * 10) (omega (arith, (root-ceiling (1000 * (n * n)) 100000 (lit< tt)).covers)) in
    le_antisymm
    (root-le high (1000 * (n * n)) 100000 q (lit< tt) (omega (arith, mul-le-mul l l)))
    (divide-le high n 10 r (lit< tt) tenfold)

together : (m e v p : ℕ) → class_squares 1000 m e v p ≡ 1000 * ((m + e + v + p) * (m + e + v + p))
together m e v p = omega arith

rounded-sum : (end : End) (m e v p : ℕ) → root end (class_squares 1000 m e v p) 100000 ≡ divide end (100 * (m + e + v + p)) 1000
rounded-sum end m e v p =
    ap (λ (n : ℕ). root end n 100000) (together m e v p) ∙ perfect end (m + e + v + p)
    ∙ sym (divide-common end 100 (m + e + v + p) 10 (lit< tt) (lit< tt))

-- ---- exact

-- a number that bounds a fraction from both sides counts it exactly
counts : (u n : ℕ) (x : Fraction) → ((e : End) → Bounded e u n x) → n * x.den ≡ u * x.num
counts u n x h = le_antisymm (h low).is.le (h high).is.le

same-counted : (n : ℕ) (x y : Fraction) → 1000 * n * x.den ≡ 100000 * x.num → n * y.den ≡ 100 * y.num → x ≈ y
same-counted n x y h k = omega (arith, ap (λ (z : ℕ). z * y.den) h, ap (λ (z : ℕ). z * x.den) k)

exact-sum : (m e v p : ℕ) (a b c d : Fraction)
    → ((end : End) → Bounded end 10 m a) → ((end : End) → Bounded end 10 e b) → ((end : End) → Bounded end 10 v c) → ((end : End) → Bounded end 10 p d)
    → squares_of a b c d +ᶠ (2000 // 1000) *ᶠ pairs_of a b c d ≈ square (a +ᶠ b +ᶠ c +ᶠ d)
exact-sum m e v p a b c d ha hb hc hd =
    let n : ℕ = (m + e + v + p) * (m + e + v + p) in
    let under = squares_of a b c d +ᶠ (2000 // 1000) *ᶠ pairs_of a b c d in
    let before = square (a +ᶠ b +ᶠ c +ᶠ d) in
    let squares = counts 100000 (class_squares 1000 m e v p) under (λ end. class-squares-in 1000 (ha end) (hb end) (hc end) (hd end)) in
    let all : (end : End) → Bounded end 10 (m + e + v + p) (a +ᶠ b +ᶠ c +ᶠ d) = λ end. sum (sum (sum (ha end) (hb end)) (hc end)) (hd end) in
    let summed = counts 100 n before (λ end. prod (all end) (all end)) in
    same-counted n under before (ap (λ (z : ℕ). z * under.den) (sym (together m e v p)) ∙ squares) summed

-- ---- the exact S² where the square of S2 is that of a fraction

same-more : (a x y : Fraction) → x ≈ y → a +ᶠ x ≈ a +ᶠ y
same-more a x y h = omega (arith, ap (λ (z : ℕ). z * (a.den * a.den)) h)

same-with : (x y b : Fraction) → x ≈ y → x +ᶠ b ≈ y +ᶠ b
same-with x y b h = omega (arith, ap (λ (z : ℕ). z * (b.den * b.den)) h)

same-most : (q x y : Fraction) → 0 < x.den → x ≈ y → q ≤ᶠ x → q ≤ᶠ y
same-most q x y d h l =
    le_of_mul-le-mul_right {m = q.num * y.den} {n = y.num * q.den} {k = x.den}
    (omega (arith, mul-le-mul_right y.den l, ap (λ (z : ℕ). z * q.den) h)) d

same-least : (q x y : Fraction) → 0 < x.den → x ≈ y → x ≤ᶠ q → y ≤ᶠ q
same-least q x y d h l =
    le_of_mul-le-mul_right {m = y.num * q.den} {n = q.num * y.den} {k = x.den}
    (omega (arith, mul-le-mul_right y.den l, ap (λ (z : ℕ). z * q.den) h)) d

-- one of six squares, and the part with the correlation, by a fraction of the same square
six-same : (a x y b c d e f : Fraction) → x ≈ y → a +ᶠ x +ᶠ b +ᶠ c +ᶠ d +ᶠ e +ᶠ f ≈ a +ᶠ y +ᶠ b +ᶠ c +ᶠ d +ᶠ e +ᶠ f
six-same a x y b c d e f h =
    same-with (a +ᶠ x +ᶠ b +ᶠ c +ᶠ d +ᶠ e) (a +ᶠ y +ᶠ b +ᶠ c +ᶠ d +ᶠ e) f
    (same-with (a +ᶠ x +ᶠ b +ᶠ c +ᶠ d) (a +ᶠ y +ᶠ b +ᶠ c +ᶠ d) e
    (same-with (a +ᶠ x +ᶠ b +ᶠ c) (a +ᶠ y +ᶠ b +ᶠ c) d
    (same-with (a +ᶠ x +ᶠ b) (a +ᶠ y +ᶠ b) c
    (same-with (a +ᶠ x) (a +ᶠ y) b (same-more a x y h)))))

-- over variables, so that no closed denominator is worked out
module _ (r : Rooted) (real : RealRooted r) (y w : Fraction) (hy : 0 < y.den) (is : r.under ≈ square y)
    (hw : 0 < w.den) (same : r.plain +ᶠ r.factor *ᶠ y ≈ w) where
  summed-real : 0 < (r.plain +ᶠ r.factor *ᶠ y).den
  summed-real = mul-pos real.0 (mul-pos real.1 hy)

  root-below : (q : Fraction) → q ≤ʳ r → q ≤ᶠ w
  root-below q h = same-most q (r.plain +ᶠ r.factor *ᶠ y) w summed-real same (below-sum r y real hy is q h)

  root-not-above : (q : Fraction) → q ≤ᶠ w → q ≤ʳ r
  root-not-above q h = sum_below r y real hy is q (same-most q w (r.plain +ᶠ r.factor *ᶠ y) hw (sym same) h)

  root-above : (q : Fraction) → r ʳ≤ q → w ≤ᶠ q
  root-above q h = same-least q (r.plain +ᶠ r.factor *ᶠ y) w summed-real same (above-sum r y real hy is q h)

  root-not-below : (q : Fraction) → w ≤ᶠ q → r ʳ≤ q
  root-not-below q h = sum-above r y real hy is q (same-least q w (r.plain +ᶠ r.factor *ᶠ y) hw (sym same) h)

-- the verdict by a number that holds a root is that by a fraction on whose sides the same fractions lie
module _ (a l : Fraction) (r : Rooted) (w : Fraction) where
  abbrev surplus : Fraction
  surplus = square (a ∸ᶠ l)

  pub verdict-same : (r ʳ≤ surplus → w ≤ᶠ surplus) → (w ≤ᶠ surplus → r ʳ≤ surplus) → Exact.judge a l r ≡ judge_by_fraction a l w
  unfolding Exact.judge judge_by_fraction
  verdict-same above not-below =
      ap (λ (v : Verdict). cond (less (whole 20 *ᶠ a) (whole 21 *ᶠ l)) Dekkingstekort v)
      (go (dec_le (w.num * surplus.den) (surplus.num * w.den)))
    where
      go : Dec (w.num * surplus.den ≤ surplus.num * w.den)
          → cond (rooted_at_most r surplus) VrijVermogen Reservetekort ≡ cond (less surplus w) Reservetekort VrijVermogen
      go (yes h) =
          ap (λ (b : Bool). cond b VrijVermogen Reservetekort) (rooted-within r surplus (not-below h))
          ∙ sym (cond-gt (suc (surplus.num * w.den)) (w.num * surplus.den) Reservetekort VrijVermogen (omega (arith, h)))
      go (no h) =
          ap (λ (b : Bool). cond b VrijVermogen Reservetekort) (rooted-beyond r surplus (λ x. h (above x)))
          ∙ sym (cond-le (suc (surplus.num * w.den)) (w.num * surplus.den) Reservetekort VrijVermogen (omega (arith, h)))

-- ---- a case whose classes fall together

module _ (k : FileCase) (w : WithinLimits k) (one : k.shocks.equity_correlation ≡ default_equity_correlation) where
  S2-rounded : (e : End) → Rounded.S2 k e ≡ summed_equity_loss k.amounts k.shocks e
  S2-rounded e =
      let a = k.amounts in
      let x = k.shocks in
      rw one (rounded-sum e (a.mature * x.mature_fall) (a.emerging * x.emerging_fall) (a.private * x.private_fall) (a.property * x.property_fall))

  S-rounded : (e : End) → Rounded.S k e ≡ summed_buffer k e
  S-rounded e =
      ap (λ (s2 : ℕ). buffer e k.shocks.correlation (Rounded.S1 k e) s2 (Rounded.S3 k e) (Rounded.S4 k e) (Rounded.S5 k e) (Rounded.S6 k e))
      (S2-rounded e)

  S2-exact : Exact.S2² k ≐ square (summed_loss k.amounts k.shocks)
  S2-exact =
      let a = k.amounts in
      let x = k.shocks in (
        lit< tt,
        lit< tt,
        rw one
            (exact-sum (a.mature * x.mature_fall) (a.emerging * x.emerging_fall) (a.private * x.private_fall) (a.property * x.property_fall)
            (loss a.mature x.mature_fall) (loss a.emerging x.emerging_fall) (loss a.private x.private_fall) (loss a.property x.property_fall)
            (λ e. tenths a.mature x.mature_fall) (λ e. tenths a.emerging x.emerging_fall)
            (λ e. tenths a.private x.private_fall) (λ e. tenths a.property x.property_fall)),
      )

  S-same : (Exact.S² k).plain +ᶠ (Exact.S² k).factor *ᶠ summed_loss k.amounts k.shocks ≈ summed_S² k
  S-same =
      six-same (square (Exact.S1 k)) (Exact.S2² k) (square (summed_loss k.amounts k.shocks)) (square (Exact.S3 k)) (square (Exact.S4 k))
      (square (Exact.S5 k)) (Exact.S6² k) ((Exact.S² k).factor *ᶠ summed_loss k.amounts k.shocks) S2-exact.2

  S-summed-real : 0 < (summed_S² k).den
  S-summed-real =
      mul-pos
      (mul-pos (mul-pos (mul-pos (mul-pos (mul-pos (mul-pos (S1-den k w) (S1-den k w)) (lit< tt)) (lit< tt)) (lit< tt)) (lit< tt)) (S6-den k w))
      (mul-pos (mul-pos (lit< tt) (S1-den k w)) (lit< tt))

  S-below : (q : Fraction) → q ≤ʳ Exact.S² k → q ≤ᶠ summed_S² k
  S-below = root-below (Exact.S² k) (S-real k w) (summed_loss k.amounts k.shocks) (summed_S² k) (lit< tt) S2-exact.2 S-summed-real S-same

  S-not-above : (q : Fraction) → q ≤ᶠ summed_S² k → q ≤ʳ Exact.S² k
  S-not-above = root-not-above (Exact.S² k) (S-real k w) (summed_loss k.amounts k.shocks) (summed_S² k) (lit< tt) S2-exact.2 S-summed-real S-same

  S-above : (q : Fraction) → Exact.S² k ʳ≤ q → summed_S² k ≤ᶠ q
  S-above = root-above (Exact.S² k) (S-real k w) (summed_loss k.amounts k.shocks) (summed_S² k) (lit< tt) S2-exact.2 S-summed-real S-same

  S-not-below : (q : Fraction) → summed_S² k ≤ᶠ q → Exact.S² k ʳ≤ q
  S-not-below = root-not-below (Exact.S² k) (S-real k w) (summed_loss k.amounts k.shocks) (summed_S² k) (lit< tt) S2-exact.2 S-summed-real S-same

  summed-exactly : SummedExactly k
  summed-exactly = record {
    exact_S2 = S2-exact;
    real = S-summed-real;
    below = S-below;
    not_above = S-not-above;
    above = S-above;
    not_below = S-not-below;
    exact_verdict = verdict-same (Exact.A k) (Exact.L k base) (Exact.S² k) (summed_S² k) (S-above _) (S-not-below _);
  }

  verdict-rounded : Rounded.verdict k ≡ Rounded.judge (Rounded.A k) (Rounded.L k base) (summed_buffer k)
  unfolding Rounded.judge
  verdict-rounded = rw (S-rounded low, S-rounded high)

  pub summed : Summed k
  summed = record { rounded_S2 = S2-rounded; rounded_S = S-rounded; rounded_verdict = verdict-rounded; exact = summed-exactly }

  -- of what is answered
  pub summed-valuation : (v : Valuation) → v.figures ≡ Rounded.figures k → v.verdict ≡ Rounded.verdict k → SummedValuation k v
  summed-valuation v figures verdict = record {
    s2 = λ e. end_is v.figures.s2 (Rounded.S2 k) (ap (λ (y : Figures). y.s2) figures) e ∙ S2-rounded e;
    s = λ e. end_is v.figures.s (Rounded.S k) (ap (λ (y : Figures). y.s) figures) e ∙ S-rounded e;
    verdict = verdict ∙ verdict-rounded;
    exact = summed-exactly;
  }

-- a file without the field
pub absent-together : (file : List ℕ) → refusal file ≡ 0 → stands 8 (file_map file) ≡ false
    → (case_of file).shocks.equity_correlation ≡ default_equity_correlation
absent-together file h absent = (agrees-shown file h).equity_absent absent
