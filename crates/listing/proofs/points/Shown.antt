-- The window shows every factor and every money figure of a case within the limits: none of its points 1 to 130 is blank.
-- Assumes nothing.
use mathlib.Core.Path.{◌≡◌, refl, ap, ◌∙◌}
use mathlib.Core.List.{List, ◌++◌}
use Prim.Native.Nat.{ℕ, zero, suc, ◌*◌, ◌-◌, ◌^◌, ◌≤◌, ◌<◌}
use native.Mathlib.Nat.{le_trans}
use native.Mathlib.Omega.{arith}
use lib.Dec.{lit≤}
use lib.IntN.{ℤ}
use lib.ListN.{length, drop, get_or, length-append}
use Rattle.arith.specs.Rounding.{End, low, high}
use Rattle.model.specs.Case.{FileCase}
use Rattle.model.specs.Limits.{WithinLimits}
use Rattle.method.specs.Curve.{base, curve}
use Rattle.method.specs.Rounded as Rounded
use Rattle.arith.specs.Brackets.{bracket}
use Rattle.model.specs.Layout.{case_of}
use Rattle.model.specs.Refusals.{refusal}
use Rattle.method.specs.Buffers.{by_term, factor_entries, factors_after, valuation_checks, valuation_refusal}
use Rattle.method.specs.Window.{double, figures_in_order, factor_point, factor_bracket}
use Rattle.arith.specs.declared.bracket.Bracket.{Bracket}
use Rattle.model.specs.declared.figures.Figures.{Figures}
use Rattle.model.specs.declared.window.Point.TheVariants.{Factor, Money}
use Rattle.theory.proofs.acceptance.Acceptance.{within-limits}
use Rattle.theory.proofs.acceptance.Checks.{none-hold, hold-none, none-fails}
use Rattle.theory.proofs.curve.CaseCurves.{curve-within}
use Rattle.theory.proofs.money.MoneySizes.{factor-most, L-most, B-most, A-most, S1-most, S2-most, S3-most, S4-most, S5-most, S6-most, S-most}
use Rattle.listing.specs.Shown.{FactorShown, MoneyShown, Shown, ShownAfterValuations}
use Rattle.listing.proofs.points.Whole.{holds}
use Rattle.listing.proofs.points.ByNumber as ByNumber
use Rattle.listing.proofs.points.ByNumber.{no_bracket, none-shown, later-shown, factor-shown, money-shown}
use Rattle.theory.proofs.general.Entries.{length-by_term, lower_in, upper_in}

figure-shown : (f : Figures) (figure : End → ℕ) (p : ℕ) → 120 < p → p ≤ 130
    → bracket figure ≡ get_or (figures_in_order f) (p - 121) no_bracket → ((e : End) → figure e ≤ 2 ^ 53) → MoneyShown p f figure
figure-shown f figure p least most is small = record {
  point = λ lent.
      money-shown lent f p (bracket figure) least most is
      ∙ ByNumber.held (bracket figure) (Money (double (figure low)) (double (figure high))) (small low) (small high);
  whole = λ e. holds (figure e) (small e);
}

-- the factors' entries, whatever follows them
module _ (f : End → ℕ → ℕ) (rest : List ℕ) where
  entries-lent : (t : ℕ) → t ≤ 120 → 2 * t ≤ length (by_term f 120 ++ rest)
  entries-lent t h = omega (arith, length-append (by_term f 120) rest, length-by_term f 120)

  entry-bracket : (t : ℕ) → t < 120 → factor_bracket (by_term f 120 ++ rest) (suc t) ≡ bracket (λ e. f e (suc t))
  entry-bracket t h =
      let e : suc t - 1 ≡ t = omega arith in
      rw (e, lower_in f 120 rest 0 t h, upper_in f 120 rest 0 t h)

  term-shown : (figures : Figures) (t : ℕ) → 1 ≤ t → t ≤ 120 → ((e : End) → f e t ≤ 2 ^ 53) → FactorShown t (by_term f 120 ++ rest) figures (λ e. f e t)
  term-shown figures zero least most small = absurd (let z : ⊥ = omega arith in z)
  term-shown figures (suc t) least most small = record {
    point =
        factor-shown (by_term f 120 ++ rest) figures (suc t) least most (entries-lent (suc t) most)
        ∙ ap (λ (b : Bracket). factor_point b) (entry-bracket t most)
        ∙ ByNumber.held (bracket (λ e. f e (suc t))) (Factor (double (f low (suc t))) (double (f high (suc t)))) (small low) (small high);
    whole = λ e. holds (f e (suc t)) (small e);
  }

pub shown : (k : FileCase) → WithinLimits k → (rest : List ℕ) → Shown k (factor_entries k ++ rest)
unfolding factor_entries
shown k w rest =
    let f = Rounded.figures k in
    record {
      factor = λ t least most.
          term-shown (Rounded.factor (curve k base)) rest f t least most (λ e. le_trans (factor-most (curve k base) (curve-within k w base) e t) (lit≤ tt));
      l = figure-shown f (Rounded.L k base) 121 (lit≤ tt) (lit≤ tt) refl (λ e. le_trans (L-most k w base e) (lit≤ tt));
      b = figure-shown f (Rounded.B k base) 122 (lit≤ tt) (lit≤ tt) refl (λ e. le_trans (B-most k w base e) (lit≤ tt));
      a = figure-shown f (Rounded.A k) 123 (lit≤ tt) (lit≤ tt) refl (λ e. le_trans (A-most k w e) (lit≤ tt));
      s1 = figure-shown f (Rounded.S1 k) 124 (lit≤ tt) (lit≤ tt) refl (λ e. le_trans (S1-most k w e) (lit≤ tt));
      s2 = figure-shown f (Rounded.S2 k) 125 (lit≤ tt) (lit≤ tt) refl (λ e. le_trans (S2-most k w e) (lit≤ tt));
      s3 = figure-shown f (Rounded.S3 k) 126 (lit≤ tt) (lit≤ tt) refl (λ e. le_trans (S3-most k w e) (lit≤ tt));
      s4 = figure-shown f (Rounded.S4 k) 127 (lit≤ tt) (lit≤ tt) refl (λ e. le_trans (S4-most k w e) (lit≤ tt));
      s5 = figure-shown f (Rounded.S5 k) 128 (lit≤ tt) (lit≤ tt) refl (λ e. le_trans (S5-most k w e) (lit≤ tt));
      s6 = figure-shown f (Rounded.S6 k) 129 (lit≤ tt) (lit≤ tt) refl (λ e. le_trans (S6-most k w e) (le_trans (L-most k w base e) (lit≤ tt)));
      s = figure-shown f (Rounded.S k) 130 (lit≤ tt) (lit≤ tt) refl (λ e. le_trans (S-most k w e) (lit≤ tt));
      none = λ lent. none-shown lent f 0 (lit≤ tt);
      later = λ lent. later-shown lent f;
    }

-- after a file was accepted and valued, the lent buffer of factors is such a buffer
pub shown-after : (file factors : List ℕ) (rates : List ℤ) → valuation_refusal (length factors) (length rates) file ≡ 0
    → Shown (case_of file) (factors_after file factors rates)
unfolding factors_after valuation_refusal refusal
shown-after file factors rates h =
    let checks = valuation_checks (length factors) (length rates) file in
    rw (none-fails checks h) (shown (case_of file) (within-limits file (hold-none _ (none-hold checks h).1)) (drop 240 factors))

pub points_are_shown_after_valuations : ShownAfterValuations
points_are_shown_after_valuations = record { shown = shown-after }
