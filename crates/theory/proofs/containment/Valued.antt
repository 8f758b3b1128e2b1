-- What is promised of a case within the limits that a call values into two buffers, and the number of an answer. Assumes nothing.
use Prim.Native.Nat.{ℕ, ◌≤◌}
use mathlib.Core.Path.{◌≡◌, refl, ap, sym, ◌∙◌}
use mathlib.Core.List.{List, ◌++◌}
use lib.IntN.{ℤ, pos}
use lib.ListN.{length, drop}
use lib.Seq.{drop_at}
use Rattle.std.specs.Prelude.{Option, Some, None, Result, Ok}
use Rattle.refusal.specs.Numbered.{number_in}
use Rattle.refusal.specs.declared.Refusal.{Refusal}
use Rattle.arith.specs.Rounding.{End}
use Rattle.model.specs.Constants.{default_equity_correlation}
use Rattle.model.specs.Case.{FileCase}
use Rattle.model.specs.Limits.{WithinLimits}
use Rattle.method.specs.Curve.{base, curve}
use Rattle.method.specs.Rounded as Rounded
use Rattle.method.specs.Buffers.{by_term, factor_entries, rate_entries, answered, refusal_number}
use Rattle.model.specs.declared.figures.Valuation.{Valuation}
use Rattle.method.specs.EquityClasses.{SummedValuation}
use Rattle.method.specs.Promises.{given, CaseValued}
use Rattle.theory.proofs.general.Entries.{length-by_term, lower_in, upper_in}
use Rattle.theory.proofs.containment.Proved.{containment}
use Rattle.theory.proofs.money.EquityClasses.{summed-valuation}
use Rattle.theory.proofs.containment.Written.{figures_or, verdict_or, written-rounded}

-- the number of an answer
pub answered-number : (o : Option Refusal) (k : FileCase) → refusal_number (answered o k) ≡ number_in o
answered-number None k = refl
answered-number (Some r) k = refl

-- what follows the entries of the terms
later : {A : Type 0} (f : End → ℕ → A) (rest : List A) → drop 240 (by_term f 120 ++ rest) ≡ rest
later f rest = drop_at (by_term f 120) rest 240 (length-by_term f 120)

-- where the equity classes fall together, by the figures and the verdict that are answered
pub answer-summed : (k : FileCase) → WithinLimits k → k.shocks.equity_correlation ≡ default_equity_correlation
    → (v : Valuation) → Ok v ≡ answered None k → SummedValuation k v
answer-summed k w one v is = summed-valuation k w one v (ap (figures_or v.figures) is) (ap (verdict_or v.verdict) is)

pub case-valued : (k : FileCase) → WithinLimits k → {factors : List ℕ} {rates : List ℤ} → 240 ≤ length factors → 240 ≤ length rates
    → {answer : Result Valuation Refusal} {factors_after : List ℕ} {rates_after : List ℤ}
    → answer ≡ answered None k → factors_after ≡ factor_entries k ++ drop 240 factors → rates_after ≡ rate_entries k ++ drop 240 rates
    → CaseValued k answer factors factors_after rates rates_after
unfolding factor_entries rate_entries
case-valued k limits {factors} {rates} long other_long {answer} {factors_after} {rates_after} e f z =
    let factor = Rounded.factor (curve k base) in
    let rate = Rounded.zero_rate (curve k base) in
    record {
      factors_enough = long;
      rates_enough = other_long;
      within = limits;
      answered = e;
      lower_factor = λ t l. rw f (lower_in factor 120 (drop 240 factors) 0 t l);
      upper_factor = λ t l. rw f (upper_in factor 120 (drop 240 factors) 0 t l);
      lower_rate = λ t l. rw z (lower_in rate 120 (drop 240 rates) (pos 0) t l);
      upper_rate = λ t l. rw z (upper_in rate 120 (drop 240 rates) (pos 0) t l);
      later_factors = rw f (later factor (drop 240 factors));
      later_rates = rw z (later rate (drop 240 rates));
      containment_and_width = λ v a. containment k limits (given v factors_after rates_after)
          (written-rounded k v factors_after (drop 240 factors) rates_after (drop 240 rates) (sym a ∙ e) f z);
      summed = λ one v a. answer-summed k limits one v (sym a ∙ e);
    }
