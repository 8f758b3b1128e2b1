-- The bridge from the case of a file to the engine's: the struct that holds a case within the limits is in range, and what is worked
-- out of it is the rounded working of that case. Assumes nothing.
use Prim.Native.Nat.{ℕ}
use mathlib.Core.Path.{◌≡◌, ap, ◌∙◌, fun_ext}
use mathlib.Core.List.{List, ◌++◌}
use native.Mathlib.Omega.{arith}
use lib.IntN.{ℤ}
use lib.ListN.{drop}
use Rattle.std.specs.Prelude.{None, Result, Ok}
use Rattle.refusal.specs.declared.Refusal.{Refusal}
use Rattle.arith.specs.Rounding.{End}
use Rattle.model.specs.Constants.{last_term}
use Rattle.model.specs.Case.{FileCase}
use Rattle.model.specs.Limits.{WithinLimits}
use Rattle.method.specs.Curve.{Move, base, curve}
use Rattle.heldcase.specs.Held.{held}
use Rattle.method.specs.Buffers.{by_term, factor_entries, rate_entries, written, answered}
use Rattle.method.specs.Rounded as Rounded
use Rattle.method.specs.Rounded.{rate_of}
use Rattle.heldcase.specs.declared.Case.{Case}
use Rattle.model.specs.declared.figures.Valuation.{Valuation}
use Rattle.theory.proofs.curve.CaseCurves.{curve-within}
use Rattle.theory.proofs.curve.Agree.{same-unadjusted}
use Rattle.theory.proofs.money.Worth.{same-worth}
use Rattle.curves.specs.inner.Shifted.{curve_held}
use Rattle.working.proofs.HeldCurves.{held-per-step-most, held-agree, held-curve-within, held-base-within, held-factor}
use Rattle.money.specs.inner.ByWorths.{money_by}
use Rattle.working.specs.inner.Ranges.{CaseFits}
use Rattle.working.specs.inner.Working.{factors_on, rates_on, owed, bonds, money_of}

abbrev ok_of : Valuation → Result Valuation Refusal
ok_of v = Ok v

module _ (k : FileCase) (w : WithinLimits k) where
  pub held_fits : CaseFits (held k)
  unfolding held
  held_fits = record {
    per_step = held-per-step-most k w;
    curves = held-curve-within k w;
    base = held-base-within k w;
    pension = record { few = w.most_pension; flow = w.pension.each };
    bonds = record { few = omega (arith, w.most_bonds); flow = w.bonds.each };
    bond_terms = w.most_bonds;
    amounts = w.amounts;
    shocks = w.shocks;
    people = w.people;
  }

  owed-is : ◌≡◌ {A = Move → End → ℕ} (owed (λ m. Rounded.factor (curve_held (held k) m)) (held k)) (Rounded.L k)
  unfolding held
  owed-is = ap (λ (f : Move → End → ℕ → ℕ). (λ (m : Move) (e : End). Rounded.worth e (f m e) 1 k.pension)) (fun_ext (λ m. held-factor k w m))

  bonds-at : (m : Move) (e : End) → Rounded.worth e (Rounded.unadjusted (curve_held (held k) m) e) 1 k.bonds ≡ Rounded.B k m e
  bonds-at m e =
      same-worth 60 e (Rounded.unadjusted (curve_held (held k) m) e) (Rounded.unadjusted (curve k m) e)
      (λ t i l. same-unadjusted 1 (curve_held (held k) m) (curve k m) (held-agree k w m) (curve-within k w m) e t l) 1 k.bonds (omega arith) (omega (arith, w.most_bonds))

  bonds-are : ◌≡◌ {A = Move → End → ℕ} (bonds (λ m. Rounded.unadjusted (curve_held (held k) m)) (held k)) (Rounded.B k)
  unfolding held
  bonds-are = fun_ext (λ m. fun_ext (λ e. bonds-at m e))

  pub held-money : money_of (held k) ≡ record { figures = Rounded.figures k; verdict = Rounded.verdict k }
  unfolding held
  held-money =
      ap (λ (l : Move → End → ℕ). money_by l (bonds (λ m. Rounded.unadjusted (curve_held (held k) m)) (held k)) k.amounts k.shocks k.people) owed-is
      ∙ ap (λ (b : Move → End → ℕ). money_by (Rounded.L k) b k.amounts k.shocks k.people) bonds-are

  pub held-factors : factors_on (held k) base ≡ factor_entries k
  unfolding factor_entries
  held-factors = ap (λ (f : End → ℕ → ℕ). by_term f last_term) (held-factor k w base)

  pub held-rates : rates_on (held k) ≡ rate_entries k
  unfolding rate_entries
  held-rates = ap (λ (f : End → ℕ → ℕ). by_term (rate_of f) last_term) (held-factor k w base)

  -- what `value_into` answers and leaves in both buffers, of a struct that holds the case
  pub held-valued : (f₀ : List ℕ) (z₀ : List ℤ) {c : Case} {v : Valuation} {factors : List ℕ} {rates : List ℤ} → c ≡ held k
      → v ≡ money_of c
      → factors ≡ factors_on c base ++ drop 240 f₀
      → rates ≡ rates_on c ++ drop 240 z₀
      → (Ok v ≡ answered None k) × ((factors ≡ written None (factor_entries k) f₀) × (rates ≡ written None (rate_entries k) z₀))
  held-valued f₀ z₀ is p q r =
      let answer = ap ok_of (p ∙ ap money_of is ∙ held-money) in
      let factors = q ∙ ap (λ (l : List ℕ). l ++ drop 240 f₀) (ap (λ (c : Case). factors_on c base) is ∙ held-factors) in
      let rates = r ∙ ap (λ (l : List ℤ). l ++ drop 240 z₀) (ap rates_on is ∙ held-rates) in
      (answer, (factors, rates))
