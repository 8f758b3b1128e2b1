-- The numbers of a case as the engine holds it are those of the case. Assumes nothing.
use Rattle.std.proofs.Common.{◌≡◌, ◌∙◌, ℕ, ◌≤◌, ◌*◌, ◌/◌, Bool, true, false, List, All, length, sum, cond, eqb, ap, sym, subst, arith, refl}
use Rattle.std.proofs.Math.Nat.{mul-div_cancel_left}
use Rattle.std.proofs.lemmas.Grind.{get_or_default_zero}
use Rattle.model.specs.Case.{FileCase, units_per_step, per_step, all_except_currency}
use Rattle.model.specs.Limits.{WithinLimits, FlowsWithin, AmountsWithin}
use Rattle.model.specs.Layout.{case_of, stands, file_map, rate_bytes_in}
use Rattle.heldcase.specs.Held.{held}
use Rattle.heldcase.specs.declared.Case.{Case}
use Rattle.report.specs.Numbered.{own_numbers}
use Rattle.report.specs.declared.numbers.UfrSource.{UfrSource}
use Rattle.report.specs.declared.numbers.UfrSource.TheVariants as source

abbrev FlowsFit : List ℕ → Type 0
FlowsFit flows = (length flows ≤ 120) × All (λ flow. flow ≤ 100000000) flows

every-flow : (flows : List ℕ) → FlowsWithin flows → All (λ flow. flow ≤ 100000000) flows
every-flow flows within i d l = subst (λ n. n ≤ 100000000) (sym (get_or_default_zero flows i d l)) (within.each i l)

module _ (k : FileCase) (within : WithinLimits k) (one : Case) (holds : one ≡ held k) where
  pub pension-fits : (flows : List ℕ) → flows ≡ one.pension → FlowsFit flows
  unfolding held
  pension-fits flows e = subst FlowsFit (sym (e ∙ ap (λ x. x.pension) holds)) (within.most_pension, every-flow k.pension within.pension)

  pub bonds-fit : (flows : List ℕ) → flows ≡ one.bonds → FlowsFit flows
  unfolding held
  bonds-fit flows e = subst FlowsFit (sym (e ∙ ap (λ x. x.bonds) holds)) (omega (arith, within.most_bonds), every-flow k.bonds within.bonds)

  pub amounts-fit : AmountsWithin one.amounts
  unfolding held
  amounts-fit = subst AmountsWithin (sym (ap (λ x. x.amounts) holds)) within.amounts

quotient : (b : Bool) (n : ℕ) → cond b 100 1 * n / cond b 100 1 ≡ n
quotient true n = mul-div_cancel_left n (omega arith)
quotient false n = mul-div_cancel_left n (omega arith)

rate-bytes : (file : List ℕ) → (case_of file).rate_bytes ≡ rate_bytes_in (file_map file)
unfolding case_of
rate-bytes file = refl

days-held : (k : FileCase) (one : Case) → one ≡ held k → (w : ℕ) → w ≡ k.rate_bytes → one.per_step / units_per_step w ≡ length k.days
unfolding held per_step
days-held k one holds w e = rw (holds, e) (quotient (eqb k.rate_bytes 4) (length k.days))

-- what was found, each by itself, is what the case of the file tells
pub own : (file : List ℕ) (one : Case) → one ≡ held (case_of file) → (from : UfrSource) → from ≡ cond (stands 0 (file_map file)) source.File source.Default
    → (w : ℕ) → w ≡ rate_bytes_in (file_map file) → (days : ℕ) → days ≡ one.per_step / units_per_step w
    → (pension : List ℕ) → pension ≡ one.pension → (pension_sum : ℕ) → pension_sum ≡ sum pension
    → (bonds : List ℕ) → bonds ≡ one.bonds → (bond_sum : ℕ) → bond_sum ≡ sum bonds → (assets : ℕ) → assets ≡ all_except_currency one.amounts
    → record {
      ufr = one.ufr;
      ufr_source = from;
      rate_bytes = w;
      days = days;
      pension_flows = length pension;
      pension_sum = pension_sum;
      bond_flows = length bonds;
      bond_sum = bond_sum;
      assets_sum = assets;
    } ≡ own_numbers file
unfolding held
own file one holds from is_from w is_w days is_days pension is_pension pension_sum is_pension_sum bonds is_bonds bond_sum is_bond_sum assets is_assets =
    let rate : w ≡ (case_of file).rate_bytes = is_w ∙ sym (rate-bytes file) in
    let some : days ≡ length (case_of file).days = is_days ∙ days-held (case_of file) one holds w rate in
    rw (is_from, some, rate, is_pension_sum, is_bond_sum, is_assets, is_pension, is_bonds, holds) refl
