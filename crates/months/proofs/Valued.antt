-- The case that is valued is the one that holds the file's case with the UFR found: of all that the engine holds, only the UFR is another.
-- So the answer of `value_with_months` and both buffers are what the rounded working of that case says. Assumes nothing.
use Prim.Native.Nat.{ℕ, suc, ◌≤◌, ◌<◌}
use mathlib.Core.Path.{◌≡◌, refl, ap, ap₂, sym, ◌∙◌, subst}
use mathlib.Core.Bool.{false, ◌&&◌}
use mathlib.Core.List.{List, ◌++◌}
use borrow.Author.Tests.{le-leb, lt-leb}
use lib.Dec.{leb}
use lib.IntN.{ℤ}
use lib.ListN.{length, get_or, drop}
use mir.Syntax.{w8}
use mir.Val.{Fits}
use Rattle.std.proofs.lemmas.Bool.{and_right}
use Rattle.std.specs.Prelude.{Option, Some, None, Result, Ok, Err}
use Rattle.std.specs.Result.{result_unwrap_or, result_err}
use Rattle.method.specs.Buffers.{valuation_checks}
use Rattle.model.specs.Case.{FileCase, per_step, with_ufr}
use Rattle.method.specs.Curve.{base, curve, P}
use Rattle.heldcase.specs.Held.{held}
use Rattle.model.specs.Layout.{case_of}
use Rattle.model.specs.Limits.{WithinLimits}
use Rattle.monthsmodel.specs.Months.{history_checks, ufr_found, found_or, ufr_answer, months_checks, months_case, months_valuation, months_factors_after, months_rates_after}
use Rattle.monthsmodel.specs.Promises.{MonthsCall}
use Rattle.model.specs.Refusals.{failing, checks}
use Rattle.heldcase.specs.declared.Case.{Case}
use Rattle.model.specs.declared.figures.Valuation.{Valuation}
use Rattle.theory.proofs.curve.Changed.{ufr-P}
use Rattle.theory.proofs.general.Lists.{table_same}
use Rattle.theory.proofs.months.Valued.{own_first, history-after, within-limits}
use Rattle.theory.proofs.months.Promised.{months_call}
use Rattle.reader.proofs.Exactly.{slice-bytes}
use Rattle.refusal.specs.declared.Refusal.{Refusal}
use Rattle.refusal.specs.declared.Refusal.TheVariants.{Buffers}
use Rattle.working.specs.inner.Ranges.{CaseFits}
use Rattle.working.specs.inner.Working.{factors_on, rates_on, money_of}
use Rattle.working.proofs.HeldCase.{held_fits, held-valued}
use Rattle.months.specs.inner.Changed.{changed}

-- ---- the case with another UFR

changed-held : (ufr : ℕ) (k : FileCase) → changed ufr (held k) ≡ held (with_ufr ufr k)
unfolding held per_step
changed-held ufr k =
    rw (table_same (λ i. P (curve k base) (suc i)) (λ i. P (curve (with_ufr ufr k) base) (suc i)) 60 (λ i l. sym (ufr-P ufr k base (suc i))))

-- of a lent slice: its element type says of each entry that it is a byte
pub call-of-slice : (file history : List ℕ) (start : ℕ) (factors : List ℕ) (rates : List ℤ) → ((i : ℕ) → Fits w8 (get_or file i 0))
    → MonthsCall file history start factors rates
call-of-slice file history start factors rates known = months_call file (slice-bytes file known) history start factors rates

-- ---- what a history gives

found_of : (o : Option Refusal) (ufr n : ℕ) → found_or o ufr ≡ Ok n → (o ≡ None) × (ufr ≡ n)
found_of None ufr n e = (refl, ap (λ (a : Result ℕ Refusal). result_unwrap_or a 0) e)
found_of (Some r) ufr n e = cc

refused-of : (o : Option Refusal) (ufr : ℕ) (r : Refusal) → found_or o ufr ≡ Err r → o ≡ Some r
refused-of None ufr r e = cc
refused-of (Some s) ufr r e = ap (λ (a : Result ℕ Refusal). result_err a) e

module _ {file history : List ℕ} {start : ℕ} {f₀ : List ℕ} {z₀ : List ℤ} (call : MonthsCall file history start f₀ z₀) where
  abbrev first : Option Refusal
  first = failing (months_checks file history start (length f₀) (length z₀))

  -- the contract of `value_with_months`: the answer, both buffers at the end, and what holds of every call
  abbrev pub Meets : Result Valuation Refusal → List ℕ → List ℤ → Type 0
  Meets answer fs zs = record {
    value : answer ≡ months_valuation file history start (length f₀) (length z₀);
    factors : fs ≡ months_factors_after file history start f₀ z₀;
    rates : zs ≡ months_rates_after file history start f₀ z₀;
    call : MonthsCall file history start f₀ z₀;
  }

  refused-with : (r : Refusal) → first ≡ Some r → Meets (Err r) f₀ z₀
  unfolding months_valuation months_factors_after months_rates_after
  refused-with r e = record { value = rw e; factors = rw e; rates = rw e; call = call }

  short : (leb 240 (length f₀) && leb 240 (length z₀)) ≡ false → Meets (Err Buffers) f₀ z₀
  short h = refused-with Buffers (rw h)

  pub short-factors : length f₀ < 240 → Meets (Err Buffers) f₀ z₀
  short-factors h = short (rw (lt-leb 240 (length f₀) h))

  pub short-rates : length z₀ < 240 → Meets (Err Buffers) f₀ z₀
  short-rates h = short (and_right (leb 240 (length f₀)) (leb 240 (length z₀)) (lt-leb 240 (length z₀) h))

  module _ (hf : 240 ≤ length f₀) (hz : 240 ≤ length z₀) where
    own : failing (valuation_checks (length f₀) (length z₀) file) ≡ failing (checks file)
    own = rw (le-leb 240 (length f₀) hf, le-leb 240 (length z₀) hz)

    pub refused-file : (e : Refusal) → Some e ≡ failing (checks file) → Meets (Err e) f₀ z₀
    refused-file e k = refused-with e (own_first file history start (length f₀) (length z₀) e (own ∙ sym k))

    module _ (accepted : None ≡ failing (checks file)) {found : Result ℕ Refusal} (given : found ≡ ufr_answer history start) where
      later : first ≡ failing (history_checks history start)
      later = history-after file history start (length f₀) (length z₀) (own ∙ sym accepted)

      pub refused-history : (r : Refusal) → found ≡ Err r → Meets (Err r) f₀ z₀
      unfolding ufr_answer
      refused-history r e = refused-with r (later ∙ refused-of (failing (history_checks history start)) (ufr_found history) r (sym given ∙ e))

      module _ {ufr : ℕ} {case : Case} (e : found ≡ Ok ufr) {k : Case} (holds : k ≡ held (case_of file)) (made : case ≡ changed ufr k) where
        none : (first ≡ None) × (ufr_found history ≡ ufr)
        unfolding ufr_answer
        none =
            let (is, steps) = found_of (failing (history_checks history start)) (ufr_found history) ufr (sym given ∙ e) in
            (later ∙ is, steps)

        case-holds : case ≡ held (months_case file history)
        case-holds =
            made ∙ ap₂ changed (sym none.1) holds ∙ changed-held (ufr_found history) (case_of file)

        limits : WithinLimits (months_case file history)
        limits = within-limits file history start (length f₀) (length z₀) none.0

        pub case-fits : CaseFits case
        case-fits = subst CaseFits (sym case-holds) (held_fits (months_case file history) limits)

        pub valued-months : {v : Valuation} {factors : List ℕ} {rates : List ℤ}
            → v ≡ money_of case
            → factors ≡ factors_on case base ++ drop 240 f₀
            → rates ≡ rates_on case ++ drop 240 z₀
            → Meets (Ok v) factors rates
        unfolding months_valuation months_factors_after months_rates_after
        valued-months p q t =
            let (x, (y, z)) = held-valued (months_case file history) limits f₀ z₀ case-holds p q t in
            record { value = rw none.0 x; factors = rw none.0 y; rates = rw none.0 z; call = call }
