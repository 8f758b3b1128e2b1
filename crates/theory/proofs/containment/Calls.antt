-- What holds of every call that values a file: of every list of bytes, and of all buffers. Assumes nothing.
use Prim.Native.Nat.{ℕ, ◌≤◌}
use mathlib.Core.Path.{◌≡◌, refl, ap, sym, ◌∙◌}
use mathlib.Core.Bool.{Bool, true, false, ◌&&◌}
use mathlib.Core.List.{List, ◌∷◌, ◌++◌}
use borrow.Author.Tests.{leb-true, le-leb}
use lib.Dec.{leb}
use lib.IntN.{ℤ}
use lib.ListN.{length, drop}
use Rattle.std.specs.Cmp.{first_so, second_so}
use Rattle.std.specs.Prelude.{Some, None, Ok, Err}
use Rattle.refusal.specs.declared.Refusal.{Refusal}
use Rattle.refusal.specs.declared.Refusal.TheVariants.{Buffers}
use Rattle.model.specs.Numbers.{Bytes}
use Rattle.model.specs.Fields.{Check}
use Rattle.model.specs.Layout.{stands, file_map, case_of}
use Rattle.model.specs.Refusals.{failing, first_of, checks, refusal}
use Rattle.method.specs.Rounded as Rounded
use Rattle.method.specs.Containment.{ContainmentAndWidth}
use Rattle.method.specs.Buffers.{valuation_checks, valuation_refusal, factor_entries, rate_entries, factors_after, rates_after, answered, valuation_of}
use Rattle.method.specs.EquityClasses.{SummedValuation}
use Rattle.method.specs.Promises.{figures_given, RefusedCall, AcceptedCall, AcceptedExactly, Call, FiguresCall}
use Rattle.model.specs.declared.figures.Valuation.{Valuation}
use Rattle.theory.proofs.acceptance.Acceptance.{accepted-none, refusal-number, accepted-keeps, keeps-accepted, within-limits}
use Rattle.theory.proofs.acceptance.Checks.{none-hold, hold-none, none-fails, first-fails}
use Rattle.theory.proofs.money.EquityClasses.{absent-together}
use Rattle.theory.proofs.containment.Files.{containment-of-files}
use Rattle.theory.proofs.containment.Valued.{answered-number, answer-summed, case-valued}
use Rattle.theory.proofs.containment.Written.{no-refusal, figures_or, verdict_or}

-- with both buffers long enough, a valuation has the refusal of its file
passes : (b : Bool) (rest : List Check) → b ≡ true → failing ((b, Buffers) ∷ rest) ≡ failing rest
passes b rest e = rw e

pub own-refusal : (file f₀ : List ℕ) (z₀ : List ℤ) → 240 ≤ length f₀ → 240 ≤ length z₀
    → failing (valuation_checks (length f₀) (length z₀) file) ≡ failing (checks file)
own-refusal file f₀ z₀ hf hz =
    passes (leb 240 (length f₀) && leb 240 (length z₀)) (checks file) (rw (le-leb 240 (length f₀) hf, le-leb 240 (length z₀) hz))

module _ (file : List ℕ) (factors : List ℕ) (rates : List ℤ) where
  enough : valuation_refusal (length factors) (length rates) file ≡ 0 → (240 ≤ length factors) × (240 ≤ length rates) × (refusal file ≡ 0)
  unfolding valuation_refusal refusal
  enough h =
      let p = none-hold (valuation_checks (length factors) (length rates) file) h in (
        leb-true 240 (length factors) (first_so (leb 240 (length factors)) (leb 240 (length rates)) p.0),
        leb-true 240 (length rates) (second_so (leb 240 (length factors)) (leb 240 (length rates)) p.0),
        hold-none (checks file) p.1,
      )

  pub refused-call : (r : Refusal) → failing (valuation_checks (length factors) (length rates) file) ≡ Some r → RefusedCall r file factors rates
  unfolding valuation_of factors_after rates_after
  refused-call r e = record { answered = rw e; factors_kept = rw e; rates_kept = rw e }

  module _ (h : valuation_refusal (length factors) (length rates) file ≡ 0) where
    none-refused : failing (valuation_checks (length factors) (length rates) file) ≡ None
    unfolding valuation_refusal
    none-refused = none-fails (valuation_checks (length factors) (length rates) file) h

    answer-is : valuation_of (length factors) (length rates) file
        ≡ Ok (record { figures = Rounded.figures (case_of file); verdict = Rounded.verdict (case_of file) })
    unfolding valuation_of
    answer-is = rw none-refused

    factors-are : factors_after file factors rates ≡ factor_entries (case_of file) ++ drop 240 factors
    unfolding factors_after
    factors-are = rw none-refused

    rates-are : rates_after file factors rates ≡ rate_entries (case_of file) ++ drop 240 rates
    unfolding rates_after
    rates-are = rw none-refused

    pub accepted-call : Bytes file → AcceptedCall file factors rates
    accepted-call b =
        let p = enough h in
        let q = accepted-keeps file b p.2 in
        record {
          keeps = q.0;
          held = q.1;
          valued = case-valued (case_of file) (within-limits file p.2) p.0 p.1 answer-is factors-are rates-are;
          without_equity_field = λ absent v e.
              answer-summed (case_of file) (within-limits file p.2) (absent-together file p.2 absent) v (sym e ∙ answer-is);
        }

  accepted-exactly : Bytes file → AcceptedExactly file factors rates
  unfolding valuation_refusal
  accepted-exactly b = record {
    keeps_accepted = λ hf hz x.
        first-fails (valuation_checks (length factors) (length rates) file) None
        (own-refusal file factors rates hf hz ∙ accepted-none file (keeps-accepted file x).0);
    accepted_keeps = λ h. (accepted-keeps file b (enough h).2).0;
  }

  pub call : Bytes file → Call file factors rates
  unfolding valuation_of valuation_refusal first_of
  call b = record {
    bytes = b;
    number = answered-number (failing (valuation_checks (length factors) (length rates) file)) (case_of file);
    refused = refused-call;
    accepted = λ h. accepted-call h b;
    exactly = accepted-exactly b;
  }

-- ---- a file that is valued without buffers

module _ (file : List ℕ) where
  figures-answer : refusal file ≡ 0
      → answered (failing (checks file)) (case_of file) ≡ Ok (record { figures = Rounded.figures (case_of file); verdict = Rounded.verdict (case_of file) })
  figures-answer h = rw (accepted-none file h)

  figures-refused : (r : Refusal) → failing (checks file) ≡ Some r → answered (failing (checks file)) (case_of file) ≡ Err r
  figures-refused r e = rw e

  figures-contained : (v : Valuation) → answered (failing (checks file)) (case_of file) ≡ Ok v → ContainmentAndWidth (case_of file) (figures_given v (case_of file))
  figures-contained v e =
      let none = no-refusal (failing (checks file)) (case_of file) v e in
      let is : Ok v ≡ answered None (case_of file) = rw none at (sym e) in
      containment-of-files file (refusal-number file None none) (figures_given v (case_of file)) (record {
        figures = ap (figures_or v.figures) is;
        verdict = ap (verdict_or v.verdict) is;
        factor = λ e t l m. refl;
        rate = λ e t l m. refl;
      })

  figures-summed : stands 8 (file_map file) ≡ false → (v : Valuation) → answered (failing (checks file)) (case_of file) ≡ Ok v
      → SummedValuation (case_of file) v
  figures-summed absent v e =
      let none = no-refusal (failing (checks file)) (case_of file) v e in
      let accepted = refusal-number file None none in
      answer-summed (case_of file) (within-limits file accepted) (absent-together file accepted absent) v (rw none at (sym e))

  pub figures-call : Bytes file → FiguresCall file
  figures-call b = record {
    bytes = b;
    refused = figures-refused;
    keeps_accepted = λ x. (keeps-accepted file x).0;
    accepted_keeps = λ h. (accepted-keeps file b h).0;
    held = λ x. (keeps-accepted file x).1;
    answer = figures-answer;
    containment_and_width = figures-contained;
    without_equity_field = figures-summed;
  }
