-- "An accepted file with bit 1, rewritten to bit 7 with every rate times 100, prints the same listing as the old file.": it is accepted, and
-- its answer, its listing and what both buffers hold afterwards are the old file's, also where a buffer is too short. Assumes nothing.
use Prim.Native.Nat.{ℕ}
use mathlib.Core.Path.{◌≡◌, refl, ap, ap₂, sym, ◌∙◌}
use mathlib.Core.Bool.{true}
use mathlib.Core.List.{List}
use lib.ListN.{length}
use lib.IntN.{ℤ}
use Rattle.std.specs.Prelude.{Option, Some, None, Result, Ok}
use Rattle.refusal.specs.Numbered.{answer_of}
use Rattle.refusal.specs.declared.Refusal.{Refusal}
use Rattle.arith.specs.Rounding.{End}
use Rattle.model.specs.Case.{FileCase}
use Rattle.model.specs.Limits.{WithinLimits}
use Rattle.model.specs.Layout.{stands, present_in, file_map, case_of, Keeps}
use Rattle.model.specs.Refusals.{failing, checks, refusal}
use Rattle.model.specs.Constants.{last_term}
use Rattle.method.specs.Curve.{base}
use Rattle.method.specs.Rounded.{rate_of}
use Rattle.method.specs.Buffers as Buffers
use Rattle.theory.proofs.acceptance.Checks.{none-fails, behind-check}
use Rattle.method.specs.Buffers.{buffers_check, valuation_checks, by_term, factor_entries, rate_entries, written, answered, valuation_of}
use Rattle.method.specs.Listing.{listing}
use Rattle.method.specs.FourBytes.{rewritten, rewritten_file, SameAsBefore}
use Rattle.model.specs.declared.figures.Valuation.{Valuation}
use Rattle.model.specs.declared.figures.Figures.{Figures}
use Rattle.model.specs.declared.figures.Verdict.{Verdict}
use Rattle.theory.proofs.acceptance.Acceptance.{within-limits, agrees-shown, two_bytes, keeps-accepted}
use Rattle.theory.proofs.fourbytes.Rewritten.{within-rewritten, factors-same, figures-same, verdict-same}

module _ (file : List ℕ) (none : refusal file ≡ 0) (one : stands 1 (file_map file) ≡ true) where
  abbrev old : FileCase
  old = case_of file

  two : (case_of file).rate_bytes ≡ 2
  two = two_bytes file none one

  within : WithinLimits (case_of file)
  within = within-limits file none

  -- the bytes of the rewritten case, with the optional fields that the old file has, keep the layout and limits
  keeps : Keeps (rewritten_file file)
  unfolding rewritten_file
  keeps =
      let agrees = agrees-shown file none in
      record {
        present = present_in (file_map file);
        held = rewritten old;
        within = within-rewritten old two within;
        agrees = record {
          ufr_absent = agrees.ufr_absent;
          bonds_absent = agrees.bonds_absent;
          bonds_there = agrees.bonds_there;
          amounts_absent = agrees.amounts_absent;
          equity_absent = agrees.equity_absent;
        };
        bytes = refl;
      }

  accepted : refusal (rewritten_file file) ≡ 0
  accepted = (keeps-accepted (rewritten_file file) keeps).0

  case-is : case_of (rewritten_file file) ≡ rewritten old
  unfolding keeps
  case-is = (keeps-accepted (rewritten_file file) keeps).1

  -- ---- what is given of the two cases, by the refusal

  same-refusal : (factors rates : ℕ) → failing (valuation_checks factors rates (rewritten_file file)) ≡ failing (valuation_checks factors rates file)
  unfolding refusal
  same-refusal factors rates =
      behind-check (buffers_check factors rates) (checks (rewritten_file file)) (checks file)
      (none-fails (checks (rewritten_file file)) accepted ∙ sym (none-fails (checks file) none))

  abbrev valued : Figures → Verdict → Result Valuation Refusal
  valued figures verdict = Ok (record { figures = figures; verdict = verdict })

  answer-same : (o : Option Refusal) → answered o (rewritten old) ≡ answered o old
  answer-same None = ap₂ valued (figures-same old two within) (verdict-same old two within)
  answer-same (Some r) = refl

  factors-are : factor_entries (rewritten old) ≡ factor_entries old
  unfolding factor_entries
  factors-are = ap (λ (f : End → ℕ → ℕ). by_term f last_term) (factors-same old two within base)

  rates-are : rate_entries (rewritten old) ≡ rate_entries old
  unfolding rate_entries
  rates-are = ap (λ (f : End → ℕ → ℕ). by_term (rate_of f) last_term) (factors-same old two within base)

  answers : (factors rates : ℕ) → valuation_of factors rates (rewritten_file file) ≡ valuation_of factors rates file
  unfolding valuation_of
  answers factors rates = ap₂ answered (same-refusal factors rates) case-is ∙ answer-same (failing (valuation_checks factors rates file))

  -- "prints the same listing as the old file"
  pub same-as-before : SameAsBefore file
  unfolding Buffers.factors_after Buffers.rates_after
  same-as-before = record {
    accepted = accepted;
    case = case-is;
    listed = ap (λ (v : Result Valuation Refusal). listing (answer_of v)) (answers 240 240);
    answer = answers;
    factors = λ f z.
        ap₂ (λ (o : Option Refusal) (entries : List ℕ). written o entries f) (same-refusal (length f) (length z)) (ap factor_entries case-is ∙ factors-are);
    rates = λ f z.
        ap₂ (λ (o : Option Refusal) (entries : List ℤ). written o entries z) (same-refusal (length f) (length z)) (ap rate_entries case-is ∙ rates-are);
  }
