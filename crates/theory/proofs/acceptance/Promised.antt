-- What is promised of reading a file, from the theorems of this folder. Assumes nothing.
use Prim.Native.Nat.{ℕ, ◌+◌, ◌*◌, ◌<◌}
use mathlib.Core.Path.{◌≡◌, refl, ap, sym, ◌∙◌}
use mathlib.Core.List.{List, [], ◌++◌}
use native.Mathlib.Omega.{arith}
use lib.Dec.{T, eqb, lit<}
use lib.ListN.{length, take, drop, length-drop}
use Rattle.std.proofs.Common.{length-take-le}
use Rattle.std.specs.Prelude.{Some}
use Rattle.refusal.specs.declared.Refusal.{Refusal}
use Rattle.model.specs.Numbers.{Bytes}
use Rattle.model.specs.Layout.{Present, first_fields, layout, day, case_of}
use Rattle.model.specs.Refusals.{failing, map_checks, checks, refusal, rates_part, days_at, day_count}
use Rattle.model.specs.Promises.{FilesAreAcceptedExactly, NoFileHoldsTwoCases, RefusalCall, EveryRefusalCall, PartCall, EveryPartCall}
use Rattle.model.specs.inner.Positions.{rate_bytes, present, ufr_field, days_field, pension_field, bonds_field, amounts_field}
use Rattle.theory.proofs.acceptance.Checks.{below, below-append, below-if, first_below}
use Rattle.theory.proofs.acceptance.Runs.{values_length}
use Rattle.theory.proofs.acceptance.Form.{by_form, days-read}
use Rattle.theory.proofs.acceptance.Acceptance.{last_checks, refusal-number, accepted-none, within-limits, days-reach, accepted-keeps, keeps-accepted, one-case}

pub a_file_is_accepted_exactly_when_it_keeps_the_layout_and_limits : FilesAreAcceptedExactly
a_file_is_accepted_exactly_when_it_keeps_the_layout_and_limits = record {
  accepted_keeps = λ file b h. (accepted-keeps file b h).0;
  keeps_accepted = λ file x. (keeps-accepted file x).0;
  case_held = λ file x. (keeps-accepted file x).1;
  case_within = within-limits;
}

pub no_file_holds_two_cases : NoFileHoldsTwoCases
no_file_holds_two_cases = record { same = one-case }

-- ---- the number of a file

-- no check of a file has the number 13 or one above
module _ (file : List ℕ) where
  abbrev form : ℕ
  form = rate_bytes file

  abbrev shown : Present
  shown = present file

  fields-below : (w : ℕ) (p : Present) → T (below 13 ((layout w p).checks file 2))
  fields-below w p =
      let at = (ufr_field p).end file 2 in
      let on = (days_field 2 w).end file at in
      let bonds = pension_field.end file on in
      let amounts = (bonds_field p).end file bonds in
      let long = (first_fields w p).end file 2 in
      below-append 13 ((first_fields w p).checks file 2) _
      (below-append 13 ((ufr_field p).checks file 2) _ (below-if 13 p.ufr _ tt)
      (below-append 13 ((days_field 2 w).checks file at) _ (below-if 13 (eqb w 2) _ tt)
      (below-append 13 (pension_field.checks file on ++ (bonds_field p).checks file bonds) _ (below-if 13 p.bonds _ tt)
      (below-append 13 ((amounts_field p).checks file amounts) _ (below-if 13 p.amounts _ tt) tt))))
      (below-append 13 ((days_field 4 w).checks file long) _ (below-if 13 (eqb w 4) _ tt) (below-if 13 p.equity _ tt))

  under-thirteen : refusal file < 13
  unfolding refusal checks
  under-thirteen =
      first_below 13 (checks file) (lit< tt)
      (below-append 13 (map_checks file) ((layout form shown).checks file 2 ++ last_checks file form shown) tt
      (below-append 13 ((layout form shown).checks file 2) (last_checks file form shown) (fields-below form shown) tt))

  pub refusal-call : Bytes file → RefusalCall file
  refusal-call b = record {
    bytes = b;
    refused = λ r e. refusal-number file (Some r) e;
    accepted_keeps = λ h. (accepted-keeps file b h).0;
    keeps_accepted = λ x. (keeps-accepted file x).0;
    most = omega (arith, under-thirteen);
  }

  -- ---- the part with its rates

  refused-empty : (r : Refusal) → failing (checks file) ≡ Some r → rates_part file ≡ []
  unfolding rates_part
  refused-empty r e = rw e

  module _ (h : refusal file ≡ 0) where
    abbrev from : ℕ
    from = days_at file + 1

    part-is : rates_part file ≡ take (form * 60 * day_count file) (drop from file)
    unfolding rates_part
    part-is = rw (accepted-none file h)

    part-length : length (rates_part file) ≡ form * 60 * day_count file
    part-length =
        ap length part-is
        ∙ length-take-le (form * 60 * day_count file) (drop from file) (omega (arith, days-reach file h, length-drop from file))

    counted : length (case_of file).days ≡ day_count file
    unfolding day_count
    counted = ap length (sym (days-read file)) ∙ values_length (day form) file from (day_count file)

    form-is : form ≡ (case_of file).rate_bytes
    unfolding case_of
    form-is = refl

    part-of-days : (n : ℕ) → (case_of file).rate_bytes ≡ n → length (rates_part file) ≡ n * 60 * length (case_of file).days
    part-of-days n e = rw (part-length, form-is, e, counted)

    some-days : rates_part file ≡ [] → ⊥
    some-days none =
        let empty : length (rates_part file) ≡ 0 = ap length none in
        let some = (within-limits file h).days.some in
        by_form (λ w. (case_of file).rate_bytes ≡ w → ⊥) (case_of file).rate_bytes (within-limits file h).form
        (λ e. let is = part-of-days 2 e in omega (arith, is, empty, some))
        (λ e. let is = part-of-days 4 e in omega (arith, is, empty, some))
        refl

  pub part-call : Bytes file → PartCall file
  part-call b = record {
    bytes = b;
    refused = refused-empty;
    empty = λ none h. some-days h none;
    two_bytes = λ h e. let is = part-of-days h 2 e in omega (arith, is);
    four_bytes = λ h e. let is = part-of-days h 4 e in omega (arith, is);
    place = λ h. part-is h ∙ ap (λ n. take n (drop (days_at file + 1) file)) (sym (part-length h));
    inside = λ h. omega (arith, part-length h, days-reach file h);
  }

pub every_call_for_the_refusal : EveryRefusalCall
every_call_for_the_refusal = record { call = refusal-call }

pub every_call_for_the_rates : EveryPartCall
every_call_for_the_rates = record { call = part-call }
