-- What is told of the first bytes of an input is told of all of them: the first 17,626 bytes decide. Assumes nothing.
use Rattle.std.proofs.Common.{◌≡◌, ◌∙◌, ℕ, List, Option, Some, None, Result, IfSome, take, ap, subst, refl}
use Rattle.std.specs.Io.KnownBytes.{Appends}
use Rattle.model.specs.Refusals.{failing, checks}
use Rattle.model.specs.declared.figures.Valuation.{Valuation}
use Rattle.method.specs.Listing.{listing}
use Rattle.monthsmodel.specs.Months.{history_checks, months_valuation}
use Rattle.refusal.specs.Numbered.{answer_of}
use Rattle.refusal.specs.declared.Refusal.{Refusal}
use Rattle.theory.proofs.acceptance.Acceptance.{refusal-number}
use Rattle.theory.proofs.acceptance.Checks.{fails-first}
use Rattle.theory.proofs.acceptance.Deciding.{front-decides, front-whole}
use Rattle.report.specs.Numbered.{numbers_with}
use Rattle.report.specs.Valued.{valuation_with, IsTold, Printed, ended, HasStatus, ValuedCall, IsPromised}
use Rattle.report.specs.declared.input.History.{History}
use Rattle.report.specs.declared.input.Told.{Told}

module _ (bytes : List ℕ) where
  abbrev front : List ℕ
  front = take 17626 bytes

  accepted-whole : failing (checks bytes) ≡ None → front ≡ bytes
  accepted-whole e = front-whole bytes (refusal-number bytes None e)

  refused-both : (r : Refusal) → failing (checks bytes) ≡ Some r → failing (checks front) ≡ Some r
  refused-both r e = front-decides bytes ∙ e

  same-valuation : (history : Option History) → valuation_with history front ≡ valuation_with history bytes
  unfolding months_valuation
  same-valuation history = go (failing (checks bytes)) refl history
    where
      go : (o : Option Refusal) → failing (checks bytes) ≡ o → (h : Option History) → valuation_with h front ≡ valuation_with h bytes
      go None e h = ap (λ (file : List ℕ). valuation_with h file) (accepted-whole e)
      go (Some r) e None = rw (refused-both r e, e)
      go (Some r) e (Some months) =
          let hs = history_checks months.bytes.now months.start in
          rw (fails-first (checks front) hs r (refused-both r e), fails-first (checks bytes) hs r e)

  same-numbers : (history : Option History) → numbers_with history front ≡ numbers_with history bytes
  same-numbers history = go (failing (checks bytes)) refl history
    where
      go : (o : Option Refusal) → failing (checks bytes) ≡ o → (h : Option History) → numbers_with h front ≡ numbers_with h bytes
      go None e h = ap (λ (file : List ℕ). numbers_with h file) (accepted-whole e)
      go (Some r) e None = rw (refused-both r e, e)
      go (Some r) e (Some months) = rw (refused-both r e, e)

-- a file that is the front of an input, if its bytes are known
abbrev pub IsDeciding : Option (List ℕ) → List ℕ → Type 0
IsDeciding input file = IfSome input (λ bytes. file ≡ take 17626 bytes)

module _ (history : Option History) (file : List ℕ) where
  pub told_of_all : (input : Option (List ℕ)) (told : Told) → IsDeciding input file
      → told.valuation ≡ valuation_with history file → told.numbers ≡ numbers_with history file → IsTold input history told
  told_of_all None told is v n = tt
  told_of_all (Some bytes) told is v n = record {
    valuation = v ∙ ap (valuation_with history) is ∙ same-valuation bytes history;
    numbers = n ∙ ap (numbers_with history) is ∙ same-numbers bytes history;
  }

  pub printed_of_all : (input before after : Option (List ℕ)) → IsDeciding input file
      → Appends before after (listing (answer_of (valuation_with history file))) → Printed history input before after
  printed_of_all None before after is h = tt
  printed_of_all (Some bytes) before after is h =
      let same = ap (valuation_with history) is ∙ same-valuation bytes history in
      subst (λ (v : Result Valuation Refusal). Appends before after (listing (answer_of v))) same h

  pub status_of_all : (input : Option (List ℕ)) (status : ℕ) → IsDeciding input file
      → status ≡ ended (valuation_with history file) → HasStatus history input status
  status_of_all None status is h = tt
  status_of_all (Some bytes) status is h =
      let same = ap (valuation_with history) is ∙ same-valuation bytes history in
      h ∙ ap ended same

  pub promised_of_all : (input : Option (List ℕ)) (answer : Result Valuation Refusal) → IsDeciding input file
      → answer ≡ valuation_with history file → ValuedCall history file answer → IsPromised history input
  promised_of_all None answer is v call = tt
  promised_of_all (Some bytes) answer is v call =
      let same = v ∙ ap (valuation_with history) is ∙ same-valuation bytes history in
      subst {A = List ℕ × Result Valuation Refusal} (λ p. ValuedCall history p.0 p.1) (λ i. (is i, same i)) call
