-- What is promised of saving, from the theorems of this folder. Assumes nothing.
use mathlib.Core.Path.{◌≡◌, refl, sym, ◌∙◌, subst}
use mathlib.Core.List.{List, ◌++◌}
use Prim.Native.Nat.{ℕ, ◌≤◌, ◌<◌}
use native.Mathlib.Decide.{dec_le}
use native.Mathlib.Omega.{arith}
use lib.ListN.{length, take, drop}
use lib.Seq.{take_at, drop_at}
use Rattle.std.specs.Prelude.{Option, Some, None, Ok, Err}
use Rattle.refusal.specs.Numbered.{refused_by}
use Rattle.refusal.specs.declared.Refusal.{Refusal}
use Rattle.refusal.specs.declared.Refusal.TheVariants.{Room}
use Rattle.model.specs.Case.{FileCase}
use Rattle.model.specs.Limits.{WithinLimits}
use Rattle.model.specs.Refusals.{failing}
use Rattle.savingmodel.specs.Saving.{shortest, case_checks, saved_of, save_checks, save_refusal, save_answer, saved_after}
use Rattle.savingmodel.specs.Promises.{SavedBytesGiveTheCase, SameBytesExactlyWhenEqual, NoFileOfTheCaseIsShorter}
use Rattle.savingmodel.specs.Promises.{CaseRefusedExactlyOutsideLimits, OwnRefusalFirst, FourteenExactlyForWantOfRoom}
use Rattle.savingmodel.specs.Promises.{RefusedSaveChangesNothing, SavedWhereThereIsRoom, EveryCaseCanBeHandedIn, SavedFilesAreShort}
use Rattle.savingmodel.specs.Promises.{AcceptedSave, SaveCall, EverySaveCall}
use Rattle.theory.proofs.acceptance.Checks.{first-fails, none-fails}
use Rattle.theory.proofs.acceptance.Deciding.{accepted-short}
use Rattle.theory.proofs.saving.Given.{case-given}
use Rattle.theory.proofs.saving.Saved.{saved_read, saved-once, saved-shortest, case-accepted, case-within, case-number}
use Rattle.theory.proofs.saving.Saved.{refused-first, saved-fits, saved-too-long, fourteen-only}

pub saved_bytes_give_the_case : SavedBytesGiveTheCase
saved_bytes_give_the_case = record { accepted = λ k w. (saved_read k w).0; same = λ k w. (saved_read k w).1 }

pub same_bytes_exactly_when_equal : SameBytesExactlyWhenEqual
same_bytes_exactly_when_equal = record { equal_by_bytes = λ k j w v. (saved-once k j w v).0; same_bytes = λ k j w v. (saved-once k j w v).1 }

pub no_file_of_the_case_is_shorter : NoFileOfTheCaseIsShorter
no_file_of_the_case_is_shorter = record { shortest_of_all = saved-shortest }

pub case_refused_exactly_outside_limits : CaseRefusedExactlyOutsideLimits
case_refused_exactly_outside_limits = record { within_accepted = case-accepted; accepted_within = case-within }

pub every_case_can_be_handed_in : EveryCaseCanBeHandedIn
every_case_can_be_handed_in = record { handed_in = case-given }

saved-short : (k : FileCase) → WithinLimits k → length (shortest k) ≤ 17625
saved-short k w = accepted-short (shortest k) (saved_read k w).0

pub saved_files_are_short : SavedFilesAreShort
saved_files_are_short = record { most = saved-short }

-- ---- the answer and the buffer, by the first check that fails

module _ (k : FileCase) (room : ℕ) where
  answer-refused : (r : Refusal) → failing (save_checks k room) ≡ Some r → save_answer k room ≡ Err r
  unfolding save_answer
  answer-refused r h = rw h

  answer-saved : failing (save_checks k room) ≡ None → save_answer k room ≡ Ok (length (shortest k))
  unfolding save_answer
  answer-saved h = rw h

  -- a refusal that is answered is the first check that fails
  refusal-answered : (r : Refusal) → save_answer k room ≡ Err r → failing (save_checks k room) ≡ Some r
  unfolding save_answer
  refusal-answered r h = go (failing (save_checks k room)) h
    where
      go : (o : Option Refusal) → saved_of o (length (shortest k)) ≡ Err r → o ≡ Some r
      go None e = cc
      go (Some s) e = cc

  answer-number : refused_by (save_answer k room) ≡ save_refusal k room
  unfolding save_answer save_refusal
  answer-number = go (failing (save_checks k room)) refl
    where
      go : (o : Option Refusal) → failing (save_checks k room) ≡ o → refused_by (saved_of o (length (shortest k))) ≡ save_refusal k room
      go None e = sym (first-fails (save_checks k room) None e)
      go (Some s) e = sym (first-fails (save_checks k room) (Some s) e)

  own-refusal : (r : Refusal) → failing (case_checks k) ≡ Some r → save_answer k room ≡ Err r
  own-refusal r h = answer-refused r (refused-first k room r h)

  short-room : WithinLimits k → room < length (shortest k) → save_answer k room ≡ Err Room
  short-room w l = answer-refused Room (saved-too-long k room w l)

  enough-room : WithinLimits k → length (shortest k) ≤ room → save_answer k room ≡ Ok (length (shortest k))
  enough-room w l = answer-saved (saved-fits k room w l)

  zero-fits : WithinLimits k → length (shortest k) ≤ room → save_refusal k room ≡ 0
  unfolding save_refusal
  zero-fits w l = first-fails (save_checks k room) None (saved-fits k room w l)

  -- what is not refused is within the limits and has room
  fits-zero : save_refusal k room ≡ 0 → WithinLimits k × (length (shortest k) ≤ room)
  unfolding save_refusal
  fits-zero h = by (failing (case_checks k)) refl
    where
      none : failing (save_checks k room) ≡ None
      none = none-fails (save_checks k room) h

      by : (o : Option Refusal) → failing (case_checks k) ≡ o → WithinLimits k × (length (shortest k) ≤ room)
      by (Some r) e = let f = sym none ∙ refused-first k room r e in let never : ⊥ = cc in absurd never
      by None e = let w = case-within k (case-number k None e) in (w, fits w (dec_le (length (shortest k)) room))
        where
          fits : WithinLimits k → Dec (length (shortest k) ≤ room) → length (shortest k) ≤ room
          fits w (yes l) = l
          fits w (no n) = let f = sym none ∙ saved-too-long k room w (omega (arith, n)) in let never : ⊥ = cc in absurd never

module _ (k : FileCase) (held : List ℕ) where
  buffer-kept : (r : Refusal) → save_answer k (length held) ≡ Err r → saved_after k held ≡ held
  unfolding saved_after
  buffer-kept r h = rw (refusal-answered k (length held) r h)

  buffer-saved : WithinLimits k → length (shortest k) ≤ length held → saved_after k held ≡ shortest k ++ drop (length (shortest k)) held
  unfolding saved_after
  buffer-saved w l = rw (saved-fits k (length held) w l)

  buffer-front : WithinLimits k → length (shortest k) ≤ length held → take (length (shortest k)) (saved_after k held) ≡ shortest k
  buffer-front w l = rw (buffer-saved w l) (take_at (shortest k) (drop (length (shortest k)) held) (length (shortest k)) refl)

  buffer-later : WithinLimits k → length (shortest k) ≤ length held
      → drop (length (shortest k)) (saved_after k held) ≡ drop (length (shortest k)) held
  buffer-later w l = rw (buffer-saved w l) (drop_at (shortest k) (drop (length (shortest k)) held) (length (shortest k)) refl)

  accepted-save : save_refusal k (length held) ≡ 0 → AcceptedSave k held
  accepted-save h =
      let (w, l) = fits-zero k (length held) h in
      let (read, same) = saved_read k w in
      record {
        within = w;
        room = l;
        most = saved-short k w;
        answer = enough-room k (length held) w l;
        front = buffer-front w l;
        later = buffer-later w l;
        read = read;
        same = same;
        shortest_of_all = λ file x e. subst (λ (j : FileCase). length (shortest j) ≤ length file) e (saved-shortest file x);
      }

  pub save_call : SaveCall k held
  save_call = record {
    number = answer-number k (length held);
    refused = answer-refused k (length held);
    kept = buffer-kept;
    own = own-refusal k (length held);
    too_short = short-room k (length held);
    fourteen_within = λ h. (fourteen-only k (length held) h).0;
    fourteen_too_short = λ h. (fourteen-only k (length held) h).1;
    accepts = zero-fits k (length held);
    accepted = accepted-save;
  }

pub every_save_call : EverySaveCall
every_save_call = record { call = save_call }

pub own_refusal_first : OwnRefusalFirst
own_refusal_first = record { own = own-refusal }

pub fourteen_exactly_for_want_of_room : FourteenExactlyForWantOfRoom
fourteen_exactly_for_want_of_room = record {
  too_short = short-room;
  only_within = λ k room h. (fourteen-only k room h).0;
  only_too_short = λ k room h. (fourteen-only k room h).1;
}

pub refused_save_changes_nothing : RefusedSaveChangesNothing
refused_save_changes_nothing = record { answer = answer-refused; kept = buffer-kept }

pub saved_where_there_is_room : SavedWhereThereIsRoom
saved_where_there_is_room = record { answer = enough-room; front = buffer-front; later = buffer-later }
