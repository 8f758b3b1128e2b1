-- Each promise of specs/Promises.antt used once in plain numbers, at its largest and its smallest. Nothing else rests on this: a promise that
-- said less would not give it. Assumes nothing.
use Rattle.std.proofs.Common.{ℕ, ◌≡◌, ◌≤◌, ◌<◌, ◌+◌, List, [], ◌∷◌, length, take, drop, Some, Ok, Err, refl, subst, ◌∙◌, arith}
use lib.IntN.{pos}
use Rattle.refusal.specs.Numbered.{refused_by}
use Rattle.refusal.specs.declared.Refusal.{Refusal}
use Rattle.refusal.specs.declared.Refusal.TheVariants.{Ufr, Room}
use Rattle.model.specs.Case.{FileCase}
use Rattle.model.specs.Layout.{Keeps, case_of}
use Rattle.model.specs.Limits.{WithinLimits}
use Rattle.model.specs.Refusals.{failing, refusal}
use Rattle.model.specs.declared.case.CaseFields.{CaseFields}
use Rattle.savingmodel.specs.Saving.{given, shortest, case_checks, case_refusal, save_checks, save_refusal, save_answer, saved_after}
use Rattle.savingmodel.specs.Promises.{SavedBytesGiveTheCase, SameBytesExactlyWhenEqual, NoFileOfTheCaseIsShorter}
use Rattle.savingmodel.specs.Promises.{CaseRefusedExactlyOutsideLimits, OwnRefusalFirst, FourteenExactlyForWantOfRoom}
use Rattle.savingmodel.specs.Promises.{RefusedSaveChangesNothing, SavedWhereThereIsRoom, EveryCaseCanBeHandedIn, SavedFilesAreShort}
use Rattle.savingmodel.specs.Promises.{rates_in, EverySaveCall}

-- every case within the limits is read back, field by field
saved-and-read : SavedBytesGiveTheCase → (k : FileCase) → WithinLimits k → (refusal (shortest k) ≡ 0) × ((case_of (shortest k)).ufr ≡ k.ufr)
saved-and-read p k w = (p.accepted k w, rw (p.same k w))

-- cases with the same bytes are equal, and the other way round
equal-by-bytes : SameBytesExactlyWhenEqual → (k j : FileCase) → WithinLimits k → WithinLimits j
    → (shortest k ≡ shortest j → k ≡ j) × (k ≡ j → shortest k ≡ shortest j)
equal-by-bytes p k j w v = (p.equal_by_bytes k j w v, p.same_bytes k j w v)

-- of every file, with bonds and without, and whatever optional fields it has
no-file-shorter : NoFileOfTheCaseIsShorter → (file : List ℕ) (x : Keeps file) → length file < length (shortest x.held) → ⊥
no-file-shorter p file x h = omega (arith, p.shortest_of_all file x, h)

refused-outside : CaseRefusedExactlyOutsideLimits → (k : FileCase) → (WithinLimits k → case_refusal k ≡ 0) × (case_refusal k ≡ 0 → WithinLimits k)
refused-outside p k = (p.within_accepted k, p.accepted_within k)

-- also where there is no buffer at all
own-before-fourteen : OwnRefusalFirst → (k : FileCase) (r : Refusal) → failing (case_checks k) ≡ Some r → save_answer k 0 ≡ Err r
own-before-fourteen p k r h = p.own k 0 r h

-- in a buffer that is one byte short, and nowhere else
fourteen-one-short : FourteenExactlyForWantOfRoom → (k : FileCase) (room : ℕ) → WithinLimits k → room + 1 ≡ length (shortest k)
    → save_answer k room ≡ Err Room
fourteen-one-short p k room w h = p.too_short k room w (omega (arith, h))

fourteen-not-where-it-fits : FourteenExactlyForWantOfRoom → (k : FileCase) (room : ℕ) → length (shortest k) ≤ room → save_refusal k room ≡ 14 → ⊥
fourteen-not-where-it-fits p k room h f = omega (arith, p.only_too_short k room f, h)

fourteen-of-a-case-within : FourteenExactlyForWantOfRoom → (k : FileCase) (room : ℕ) → save_refusal k room ≡ 14 → WithinLimits k
fourteen-of-a-case-within p k room f = p.only_within k room f

-- of each refusal, by name or not
refused-kept : RefusedSaveChangesNothing → (k : FileCase) (held : List ℕ) (r : Refusal) → failing (save_checks k (length held)) ≡ Some r
    → (save_answer k (length held) ≡ Err r) × (saved_after k held ≡ held)
refused-kept p k held r h = let answer = p.answer k (length held) r h in (answer, p.kept k held r answer)

ufr-kept : RefusedSaveChangesNothing → (k : FileCase) (held : List ℕ) → save_answer k (length held) ≡ Err Ufr → saved_after k held ≡ held
ufr-kept p k held h = p.kept k held Ufr h

-- this needs no theorem: it follows from the definitions as they stand, whatever the refusal
kept-by-definition : (k : FileCase) (held : List ℕ) (r : Refusal) → failing (save_checks k (length held)) ≡ Some r → saved_after k held ≡ held
unfolding saved_after
kept-by-definition k held r h = rw h

-- a buffer that is just long enough
saved-just-fits : SavedWhereThereIsRoom → (k : FileCase) (held : List ℕ) → WithinLimits k → length held ≡ length (shortest k)
    → (save_answer k (length held) ≡ Ok (length (shortest k))) × (take (length (shortest k)) (saved_after k held) ≡ shortest k)
    × (drop (length (shortest k)) (saved_after k held) ≡ drop (length (shortest k)) held)
saved-just-fits p k held w h =
    (p.answer k (length held) w (omega (arith, h)), p.front k held w (omega (arith, h)), p.later k held w (omega (arith, h)))

-- the last byte of a buffer that is one byte too long
last-byte-kept : SavedWhereThereIsRoom → (k : FileCase) (held : List ℕ) → WithinLimits k → length held ≡ length (shortest k) + 1
    → drop (length (shortest k)) (saved_after k held) ≡ drop (length (shortest k)) held
last-byte-kept p k held w h = p.later k held w (omega (arith, h))

-- one day after another, and each day's rates in order
rates-in-order : rates_in ((pos 1 ∷ pos 2 ∷ []) ∷ (pos 3 ∷ []) ∷ []) ≡ pos 1 ∷ pos 2 ∷ pos 3 ∷ []
rates-in-order = refl

-- the fields that are no lists, each in its place, the days in order, and both lists of flows
abbrev fields_beside_lists : FileCase → CaseFields
fields_beside_lists k = record { rate_bytes = k.rate_bytes; ufr = k.ufr; amounts = k.amounts; shocks = k.shocks; people = k.people }

handed-in : EveryCaseCanBeHandedIn → (k : FileCase) → WithinLimits k
    → given (fields_beside_lists k) (rates_in k.days) k.pension k.bonds ≡ k
handed-in p k w = p.handed_in k w

-- a buffer of 17,625 bytes is long enough
saved-in-the-longest : SavedFilesAreShort → (k : FileCase) → WithinLimits k → length (shortest k) ≤ 17625
saved-in-the-longest p k w = p.most k w

-- ---- one call, in plain numbers

module _ (p : EverySaveCall) (k : FileCase) (held : List ℕ) where
  -- a buffer of 17,625 bytes, of every case within the limits: no refusal, and reading back what then stands at its front gives the case
  saved-in-17625 : WithinLimits k → length held ≡ 17625 → ((n : ℕ) → length (shortest k) ≡ n → n ≤ 17625)
      → (refused_by (save_answer k 17625) ≡ 0) × ((case_of (take (length (shortest k)) (saved_after k held))).pension ≡ k.pension)
  saved-in-17625 w l short =
      let c = p.call k held in
      let zero = c.accepts w (omega (arith, l, short (length (shortest k)) refl)) in
      let a = c.accepted zero in
      (subst (λ (n : ℕ). refused_by (save_answer k n) ≡ 0) l (c.number ∙ zero), rw (a.front, a.same))

  -- each refusal leaves every byte
  call-kept : (r : Refusal) → failing (save_checks k (length held)) ≡ Some r → (save_answer k (length held) ≡ Err r) × (saved_after k held ≡ held)
  call-kept r h = let c = p.call k held in (c.refused r h, c.kept r (c.refused r h))

  -- no buffer
  call-without-room : length held ≡ 0 → WithinLimits k → 1 ≤ length (shortest k) → save_answer k 0 ≡ Err Room
  call-without-room l w some =
      subst (λ (n : ℕ). save_answer k n ≡ Err Room) l ((p.call k held).too_short w (omega (arith, l, some)))

  call-own : (r : Refusal) → failing (case_checks k) ≡ Some r → save_answer k (length held) ≡ Err r
  call-own r h = (p.call k held).own r h

  call-fourteen : save_refusal k (length held) ≡ 14 → WithinLimits k × (length held < length (shortest k))
  call-fourteen h = ((p.call k held).fourteen_within h, (p.call k held).fourteen_too_short h)

  -- what an accepted call says
  call-accepted : save_refusal k (length held) ≡ 0
      → WithinLimits k × (length (shortest k) ≤ length held) × (length (shortest k) ≤ 17625)
      × (save_answer k (length held) ≡ Ok (length (shortest k)))
      × (drop (length (shortest k)) (saved_after k held) ≡ drop (length (shortest k)) held) × (refusal (shortest k) ≡ 0)
  call-accepted h =
      let a = (p.call k held).accepted h in
      (a.within, a.room, a.most, a.answer, a.later, a.read)

  call-shortest : save_refusal k (length held) ≡ 0 → (file : List ℕ) (x : Keeps file) → x.held ≡ k → length file < length (shortest k) → ⊥
  call-shortest h file x e l = omega (arith, ((p.call k held).accepted h).shortest_of_all file x e, l)
