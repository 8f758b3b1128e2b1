-- What saving a case answers, and what the buffer holds afterwards: of a case that is refused, where the buffer is too short, and where the
-- bytes are written.
use Prim.Native.Nat.{ℕ, ◌+◌, ◌-◌, ◌≤◌, ◌<◌}
use mathlib.Core.Path.{◌≡◌, ap, sym, ◌∙◌, subst}
use mathlib.Core.List.{List, ◌++◌}
use native.Mathlib.Omega.{arith}
use lib.ListN.{length, drop}
use lib.Seq.{sets, sets-eq}
use Rattle.std.specs.Prelude.{Option, Some, None, IsSome, Result, Ok, Err}
use Rattle.std.specs.Option.{ok_or}
use Rattle.model.specs.Case.{FileCase}
use Rattle.savingmodel.specs.Saving.{shortest, case_checks, save_checks, save_answer, saved_after}
use Rattle.model.specs.Refusals.{failing}
use Rattle.theory.proofs.saving.Saved.{case-number, case-within, refused-first, saved-fits, saved-too-long}
use Rattle.refusal.specs.declared.Refusal.{Refusal}
use Rattle.refusal.specs.declared.Refusal.TheVariants.{Room}

-- an error in place of a missing value
pub none-told : {A E : Type 0} (o : Option A) (e r : E) → ok_or o e ≡ Err r → (r ≡ e) × (IsSome o → ⊥)
none-told None e r h = (cc, λ k. cc)
none-told (Some x) e r h = cc

abbrev pub SavedAs : FileCase → List ℕ → Result ℕ Refusal → List ℕ → Type 0
SavedAs k held r after = (r ≡ save_answer k (length held)) × (after ≡ saved_after k held)

abbrev ok_of : ℕ → Result ℕ Refusal
ok_of count = Ok count

module _ (k : FileCase) (held : List ℕ) where
  not_saved : (r : Refusal) → failing (save_checks k (length held)) ≡ Some r → SavedAs k held (Err r) held
  unfolding save_answer saved_after
  not_saved r h = (rw h, rw h)

  pub refused : (r : Refusal) → Some r ≡ failing (case_checks k) → SavedAs k held (Err r) held
  refused r h = not_saved r (refused-first k (length held) r (sym h))

  module _ (accepted : None ≡ failing (case_checks k)) {bytes : List ℕ} (is : bytes ≡ shortest k) where
    pub room-refused : {r : Refusal} → r ≡ Room → (length bytes ≤ length held → ⊥) → SavedAs k held (Err r) held
    room-refused e h =
        let short : length held < length bytes = omega (arith, h) in
        let too_long = saved-too-long k (length held) (case-within k (case-number k None (sym accepted))) (rw is at short) in
        subst (λ (s : Refusal). SavedAs k held (Err s) held) (sym e) (not_saved Room too_long)

    pub written : {left : ℕ} {after : List ℕ} → (length bytes ≤ length held) × (left ≡ length held - length bytes) → after ≡ sets held 0 bytes
        → SavedAs k held (Ok (length held - left)) after
    unfolding save_answer saved_after
    written {left} {after} (room, e) h =
        let fits = saved-fits k (length held) (case-within k (case-number k None (sym accepted))) (rw is at room) in
        let front : after ≡ bytes ++ drop (length bytes) held = h ∙ sets-eq bytes held 0 room' ∙ ap (λ (n : ℕ). bytes ++ drop n held) none in
        let count : length held - left ≡ length bytes = omega (arith, room, e) in
        (rw fits (ap ok_of (count ∙ ap length is)), rw fits (front ∙ ap (λ (b : List ℕ). b ++ drop (length b) held) is))
      where
        none : 0 + length bytes ≡ length bytes
        none = omega arith

        room' : 0 + length bytes ≤ length held
        room' = omega (arith, room)
