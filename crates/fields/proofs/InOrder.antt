-- One field is read after another.
use Rattle.std.proofs.Common.{◌≡◌, ◌∙◌, ℕ, Bool, true, false, ap, refl, sym, subst}
use Rattle.std.specs.Prelude.{List, None, Some, Ok}
use Rattle.std.specs.Borrow.{Bor}
use mathlib.Core.Path.{ap₂}
use Rattle.model.specs.Fields.{Field, optional, ◌then◌}
use Rattle.refusal.specs.declared.Refusal.{Refusal}
use Rattle.model.specs.Refusals.{failing}
use Rattle.fields.specs.Reading.{IfThere, Moved, Reads}
use Rattle.fields.specs.declared.cursor.Cursor.{Cursor}
use Rattle.fields.proofs.Steps.{go}

module _ {A B : Type 0} (f : Field A) (h : Field B) {old mid : Cursor} where
  there : Moved old mid (f.end old.file.now old.at) → h.checks mid.file.now mid.at ≡ h.checks old.file.now (f.end old.file.now old.at)
  there m = ap₂ (λ b i. h.checks b.now i) m.same m.behind

  -- the first holds, and the second fails
  pub halt_behind : (e : Refusal) → failing (f.checks old.file.now old.at) ≡ None
      → Moved old mid (f.end old.file.now old.at) → Some e ≡ failing (h.checks mid.file.now mid.at)
      → Some e ≡ failing ((f then h).checks old.file.now old.at)
  halt_behind e none m k = go (f.checks old.file.now old.at) (h.checks old.file.now (f.end old.file.now old.at)) none (k ∙ ap failing (there m))

  -- both are read
  pub both_read : {V W : Type 0} (P : Bor (List ℕ) → ℕ → V → A → Type 0) (Q : Bor (List ℕ) → ℕ → W → B → Type 0) {new : Cursor} {v : V} {w : W}
      → Reads f (P old.file old.at) old mid (Ok v) → Reads h (Q mid.file mid.at) mid new (Ok w)
      → Reads {B = V × W} (f then h) (λ r x. P old.file old.at r.0 x.0 × Q old.file (f.end old.file.now old.at) r.1 x.1) old new (Ok (v, w))
  both_read P Q {new} {v} {w} p q =
      let m = p.1.1 in (
        sym (go (f.checks old.file.now old.at) (h.checks old.file.now (f.end old.file.now old.at)) p.0 (sym q.0 ∙ ap failing (there m))),
        (
          (p.1.0, subst {A = Bor (List ℕ) × ℕ} (λ b. Q b.0 b.1 w (h.value b.0.now b.1)) (ap₂ (λ b i. (b, i)) m.same m.behind) q.1.0),
          record { same = q.1.1.same ∙ m.same; behind = q.1.1.behind ∙ ap₂ (λ b i. h.end b.now i) m.same m.behind },
        ),
      )

-- a field that is not there
pub absent_read : {A V : Type 0} (f : Field A) (x : A) (there : Bool) (P : Bor (List ℕ) → ℕ → V → A → Type 0) (Absent : V → Type 0) {v : V} {old : Cursor}
    → Absent v → there ≡ false
    → Reads (optional there x f) (λ v y. IfThere there (P old.file old.at v y) (Absent v × (y ≡ x))) old old (Ok v)
absent_read f x true P Absent a e = cc
absent_read f x false P Absent a e = (refl, ((a, refl), record { same = refl; behind = refl }))
