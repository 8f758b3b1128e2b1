-- What a valuation answers and leaves in the buffers: 13, the file's own refusal, or the figures of its case.
-- Assumes nothing.
use Prim.Native.Nat.{ℕ, ◌≤◌, ◌<◌}
use mathlib.Core.Path.{◌≡◌, ap, sym, ◌∙◌, subst}
use mathlib.Core.Bool.{Bool, false, ◌&&◌}
use mathlib.Core.List.{List, ◌∷◌, ◌++◌}
use borrow.Author.Tests.{lt-leb}
use lib.Dec.{leb}
use lib.IntN.{ℤ}
use lib.ListN.{length, get_or, drop}
use mir.Syntax.{w8}
use mir.Val.{Fits}
use Rattle.std.proofs.lemmas.Bool.{and_right}
use Rattle.std.specs.Prelude.{Some, None, Result, Ok, Err}
use Rattle.method.specs.Curve.{base}
use Rattle.model.specs.Layout.{case_of}
use Rattle.model.specs.Fields.{Check}
use Rattle.model.specs.Refusals.{failing, checks}
use Rattle.method.specs.Rounded as Rounded
use Rattle.method.specs.Buffers.{valuation_checks, factors_after, rates_after, answered, valuation_of}
use Rattle.model.specs.declared.figures.Valuation.{Valuation}
use Rattle.heldcase.specs.Held.{held}
use Rattle.heldcase.specs.declared.Case.{Case}
use Rattle.theory.proofs.acceptance.Acceptance.{refusal-number, within-limits}
use Rattle.theory.proofs.containment.Calls.{own-refusal, call, figures-call}
use Rattle.reader.proofs.Exactly.{slice-bytes}
use Rattle.refusal.specs.declared.Refusal.{Refusal}
use Rattle.refusal.specs.declared.Refusal.TheVariants.{Buffers}
use Rattle.method.specs.Promises.{Call, FiguresCall}
use Rattle.working.specs.inner.Ranges.{CaseFits}
use Rattle.working.specs.inner.Working.{factors_on, rates_on, money_of}
use Rattle.working.proofs.HeldCase.{held_fits, held-money, held-valued}

-- of a lent slice: its element type says of each entry that it is a byte
pub call-of-slice : (file factors : List ℕ) (rates : List ℤ) → ((i : ℕ) → Fits w8 (get_or file i 0)) → Call file factors rates
call-of-slice file factors rates known = call file factors rates (slice-bytes file known)

pub figures-of-slice : (file : List ℕ) → ((i : ℕ) → Fits w8 (get_or file i 0)) → FiguresCall file
figures-of-slice file known = figures-call file (slice-bytes file known)

-- one check before others
fails : (b : Bool) (rest : List Check) → b ≡ false → failing ((b, Buffers) ∷ rest) ≡ Some Buffers
fails b rest e = rw e

abbrev ok_of : Valuation → Result Valuation Refusal
ok_of v = Ok v

-- the case of an accepted file: it is in range, and its working is that of the file's case
module _ (file : List ℕ) (none : None ≡ failing (checks file)) (k : Case) (holds : k ≡ held (case_of file)) where
  pub reading-fits : CaseFits k
  reading-fits = subst CaseFits (sym holds) (held_fits (case_of file) (within-limits file (refusal-number file None (sym none))))

  reading-money : money_of k ≡ record { figures = Rounded.figures (case_of file); verdict = Rounded.verdict (case_of file) }
  reading-money = ap money_of holds ∙ held-money (case_of file) (within-limits file (refusal-number file None (sym none)))

  pub figures-accepted : (v : Valuation) → v ≡ money_of k → Ok v ≡ answered (failing (checks file)) (case_of file)
  figures-accepted v g = rw (sym none) (ap ok_of (g ∙ reading-money))

module _ {file f₀ : List ℕ} {z₀ : List ℤ} (call : Call file f₀ z₀) where
  -- the contract of `value`: the answer, both buffers at the end, and what holds of every call
  abbrev pub Meets : Result Valuation Refusal → List ℕ → List ℤ → Type 0
  Meets answer f z = record {
    value : answer ≡ valuation_of (length f₀) (length z₀) file;
    factors : f ≡ factors_after file f₀ z₀;
    rates : z ≡ rates_after file f₀ z₀;
    call : Call file f₀ z₀;
  }

  -- with the refusal known
  meets-refused : (r : Refusal) → failing (valuation_checks (length f₀) (length z₀) file) ≡ Some r → Meets (Err r) f₀ z₀
  unfolding valuation_of factors_after rates_after
  meets-refused r e = record { value = rw e; factors = rw e; rates = rw e; call = call }

  -- with a buffer that is too short, that for factors or that for rates
  short : (leb 240 (length f₀) && leb 240 (length z₀)) ≡ false → Meets (Err Buffers) f₀ z₀
  short h = meets-refused Buffers (fails (leb 240 (length f₀) && leb 240 (length z₀)) (checks file) h)

  pub short-factors : length f₀ < 240 → Meets (Err Buffers) f₀ z₀
  short-factors h = short (rw (lt-leb 240 (length f₀) h))

  pub short-rates : length z₀ < 240 → Meets (Err Buffers) f₀ z₀
  short-rates h = short (and_right (leb 240 (length f₀)) (leb 240 (length z₀)) (lt-leb 240 (length z₀) h))

  module _ (hf : 240 ≤ length f₀) (hz : 240 ≤ length z₀) where
    -- a refused file
    pub refused-file : (e : Refusal) → Some e ≡ failing (checks file) → Meets (Err e) f₀ z₀
    refused-file e k = meets-refused e (own-refusal file f₀ z₀ hf hz ∙ sym k)

    -- an accepted file
    pub accepted-file : None ≡ failing (checks file) → (k : Case) → k ≡ held (case_of file) → (v : Valuation) (f : List ℕ) (z : List ℤ)
        → v ≡ money_of k
        → f ≡ factors_on k base ++ drop 240 f₀
        → z ≡ rates_on k ++ drop 240 z₀
        → Meets (Ok v) f z
    unfolding valuation_of factors_after rates_after
    accepted-file none k holds v f z p q t =
        let o : failing (valuation_checks (length f₀) (length z₀) file) ≡ None = own-refusal file f₀ z₀ hf hz ∙ sym none in
        let (x, (y, u)) = held-valued (case_of file) (within-limits file (refusal-number file None (sym none))) f₀ z₀ holds p q t in
        record { value = rw o x; factors = rw o y; rates = rw o u; call = call }
