-- Runs of numbers, as a loop reads them: each within its limits.
use Rattle.std.proofs.Common.{◌≡◌, ◌∙◌, ℕ, suc, ◌+◌, ◌*◌, ◌<◌, Bool, true, false, ◌&&◌, leb, List, get_or, ap, sym, refl, arith}
use lib.Dec.{leb-zero}
use Rattle.model.specs.Fields.{Fixed, within, value_all, right_all}
use Rattle.theory.proofs.acceptance.Runs.{right-last, right-at, values-table, values_length}
use Rattle.theory.proofs.general.Lists.{get_or-table}

pub at_most : (most v : ℕ) → leb v most ≡ within 0 most v
at_most most v = ap (λ b. b && leb v most) (sym (leb-zero v))

module _ {A : Type 0} (x : Fixed A) (file : List ℕ) (at : ℕ) where
  -- one more that is right
  pub right-next : (i : ℕ) → right_all x (value_all x file at i) ≡ true → x.right (x.value file (at + x.size * i)) ≡ true
      → right_all x (value_all x file at (i + 1)) ≡ true
  right-next i h k =
      let e : i + 1 ≡ suc i = omega arith in
      rw (e, right-last x file at i, h) k

  -- one that is not
  pub not-right : (n i : ℕ) → i < n → x.right (x.value file (at + x.size * i)) ≡ false → right_all x (value_all x file at n) ≡ false
  not-right n i l h = go (right_all x (value_all x file at n)) refl
    where
      go : (b : Bool) → right_all x (value_all x file at n) ≡ b → b ≡ false
      go false e = refl
      go true e =
          let d = x.value file at in
          let here = right-at x (value_all x file at n) i d (rw (values_length x file at n) l) e in
          let is = ap (λ vs. get_or vs i d) (values-table x file at n) ∙ get_or-table (λ j. x.value file (at + x.size * j)) n i d l in
          sym here ∙ ap x.right is ∙ h
