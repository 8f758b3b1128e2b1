-- An end of a term among the brackets of a figure. Assumes nothing.
use Prim.Native.Nat.{ℕ, suc, ◌-◌, ◌≤◌, ◌<◌}
use mathlib.Core.Path.{◌≡◌, ◌∙◌}
use mathlib.Core.List.{List, ◌++◌}
use native.Mathlib.Omega.{arith}
use lib.ListN.{get_or, get_or-append}
use Rattle.arith.specs.Rounding.{End, low, high}
use Rattle.arith.specs.Brackets.{bracket, end_of}
use Rattle.arith.specs.declared.bracket.Bracket.{Bracket}
use Rattle.theory.proofs.general.Lists.{length-table, get_or-table}
use Rattle.curves.specs.inner.ByTerm.{brackets, factor_at}

abbrev none : Bracket
none = record { lower = 0; upper = 0 }

module _ (f : End → ℕ → ℕ) (n : ℕ) where
  end-at : (b : Bracket) (e : End) (t : ℕ) → b ≡ bracket (λ e. f e t) → end_of b e ≡ f e t
  end-at b low t k = rw k
  end-at b high t k = rw k

  bracket-at : (i : ℕ) → i < n → get_or (brackets f n) i none ≡ bracket (λ e. f e (suc i))
  bracket-at i h = get_or-table (λ i. bracket (λ e. f e (suc i))) n i none h

  pub factor-at : (e : End) (t : ℕ) → 1 ≤ t → t ≤ n → factor_at (brackets f n) e t ≡ f e t
  factor-at e t h k =
      let q : suc (t - 1) ≡ t = omega arith in
      end-at (get_or (brackets f n) (t - 1) none) e t (rw q at (bracket-at (t - 1) (omega arith)))

  -- the same where others follow
  pub factor-in : (later : List Bracket) (e : End) (t : ℕ) → 1 ≤ t → t ≤ n → factor_at (brackets f n ++ later) e t ≡ f e t
  factor-in later e t h k =
      let q : suc (t - 1) ≡ t = omega arith in
      end-at (get_or (brackets f n ++ later) (t - 1) none) e t
      (get_or-append (brackets f n) later none (t - 1) (let l = length-table (λ i. bracket (λ e. f e (suc i))) n in omega arith)
      ∙ rw q at (bracket-at (t - 1) (omega arith)))
