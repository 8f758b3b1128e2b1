-- Brackets as entries of a buffer: one bracket more, and those of a figure, term by term. Assumes nothing.
use Prim.Native.Nat.{ℕ, zero, suc, ◌+◌, ◌*◌, ◌≤◌, ◌<◌}
use mathlib.Core.Path.{◌≡◌, refl, ap, ◌∙◌}
use mathlib.Core.List.{List, [], ◌∷◌, ◌++◌}
use native.Mathlib.Numerals.{add-one}
use native.Mathlib.Omega.{arith}
use lib.ListN.{length, get_or, take, drop, set, length-append}
use lib.Seq.{take-suc, length-take-le, append_snoc}
use Rattle.arith.specs.Rounding.{End, low, high}
use Rattle.model.specs.Numbers.{table}
use Rattle.method.specs.Buffers.{by_term}
use Rattle.theory.proofs.general.Lists.{one-filled}
use Rattle.working.specs.inner.Entries.{entries}

module _ {A B : Type 0} (l h : B → A) where
  pub length-entries : (bs : List B) → length (entries l h bs) ≡ 2 * length bs
  unfolding entries
  length-entries [] = refl
  length-entries (b ∷ bs) = omega (arith, length-entries bs)

  entries-snoc : (bs : List B) (b : B) → entries l h (bs ++ (b ∷ [])) ≡ entries l h bs ++ (l b ∷ h b ∷ [])
  unfolding entries
  entries-snoc [] b = refl
  entries-snoc (c ∷ bs) b = rw (entries-snoc bs b)

  pub none-lent : (held : List A) → held ≡ entries l h [] ++ held
  unfolding entries
  none-lent held = refl

  -- an array that a loop fills, one bracket more: its two entries
  pub one-lent : (bs : List B) (held out : List A) (i : ℕ) (b : B) (x y : A) → i < length bs → 2 * length bs ≤ length held → x ≡ l (get_or bs i b) → y ≡ h (get_or bs i b)
      → out ≡ entries l h (take i bs) ++ drop (2 * i) held → set (set out (2 * i) x) (2 * i + 1) y ≡ entries l h (take (i + 1) bs) ++ drop (2 * (i + 1)) held
  one-lent bs held out i b x y k m p q e =
      let n : length (entries l h (take i bs)) ≡ 2 * i = length-entries (take i bs) ∙ ap (λ (j : ℕ). 2 * j) (length-take-le i bs (omega arith)) in
      let first = one-filled held out (entries l h (take i bs)) (2 * i) x n (omega arith) e in
      let front = entries l h (take i bs) ++ (x ∷ []) in
      let o : length front ≡ 2 * i + 1 = length-append (entries l h (take i bs)) (x ∷ []) ∙ (omega arith) in
      let j : 2 * i + 1 + 1 ≡ 2 * (i + 1) = omega arith in
      one-filled held (set out (2 * i) x) front (2 * i + 1) y o (omega arith) first
      ∙ rw (append_snoc (entries l h (take i bs)) x (y ∷ []), j, add-one i, take-suc bs i b k, entries-snoc (take i bs) (get_or bs i b), p, q)

  -- brackets of a figure
  pub entries-by : (f : End → ℕ → A) (g : ℕ → B) → ((i : ℕ) → l (g i) ≡ f low (suc i)) → ((i : ℕ) → h (g i) ≡ f high (suc i)) → (n : ℕ)
      → entries l h (table g n) ≡ by_term f n
  unfolding table entries by_term
  entries-by f g p q zero = refl
  entries-by f g p q (suc n) = entries-snoc (table g n) (g n) ∙ rw (entries-by f g p q n, p n, q n)
