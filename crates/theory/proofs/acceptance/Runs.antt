-- A run of one kind, one value more at its end: its values are defined from the front, and a loop appends them one by one.
use mathlib.Core.Path.{◌≡◌, refl, ap, ◌∙◌}
use mathlib.Core.Bool.{Bool, true, false, ◌&&◌, and-true}
use mathlib.Core.List.{List, [], ◌∷◌, ◌++◌}
use Prim.Native.Nat.{ℕ, zero, suc, ◌+◌, ◌*◌, ◌<◌}
use native.Mathlib.Nat.{not-suc-le-zero, le_of_suc-le-suc}
use native.Mathlib.Numerals.{add-one}
use native.Mathlib.Omega.{arith}
use lib.ListN.{length, get_or, take}
use lib.Seq.{take-suc}
use Rattle.std.specs.Cmp.{first_so, second_so}
use Rattle.std.proofs.lemmas.Bool.{and_from, and_right}
use Rattle.model.specs.Numbers.{table}
use Rattle.model.specs.Fields.{Fixed, value_all, right_all}

module _ {A : Type 0} (x : Fixed A) where
  pub right-more : (vs : List A) (v : A) → right_all x (vs ++ (v ∷ [])) ≡ (right_all x vs && x.right v)
  right-more [] v = and-true (x.right v)
  right-more (w ∷ vs) v = ap (λ b. x.right w && b) (right-more vs v) ∙ assoc (x.right w) (right_all x vs) (x.right v)
    where
      assoc : (a b c : Bool) → (a && (b && c)) ≡ ((a && b) && c)
      assoc true b c = refl
      assoc false b c = refl

  -- of a list in memory
  pub right-front : (vs : List A) (i : ℕ) (d : A) → i < length vs → right_all x (take (suc i) vs) ≡ (right_all x (take i vs) && x.right (get_or vs i d))
  right-front vs i d l = ap (right_all x) (take-suc vs i d l) ∙ right-more (take i vs) (get_or vs i d)

  -- one of them
  pub right-at : (vs : List A) (i : ℕ) (d : A) → i < length vs → right_all x vs ≡ true → x.right (get_or vs i d) ≡ true
  right-at [] i d l h = absurd (not-suc-le-zero l)
  right-at (v ∷ vs) zero d l h = first_so (x.right v) (right_all x vs) h
  right-at (v ∷ vs) (suc i) d l h = right-at vs i d (le_of_suc-le-suc l) (second_so (x.right v) (right_all x vs) h)

  -- one more that is right, and one that is not
  pub right-next : (vs : List A) (i : ℕ) (d : A) → i < length vs → right_all x (take i vs) ≡ true → x.right (get_or vs i d) ≡ true
      → right_all x (take (i + 1) vs) ≡ true
  right-next vs i d l h k =
      ap (λ (n : ℕ). right_all x (take n vs)) (add-one i)
      ∙ right-front vs i d l
      ∙ and_from (right_all x (take i vs)) (x.right (get_or vs i d)) h k

  pub wrong-at : (vs : List A) (i : ℕ) (d : A) → i < length vs → x.right (get_or vs i d) ≡ false → right_all x vs ≡ false
  wrong-at [] i d l h = absurd (not-suc-le-zero l)
  wrong-at (v ∷ vs) zero d l h = ap (λ b. b && right_all x vs) h
  wrong-at (v ∷ vs) (suc i) d l h = and_right (x.right v) (right_all x vs) (wrong-at vs i d (le_of_suc-le-suc l) h)

module _ {A : Type 0} (x : Fixed A) (file : List ℕ) where
  pub values_length : (at n : ℕ) → length (value_all x file at n) ≡ n
  values_length at zero = refl
  values_length at (suc n) = ap suc (values_length (at + x.size) n)

  pub values-last : (at n : ℕ) → value_all x file at (suc n) ≡ value_all x file at n ++ (x.value file (at + x.size * n) ∷ [])
  values-last at zero = let e : at ≡ at + x.size * 0 = omega arith in ap (λ i. x.value file i ∷ []) e
  values-last at (suc n) =
      let e : at + x.size + x.size * n ≡ at + x.size * suc n = omega arith in
      ap (λ vs. x.value file at ∷ vs)
      (values-last (at + x.size) n ∙ ap (λ i. value_all x file (at + x.size) n ++ (x.value file i ∷ [])) e)

  pub right-last : (at n : ℕ)
      → right_all x (value_all x file at (suc n)) ≡ (right_all x (value_all x file at n) && x.right (x.value file (at + x.size * n)))
  right-last at n =
      ap (right_all x) (values-last at n) ∙ right-more x (value_all x file at n) (x.value file (at + x.size * n))

  -- the table that a loop fills
  pub values-table : (at n : ℕ) → value_all x file at n ≡ table (λ i. x.value file (at + x.size * i)) n
  unfolding table
  values-table at zero = refl
  values-table at (suc n) = values-last at n ∙ ap (λ vs. vs ++ (x.value file (at + x.size * n) ∷ [])) (values-table at n)
