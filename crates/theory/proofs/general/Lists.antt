-- Laws of `every` and `table`, of tests that hold together, and of an array that a loop fills.
use mathlib.Core.Path.{◌≡◌, refl, ap, ap₂, sym, ◌∙◌, subst}
use mathlib.Core.Bool.{Bool, true, ◌&&◌}
use mathlib.Core.Logic.{⊎_elim}
use mathlib.Core.List.{List, [], ◌∷◌, ◌++◌, append-nil}
use Prim.Native.Nat.{ℕ, zero, suc, ◌+◌, ◌≤◌, ◌<◌}
use native.Mathlib.Nat.{not-suc-le-zero, le_of_suc-le-suc, eq-or-lt_of_le, le_refl}
use native.Mathlib.Numerals.{add-one}
use native.Mathlib.Omega.{arith}
use borrow.Author.Tests.{leb-true}
use lib.Dec.{leb}
use lib.ListN.{length, get_or, drop, set, length-append, get_or-append}
use lib.Seq.{get_or_at, ext_get_or, drop-cons, drop-length, append_snoc, set_at}
use Rattle.std.proofs.lemmas.Bool.{and_from}
use Rattle.std.specs.Cmp.{first_so, second_so}
use Rattle.model.specs.Numbers.{every, table}

-- a pair, written between its parts
infixr 2 ◌also◌
pub ◌also◌ : {A B : Type 0} → A → B → A × B
a also b = (a, b)

-- a test of each index below n holds of one of them, and conversely
pub every-at : (test : ℕ → Bool) (n i : ℕ) → every test n ≡ true → i < n → test i ≡ true
unfolding every
every-at test zero i h l = absurd (not-suc-le-zero l)
every-at test (suc n) i h l =
    ⊎_elim (λ e. subst (λ (k : ℕ). test k ≡ true) (sym e) (second_so (every test n) (test n) h))
    (λ k. every-at test n i (first_so (every test n) (test n) h) k)
    (eq-or-lt_of_le (le_of_suc-le-suc l))

-- an order of two numbers of each index below n, where it is computed of all of them
pub every-le : (f g : ℕ → ℕ) (n i : ℕ) → every (λ j. leb (f j) (g j)) n ≡ true → i < n → f i ≤ g i
every-le f g n i h l = leb-true (f i) (g i) (every-at (λ j. leb (f j) (g j)) n i h l)

pub every-all : (test : ℕ → Bool) (n : ℕ) → ((i : ℕ) → i < n → test i ≡ true) → every test n ≡ true
unfolding every
every-all test zero h = refl
every-all test (suc n) h = and_from (every test n) (test n) (every-all test n (λ i l. h i (omega arith))) (h n (le_refl (suc n)))

-- tests of the same truth
pub every-same : (f g : ℕ → Bool) (n : ℕ) → ((i : ℕ) → i < n → f i ≡ g i) → every f n ≡ every g n
unfolding every
every-same f g zero h = refl
every-same f g (suc n) h = ap₂ (λ a b. a && b) (every-same f g n (λ i l. h i (omega arith))) (h n (le_refl (suc n)))

module _ {A : Type 0} where
  pub length-table : (f : ℕ → A) (n : ℕ) → length (table f n) ≡ n
  unfolding table
  length-table f zero = refl
  length-table f (suc n) = length-append (table f n) (f n ∷ []) ∙ (let e = length-table f n in omega arith)

  pub get_or-table : (f : ℕ → A) (n i : ℕ) (d : A) → i < n → get_or (table f n) i d ≡ f i
  unfolding table
  get_or-table f zero i d l = absurd (not-suc-le-zero l)
  get_or-table f (suc n) i d l =
      ⊎_elim (λ e. get_or_at (table f n) (f n) [] d i (length-table f n ∙ sym e) ∙ ap f (sym e))
      (λ k. get_or-append (table f n) (f n ∷ []) d i (subst (λ (m : ℕ). i < m) (sym (length-table f n)) k) ∙ get_or-table f n i d k)
      (eq-or-lt_of_le (le_of_suc-le-suc l))

  -- one value more at the front
  pub table-first : (f : ℕ → A) (n : ℕ) → table f (suc n) ≡ f 0 ∷ table (λ i. f (suc i)) n
  unfolding table
  table-first f zero = refl
  table-first f (suc n) = ap (λ (l : List A). l ++ (f (suc n) ∷ [])) (table-first f n)

  -- the same values below n
  pub table_same : (f g : ℕ → A) (n : ℕ) → ((i : ℕ) → i < n → f i ≡ g i) → table f n ≡ table g n
  unfolding table
  table_same f g zero h = refl
  table_same f g (suc n) h =
      ap₂ (λ (l : List A) (v : A). l ++ (v ∷ [])) (table_same f g n (λ i l. h i (omega arith))) (h n (le_refl (suc n)))

-- ---- an array that a loop fills: the first i entries are written, and the rest is as it was held
module _ {A : Type 0} where
  -- one entry more
  pub one-filled : (held out front : List A) (i : ℕ) (v : A) → length front ≡ i → i < length held → out ≡ front ++ drop i held
      → set out i v ≡ (front ++ (v ∷ [])) ++ drop (i + 1) held
  one-filled held out front i v n h e =
      ap (λ (l : List A). set l i v) (e ∙ ap (λ (l : List A). front ++ l) (drop-cons held i v h))
      ∙ set_at front (get_or held i v) (drop (suc i) held) v i n
      ∙ sym (append_snoc front v (drop (suc i) held))
      ∙ rw add-one

  -- the whole array
  pub all-filled : (held out front : List A) (i : ℕ) → i ≡ length held → out ≡ front ++ drop i held → out ≡ front
  all-filled held out front i n e = e ∙ rw (n, drop-length held, append-nil front)

  -- the same of a table
  pub table_filled : (f : ℕ → A) (held out : List A) (i : ℕ) (v : A) → i < length held → v ≡ f i → out ≡ table f i ++ drop i held
      → set out i v ≡ table f (i + 1) ++ drop (i + 1) held
  unfolding table
  table_filled f held out i v h k e = one-filled held out (table f i) i v (length-table f i) h e ∙ rw (add-one, k)

  -- a list is the table of its entries
  pub table_of : (xs : List A) (n : ℕ) (d : A) → length xs ≡ n → table (λ i. get_or xs i d) n ≡ xs
  table_of xs n d h =
      let l : length (table (λ i. get_or xs i d) n) ≡ length xs = length-table (λ i. get_or xs i d) n ∙ sym h in
      ext_get_or d (table (λ i. get_or xs i d) n) xs l (λ i k. get_or-table (λ i. get_or xs i d) n i d (omega arith))
