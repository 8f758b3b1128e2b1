-- Which entry is which end of which term, in entries lower, upper, term by term.
-- Assumes nothing.
use Prim.Native.Nat.{ℕ, zero, suc, ◌+◌, ◌*◌, ◌-◌, ◌≤◌, ◌<◌}
use mathlib.Core.Path.{◌≡◌, refl, ap, sym, ◌∙◌}
use mathlib.Core.List.{List, [], ◌∷◌, ◌++◌}
use mathlib.Core.Logic.{◌⊎◌, inl, inr}
use native.Mathlib.Numerals.{add-one}
use native.Mathlib.Omega.{arith}
use native.Mathlib.Nat.{not-suc-le-zero, le_of_suc-le-suc, eq-or-lt_of_le}
use lib.ListN.{length, get_or, drop, set, length-append, get_or-append}
use lib.Seq.{get_or-append-add, append_snoc}
use Rattle.arith.specs.Rounding.{End, low, high}
use Rattle.method.specs.Buffers.{by_term, entry_of, entry_or}
use Rattle.theory.proofs.general.Lists.{one-filled}

module _ {A : Type 0} (f : End → ℕ → A) where
  pub length-by_term : (n : ℕ) → length (by_term f n) ≡ 2 * n
  unfolding by_term
  length-by_term zero = refl
  length-by_term (suc n) =
      length-append (by_term f n) (f low (suc n) ∷ f high (suc n) ∷ []) ∙ (let e = length-by_term n in omega arith)

  -- the last two
  at_last : (n i : ℕ) (d : A) → get_or (by_term f n ++ (f low (suc n) ∷ f high (suc n) ∷ [])) (2 * n + i) d ≡ get_or (f low (suc n) ∷ f high (suc n) ∷ []) i d
  at_last n i d =
      let e = length-by_term n in
      ap (λ (k : ℕ). get_or (by_term f n ++ (f low (suc n) ∷ f high (suc n) ∷ [])) (k + i) d) (sym e)
      ∙ get_or-append-add (by_term f n) (f low (suc n) ∷ f high (suc n) ∷ []) i d

  -- the entries of term t + 1, lower and then upper
  offset : End → ℕ
  offset low = 0
  offset high = 1

  at-end : (e : End) (n : ℕ) (d : A) → (offset e < 2) × (get_or (f low n ∷ f high n ∷ []) (offset e) d ≡ f e n)
  unfolding offset
  at-end low n d = (omega arith, refl)
  at-end high n d = (omega arith, refl)

  entry_at : (e : End) (n t : ℕ) (d : A) → t < n → get_or (by_term f n) (2 * t + offset e) d ≡ f e (suc t)
  unfolding by_term
  entry_at e zero t d h = absurd (not-suc-le-zero h)
  entry_at e (suc n) t d h = go (eq-or-lt_of_le (le_of_suc-le-suc h)) (entry_at e n t d)
    where
      go : (t ≡ n) ⊎ (t < n) → (t < n → get_or (by_term f n) (2 * t + offset e) d ≡ f e (suc t))
          → get_or (by_term f n ++ (f low (suc n) ∷ f high (suc n) ∷ [])) (2 * t + offset e) d ≡ f e (suc t)
      go (inl q) ih = rw q (at_last n (offset e) d ∙ (at-end e (suc n) d).1)
      go (inr l) ih =
          get_or-append (by_term f n) (f low (suc n) ∷ f high (suc n) ∷ []) d (2 * t + offset e)
          (let q = length-by_term n in omega (arith, (at-end e (suc n) d).0)) ∙ ih l

  pub lower-entry : (n t : ℕ) (d : A) → t < n → get_or (by_term f n) (2 * t) d ≡ f low (suc t)
  unfolding offset
  lower-entry n t d h = let q : 2 * t ≡ 2 * t + 0 = omega arith in rw q (entry_at low n t d h)

  pub upper-entry : (n t : ℕ) (d : A) → t < n → get_or (by_term f n) (2 * t + 1) d ≡ f high (suc t)
  unfolding offset
  upper-entry = entry_at high

-- the same where other entries follow
module _ {A : Type 0} (f : End → ℕ → A) (n : ℕ) (rest : List A) (d : A) where
  pub lower_in : (t : ℕ) → t < n → get_or (by_term f n ++ rest) (2 * t) d ≡ f low (suc t)
  lower_in t h = get_or-append (by_term f n) rest d (2 * t) (omega (arith, length-by_term f n)) ∙ lower-entry f n t d h

  pub upper_in : (t : ℕ) → t < n → get_or (by_term f n ++ rest) (2 * t + 1) d ≡ f high (suc t)
  upper_in t h = get_or-append (by_term f n) rest d (2 * t + 1) (omega (arith, length-by_term f n)) ∙ upper-entry f n t d h

-- entries that are known by their index, as `entry_or` reads them by their term
pub by-term : {A : Type 0} (d : A) (entries : List A) (f : End → ℕ → A) (n : ℕ)
    → ((t : ℕ) → t < n → get_or entries (2 * t) d ≡ f low (suc t))
    → ((t : ℕ) → t < n → get_or entries (2 * t + 1) d ≡ f high (suc t))
    → (e : End) (t : ℕ) → 1 ≤ t → t ≤ n → entry_or d entries e t ≡ f e t
by-term d entries f n lower upper e zero h k = absurd (not-suc-le-zero h)
by-term d entries f n lower upper low (suc t) h k = let q : suc t - 1 ≡ t = omega arith in rw q (lower t k)
by-term d entries f n lower upper high (suc t) h k = let q : suc t - 1 ≡ t = omega arith in rw q (upper t k)

pub entry-is : (f : End → ℕ → ℕ) (n : ℕ) (e : End) (t : ℕ) → 1 ≤ t → t ≤ n → entry_of (by_term f n) e t ≡ f e t
entry-is f n = by-term 0 (by_term f n) f n (λ t. lower-entry f n t 0) (λ t. upper-entry f n t 0)

-- entries of two figures that are the same at the terms to n
pub same-terms : {A : Type 0} (f g : End → ℕ → A) (n : ℕ) → ((e : End) (t : ℕ) → t ≤ n → f e t ≡ g e t) → by_term f n ≡ by_term g n
unfolding by_term
same-terms f g zero h = refl
same-terms f g (suc n) h =
    rw (same-terms f g n (λ e t l. h e t (omega arith)), h low (suc n) (omega arith), h high (suc n) (omega arith))

-- an array that a loop fills, one term more: its two entries
pub term-filled : {A : Type 0} (f : End → ℕ → A) (held out : List A) (t : ℕ) (a b : A) → 2 * t + 1 < length held → a ≡ f low (t + 1) → b ≡ f high (t + 1)
    → out ≡ by_term f t ++ drop (2 * t) held → set (set out (2 * t) a) (2 * t + 1) b ≡ by_term f (t + 1) ++ drop (2 * (t + 1)) held
unfolding by_term
term-filled {A} f held out t a b h p q e =
    let n = length-by_term f t in
    let first = one-filled held out (by_term f t) (2 * t) a n (omega arith) e in
    let front = by_term f t ++ (a ∷ []) in
    let m : length front ≡ 2 * t + 1 = length-append (by_term f t) (a ∷ []) ∙ (omega arith) in
    let i : 2 * t + 1 + 1 ≡ 2 * (t + 1) = omega arith in
    one-filled held (set out (2 * t) a) front (2 * t + 1) b m h first ∙ rw (append_snoc (by_term f t) a (b ∷ []), i, p, q, add-one t)
