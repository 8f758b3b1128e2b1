-- The slots of a ring of m, from any start: two entries of at most m are in two slots, and moving the start by one makes entry i + 1 entry
-- i. The entries held in a ring, oldest first, whatever an entry is, after each change: one more after the newest, the oldest
-- gone, and in a full ring a new one in place of the oldest. A list taken around the ring is its part from the start on, and then the part
-- before. Assumes nothing.
use Prim.Native.Nat.{ℕ, zero, suc, ◌+◌, ◌*◌, ◌-◌, ◌%◌, ◌≤◌, ◌<◌}
use mathlib.Core.Path.{◌≡◌, refl, sym, ap, ◌∙◌}
use mathlib.Core.List.{List, [], ◌∷◌, ◌++◌}
use native.Mathlib.Decide.{dec_le}
use native.Mathlib.Nat.{mod-lt, mod-eq_of_lt, mod-add-mod, mul-add-mod_self_left, mul-le-mul_right, add-mod_left}
use native.Mathlib.Omega.{arith}
use lib.ListN.{length, get_or, take, drop, length-append, length-drop, get_or-append}
use lib.Seq.{length-take-le, get_or-take, get_or-drop, get_or-append-add, ext_get_or}
use Rattle.model.specs.Numbers.{table}
use Rattle.rollingmodel.specs.Rolling.{slot}
use Rattle.theory.proofs.general.Lists.{length-table, get_or-table, table-first, table_same}

module _ (m start : ℕ) where
  pub slot-less : (i : ℕ) → 0 < m → slot m start i < m
  slot-less i h = mod-lt (start + i) h

  -- entry i from the next start is entry i + 1
  pub slot_next : (i : ℕ) → slot m (slot m start 1) i ≡ slot m start (suc i)
  slot_next i =
      let e : start + 1 + i ≡ start + suc i = omega arith in
      mod-add-mod (start + 1) m i ∙ ap (λ k. k % m) e

  -- an entry by its slot: what makes the start a multiple of m takes the slot back to the entry
  back : (i : ℕ) → i < m → (slot m start i + (m * start - start)) % m ≡ i
  back i h =
      let some : 1 * start ≤ m * start = mul-le-mul_right start (omega arith) in
      let e : start + i + (m * start - start) ≡ m * start + i = omega arith in
      mod-add-mod (start + i) m (m * start - start) ∙ ap (λ k. k % m) e ∙ mul-add-mod_self_left m start i ∙ mod-eq_of_lt h

  -- two entries have two slots
  pub slot_apart : (i j : ℕ) → i < m → j < m → slot m start i ≡ slot m start j → i ≡ j
  slot_apart i j h k e = sym (back i h) ∙ ap (λ n. (n + (m * start - start)) % m) e ∙ back j k

-- the first n entries from the slot `start` on, of what lies in each slot
abbrev pub held : {A : Type 0} → ℕ → ℕ → (ℕ → A) → ℕ → List A
held m start entry n = table (λ i. entry (slot m start i)) n

module _ {A : Type 0} (m start : ℕ) (entry : ℕ → A) where
  pub held-more : (next : ℕ → A) (n : ℕ) → n < m → ((j : ℕ) → (j ≡ slot m start n → ⊥) → next j ≡ entry j)
      → held m start next (suc n) ≡ held m start entry n ++ (next (slot m start n) ∷ [])
  unfolding table
  held-more next n room others =
      ap (λ (l : List A). l ++ (next (slot m start n) ∷ []))
      (table_same (λ i. next (slot m start i)) (λ i. entry (slot m start i)) n
      (λ i l. others (slot m start i) (λ e. let same = slot_apart m start i n (omega arith) room e in omega arith)))

  -- of an empty ring a drop leaves no entry
  pub held-less : (n : ℕ) → held m (slot m start 1) entry (n - 1) ≡ drop 1 (held m start entry n)
  unfolding table
  held-less zero = refl
  held-less (suc n) =
      let one : suc n - 1 ≡ n = omega arith in
      ap (held m (slot m start 1) entry) one
      ∙ table_same (λ i. entry (slot m (slot m start 1) i)) (λ i. entry (slot m start (suc i))) n (λ i l. ap entry (slot_next m start i))
      ∙ ap (drop 1) (sym (table-first (λ i. entry (slot m start i)) n))

module _ {A : Type 0} (m start : ℕ) (entry next : ℕ → A) where
  -- the slot of a new entry is the one after the newest of those that stay, which is the oldest's
  pub held-replaced : (n : ℕ) → m ≡ suc n → ((j : ℕ) → (j ≡ slot m (slot m start 1) n → ⊥) → next j ≡ entry j)
      → held m (slot m start 1) next m ≡ drop 1 (held m start entry m) ++ (next (slot m (slot m start 1) n) ∷ [])
  held-replaced n e others =
      let new = next (slot m (slot m start 1) n) in
      let less : m - 1 ≡ n = omega arith in
      ap (held m (slot m start 1) next) e
      ∙ held-more m (slot m start 1) entry next n (omega arith) others
      ∙ ap (λ (l : List A). l ++ (new ∷ [])) (ap (held m (slot m start 1) entry) (sym less) ∙ held-less m start entry m)

-- the entries of a list from the slot `start` on, around the ring
module _ {A : Type 0} (xs : List A) (m start : ℕ) (d : A) (long : length xs ≡ m) (l : start < m) where
  around : (i : ℕ) → i < m → get_or xs (slot m start i) d ≡ get_or (drop start xs ++ take start xs) i d
  around i h = go (dec_le (m - start) i)
    where
      rest : length (drop start xs) ≡ m - start
      rest = omega (arith, length-drop start xs)

      go : Dec (m - start ≤ i) → get_or xs (slot m start i) d ≡ get_or (drop start xs ++ take start xs) i d
      go (yes past) =
          let j = i - (m - start) in
          let e : start + i ≡ m + j = omega arith in
          let f : length (drop start xs) + j ≡ i = omega (arith, rest) in
          ap (λ n. get_or xs n d) (ap (λ n. n % m) e ∙ add-mod_left m j ∙ mod-eq_of_lt (omega arith))
          ∙ sym (get_or-take start xs j d (omega arith))
          ∙ sym (get_or-append-add (drop start xs) (take start xs) j d)
          ∙ ap (λ n. get_or (drop start xs ++ take start xs) n d) f
      go (no before) =
          ap (λ n. get_or xs n d) (mod-eq_of_lt (omega arith))
          ∙ sym (get_or-drop start xs i d)
          ∙ sym (get_or-append (drop start xs) (take start xs) d i (omega (arith, rest)))

  pub rotated : held m start (λ j. get_or xs j d) m ≡ drop start xs ++ take start xs
  rotated =
      let entry : ℕ → A = λ i. get_or xs (slot m start i) d in
      let back : length (drop start xs ++ take start xs) ≡ m =
      omega (arith, length-append (drop start xs) (take start xs), length-drop start xs, length-take-le start xs (omega arith)) in
      ext_get_or d (table entry m) (drop start xs ++ take start xs) (length-table entry m ∙ sym back)
      (λ i h. let k : i < m = omega (arith, length-table entry m) in get_or-table entry m i d k ∙ around i k)
