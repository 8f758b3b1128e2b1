-- A list in an array that has room for more, with zeros after it: the list gives the array back.
use Rattle.std.proofs.Common.{◌≡◌, ◌∙◌, ℕ, ◌+◌, ◌-◌, ◌≤◌, ◌<◌, List, ◌++◌, length, slice_index, take, drop, replicate, ap, sym, arith}
use Rattle.std.proofs.lemmas.List.{ext_get_or, get_or-replicate, get_or-drop, length-take-le, length-drop, take-append-drop, length-replicate}

-- the first `count` entries are the list, and the others are 0
pub record Room (most count : ℕ) (entries : List ℕ) : Type 0 where
  pub few : count ≤ most
  pub whole : length entries ≡ most
  pub rest : (i : ℕ) → count ≤ i → slice_index entries i ≡ 0

-- a list, and zeros after it, n entries in all
abbrev pub filled : ℕ → List ℕ → List ℕ
filled n xs = xs ++ replicate (n - length xs) 0

module _ {most count : ℕ} {entries : List ℕ} (h : Room most count entries) where
  pub count-taken : length (take count entries) ≡ count
  count-taken = length-take-le count entries (omega (arith, h.few, h.whole))

  zeros-behind : replicate (most - count) 0 ≡ drop count entries
  zeros-behind =
      ext_get_or 0 (replicate (most - count) 0) (drop count entries) (rw (length-replicate, length-drop, h.whole))
      (λ i l.
      let k : i < most - count = rw length-replicate at l in
      get_or-replicate (most - count) i 0 0 k ∙ sym (get_or-drop count entries i 0 ∙ h.rest (count + i) (omega arith)))

  pub filled-taken : filled most (take count entries) ≡ entries
  filled-taken = ap (λ n. take count entries ++ replicate (most - n) 0) count-taken ∙ ap (λ xs. take count entries ++ xs) zeros-behind ∙ take-append-drop count entries
