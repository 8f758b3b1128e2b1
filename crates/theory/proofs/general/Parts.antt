-- A list with another part of n entries from the place `at` on, in place of those that were there: the parts of n entries at other
-- places are as they were.
use Prim.Native.Nat.{ℕ, ◌+◌, ◌≤◌}
use mathlib.Core.Path.{◌≡◌, ap, sym, ◌∙◌}
use mathlib.Core.List.{List, ◌++◌, append_assoc}
use native.Mathlib.Nat.{le_dest}
use native.Mathlib.Omega.{arith}
use lib.ListN.{length, take, drop, length-append, length-drop, take-append-drop}
use lib.Seq.{length-take-le, take_at, drop_at, drop-drop, drop-append-le, take-append-le, drop-append-add}

-- the n entries from the place `at` on
abbrev pub part : {A : Type 0} → ℕ → ℕ → List A → List A
part at n xs = take n (drop at xs)

abbrev pub with_part : {A : Type 0} → ℕ → ℕ → List A → List A → List A
with_part at n new xs = take at xs ++ new ++ drop (at + n) xs

module _ {A : Type 0} where
  pub length_part : (at n : ℕ) (xs : List A) → at + n ≤ length xs → length (part at n xs) ≡ n
  length_part at n xs h = length-take-le n (drop at xs) (omega (arith, length-drop at xs))

  -- a part of the first of two lists
  part-front : (at n : ℕ) (xs ys : List A) → at + n ≤ length xs → part at n (xs ++ ys) ≡ part at n xs
  part-front at n xs ys h =
      ap (take n) (drop-append-le at xs ys (omega arith)) ∙ take-append-le n (drop at xs) ys (omega (arith, length-drop at xs))

module _ {A : Type 0} (at n : ℕ) (new xs : List A) (fits : at + n ≤ length xs) (long : length new ≡ n) where
  front_long : length (take at xs ++ new) ≡ at + n
  front_long = length-append (take at xs) new ∙ omega (arith, length-take-le at xs (omega arith))

  pub length-with : length (with_part at n new xs) ≡ length xs
  length-with = length-append (take at xs ++ new) (drop (at + n) xs) ∙ omega (arith, front_long, length-drop (at + n) xs)

  pub part-own : part at n (with_part at n new xs) ≡ new
  part-own =
      ap (part at n) (append_assoc (take at xs) new (drop (at + n) xs))
      ∙ ap (take n) (drop_at (take at xs) (new ++ drop (at + n) xs) at (length-take-le at xs (omega arith)))
      ∙ take_at new (drop (at + n) xs) n long

  pub part-before : (i m : ℕ) → i + m ≤ at → part i m (with_part at n new xs) ≡ part i m xs
  part-before i m h =
      let front = length-take-le at xs (omega arith) in
      ap (part i m) (append_assoc (take at xs) new (drop (at + n) xs))
      ∙ part-front i m (take at xs) (new ++ drop (at + n) xs) (omega arith)
      ∙ sym (part-front i m (take at xs) (drop at xs) (omega arith))
      ∙ ap (part i m) (take-append-drop at xs)

  pub part-behind : (i m : ℕ) → at + n ≤ i → part i m (with_part at n new xs) ≡ part i m xs
  part-behind i m h =
      let (d, e) = le_dest h in
      let rest = drop (at + n) xs in
      let far : length (take at xs ++ new) + d ≡ i = omega (arith, front_long) in
      ap (take m)
      (ap (λ j. drop j (with_part at n new xs)) (sym far)
      ∙ drop-append-add (take at xs ++ new) rest d ∙ drop-drop d (at + n) xs ∙ ap (λ j. drop j xs) e)
