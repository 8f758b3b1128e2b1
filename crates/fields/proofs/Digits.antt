-- What one more byte adds to a big-endian number, and the numbers of a part of a file. Assumes nothing.
use Rattle.std.proofs.Common.{◌≡◌, ◌∙◌, ℕ, zero, suc, ◌+◌, ◌*◌, ◌/◌, ◌^◌, ◌≤◌, ◌<◌, ◌&&◌, leb, List, [], ◌∷◌, length, get_or, take, drop, length-drop, ap, ap₂, sym, refl, add-one, add_assoc, subst, arith}
use native.Mathlib.Nat.{not-suc-le-zero, mul-div-le, mul-le-mul_left, le_of_suc-le-suc, lt_of_lt_of_le, pow-le-pow_right, pow-suc}
use lib.Arith.{digits_lt}
use lib.Dec.{lit<, leb-zero}
use lib.Seq.{length-take-le, drop-drop, get_or-take, get_or-drop}
use Rattle.std.specs.Simd.{first_chunks}
use Rattle.model.specs.Numbers.{number}
use Rattle.std.specs.List.{list_all}
use Rattle.model.specs.Fields.{number_of, value_all, right_all}
use Rattle.theory.proofs.general.Lists.{table_same}
use Rattle.theory.proofs.acceptance.Runs.{values-table}

pub number-none : (file : List ℕ) (at : ℕ) → number file at 0 ≡ 0
unfolding number
number-none file at = refl

pub number-next : (file : List ℕ) (k : ℕ) → number file 0 (k + 1) ≡ number file 0 k * 256 + get_or file k 0
unfolding number
number-next file k = rw add-one (let e : 0 + k ≡ k = omega arith in rw e refl)

pub number-next-at : (file : List ℕ) (at k : ℕ) → number file at (k + 1) ≡ number file at k * 256 + get_or file (at + k) 0
unfolding number
number-next-at file at k = rw add-one refl

-- one digit more
pub digit : {q b : ℕ} (k : ℕ) → q < 256 ^ k → b < 256 → q * 256 + b < 256 ^ (k + 1)
digit {q} {b} k h l = rw (add-one, pow-suc) (digits_lt h l)

-- up to seven digits leave room for one more in 64 bits
pub digits-leave-room : {q : ℕ} (k : ℕ) → q < 256 ^ k → k < 8 → q < 2 ^ 56
digits-leave-room k h l = lt_of_lt_of_le h (pow-le-pow_right (lit< tt) (le_of_suc-le-suc l))

-- the numbers of a part of a file
pub number-part : (file : List ℕ) (start n at w : ℕ) → at + w ≤ n → number (take n (drop start file)) at w ≡ number file (start + at) w
unfolding number
number-part file start n at zero l = refl
number-part file start n at (suc w) l =
    ap₂ (λ q b. q * 256 + b) (number-part file start n at w (omega arith))
    (get_or-take n (drop start file) (at + w) 0 (omega arith) ∙ get_or-drop start file (at + w) 0
    ∙ ap (λ i. get_or file i 0) (sym (add_assoc start at w)))

-- a part that is one number
pub number-whole : (file : List ℕ) (at w : ℕ) → number (take w (drop at file)) 0 w ≡ number file at w
number-whole file at w =
    number-part file at w 0 w (omega arith) ∙ (let e : at + 0 ≡ at = omega arith in ap (λ i. number file i w) e)

-- chunk i of a list that is cut into chunks of n
pub chunk-at : (n k : ℕ) (xs : List ℕ) (i : ℕ) (d : List ℕ) → i < k → get_or (first_chunks n k xs) i d ≡ take n (drop (n * i) xs)
chunk-at n zero xs i d l = absurd (not-suc-le-zero l)
chunk-at n (suc k) xs zero d l = let e : 0 ≡ n * 0 = omega arith in ap (λ j. take n (drop j xs)) e
chunk-at n (suc k) xs (suc i) d l =
    let e : n + n * i ≡ n * suc i = omega arith in
    chunk-at n k (drop n xs) i d (le_of_suc-le-suc l) ∙ ap (take n) (drop-drop (n * i) n xs ∙ ap (λ j. drop j xs) e)

length-first_chunks : (n k : ℕ) (xs : List ℕ) → length (first_chunks n k xs) ≡ k
length-first_chunks n zero xs = refl
length-first_chunks n (suc k) xs = ap suc (length-first_chunks n k (drop n xs))

-- its number
module _ (w : ℕ) (chunks : List (List ℕ)) (xs : List ℕ) (i : ℕ) (d : List ℕ) (e : chunks ≡ first_chunks w (length xs / w) xs) (p : 1 ≤ w) (l : i < length chunks) where
  is-chunk : get_or chunks i d ≡ take w (drop (w * i) xs)
  is-chunk =
      let n = length xs / w in
      ap (λ cs. get_or cs i d) e ∙ chunk-at w n xs i d (subst (λ m. i < m) (ap length e ∙ length-first_chunks w n xs) l)

  pub chunk-number : number (get_or chunks i d) 0 w ≡ number xs (0 + w * i) w
  chunk-number =
      let f : w * i ≡ 0 + w * i = omega arith in
      ap (λ c. number c 0 w) is-chunk ∙ number-whole xs (w * i) w ∙ ap (λ j. number xs j w) f

  pub chunk-long : length (get_or chunks i d) ≡ w
  chunk-long =
      let n = length xs / w in
      let few : i < n = subst (λ m. i < m) (ap length e ∙ length-first_chunks w n xs) l in
      let far : w ≤ length (drop (w * i) xs) = rw length-drop (omega (arith, mul-le-mul_left w few, mul-div-le (length xs) w)) in
      ap length is-chunk ∙ length-take-le w (drop (w * i) xs) far

  pub chunk-whole : number (get_or chunks i d) 0 (length (get_or chunks i d)) ≡ number xs (0 + w * i) w
  chunk-whole = ap (λ m. number (get_or chunks i d) 0 m) chunk-long ∙ chunk-number

-- the numbers of a part of a file
pub values-whole : (w least most n : ℕ) (file : List ℕ) (at : ℕ) (part : List ℕ) → part ≡ take (w * n) (drop at file)
    → value_all (number_of w least most) part 0 n ≡ value_all (number_of w least most) file at n
values-whole w least most n file at part e =
    values-table (number_of w least most) part 0 n
    ∙ table_same (λ i. number part (0 + w * i) w) (λ i. number file (at + w * i) w) n
    (λ i l.
    let zero-out : 0 + w * i ≡ w * i = omega arith in
    ap₂ (λ xs j. number xs j w) e zero-out
    ∙ number-part file at (w * n) (w * i) w (omega (arith, mul-le-mul_left w l)))
    ∙ sym (values-table (number_of w least most) file at n)

-- each number is at most the most
pub all_right : (w most : ℕ) (xs : List ℕ) → list_all (λ n. leb n most) xs ≡ right_all (number_of w 0 most) xs
all_right w most [] = refl
all_right w most (x ∷ xs) = ap₂ (λ a b. a && b) (ap (λ b. b && leb x most) (sym (leb-zero x))) (all_right w most xs)
