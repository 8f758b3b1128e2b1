-- Numbers as bytes, and bytes as numbers: what is read from a file is written back as the same bytes, and what was written is read. A
-- position in a file is known by the bytes from there on, `drop at file`.
use mathlib.Core.Path.{◌≡◌, refl, ap, sym, ◌∙◌}
use mathlib.Core.Bool.{Bool, true, false, cond}
use mathlib.Core.List.{List, [], ◌∷◌, ◌++◌, append_assoc}
use Prim.Native.Nat.{ℕ, zero, suc, ◌+◌, ◌*◌, ◌-◌, ◌/◌, ◌%◌, ◌^◌, ◌≤◌, ◌<◌}
use native.Mathlib.Nat.{not-suc-le-zero, pow-suc, add-zero, add-suc, div-lt_iff_lt-mul, div-add-mod'}
use native.Mathlib.Omega.{arith}
use borrow.Author.Tests.{lt-ltb, le-ltb}
use lib.Arith.{digits_lt, digits_div, digits_mod}
use lib.Dec.{ltb, lit<}
use lib.ListN.{length, get_or, drop, length-append, length-drop}
use lib.Seq.{drop-cons, drop-drop, drop_at, get_or-drop, get_or_at}
use lib.IntN.{ℤ, pos, negsuc, neg_ℤ, ◌-ℤ◌}
use Rattle.model.specs.Numbers.{number, twos_complement, bytes_of, unsigned, Bytes}
use Rattle.model.specs.Limits.{Between}
use Rattle.theory.proofs.general.Differences.{diff-pos, diff-neg, diff-le}

pub length-bytes : (w v : ℕ) → length (bytes_of w v) ≡ w
unfolding bytes_of
length-bytes zero v = refl
length-bytes (suc w) v = length-append (bytes_of w (v / 256)) ((v % 256) ∷ []) ∙ omega (arith, length-bytes w (v / 256))

-- a number of one byte is that byte
pub number-one : (file : List ℕ) (at : ℕ) → number file at 1 ≡ get_or file at 0
unfolding number
number-one file at = rw (add-zero at) (omega arith)

-- ---- what is read is written back

module _ (file : List ℕ) (b : Bytes file) where
  pub number_small : (at w : ℕ) → number file at w < 256 ^ w
  unfolding number
  number_small at zero = lit< tt
  number_small at (suc w) = rw pow-suc (digits_lt (number_small at w) (b.small (at + w)))

  pub number-written : (at w : ℕ) → at + w ≤ length file → bytes_of w (number file at w) ++ drop (at + w) file ≡ drop at file
  unfolding number bytes_of
  number-written at zero h = rw (add-zero at)
  number-written at (suc w) h =
      let q = number file at w in
      let low = b.small (at + w) in
      let next = drop-cons file (at + w) 0 (omega arith) in
      rw (digits_div q low, digits_mod q low, append_assoc, add-suc, ← next) (number-written at w (omega arith))

  pub byte-written : (at : ℕ) → at + 1 ≤ length file → bytes_of 1 (get_or file at 0) ++ drop (at + 1) file ≡ drop at file
  byte-written at h = rw number-one at (number-written at 1 h)

-- ---- what was written is read

module _ (file : List ℕ) where
  pub behind : (at n : ℕ) (xs rest : List ℕ) → length xs ≡ n → drop at file ≡ xs ++ rest → drop (at + n) file ≡ rest
  behind at n xs rest e h = sym (drop-drop n at file) ∙ ap (drop n) h ∙ drop_at xs rest n e

  pub reached : (at n : ℕ) (xs rest : List ℕ) → length xs ≡ n → 1 ≤ n → drop at file ≡ xs ++ rest → at + n ≤ length file
  reached at n xs rest e l h =
      let k : length file - at ≡ length xs + length rest = sym (length-drop at file) ∙ ap length h ∙ length-append xs rest in
      omega arith

  pub number_read : (at w v : ℕ) (rest : List ℕ) → v < 256 ^ w → drop at file ≡ bytes_of w v ++ rest → number file at w ≡ v
  unfolding number bytes_of
  number_read at zero v rest l h = let k : v < 1 = l in omega arith
  number_read at (suc w) v rest l h =
      let e = rw append_assoc at h in
      let q : v / 256 < 256 ^ w = (div-lt_iff_lt-mul (lit< tt)).1 (rw pow-suc at l) in
      let a = number_read at w (v / 256) (v % 256 ∷ rest) q e in
      let r : get_or file (at + w) 0 ≡ v % 256 =
      sym (get_or-drop at file w 0) ∙ ap (λ l. get_or l w 0) e ∙ get_or_at (bytes_of w (v / 256)) (v % 256) rest 0 w (length-bytes w (v / 256)) in
      rw (a, r) (div-add-mod' v 256)

  pub byte-read : (at v : ℕ) (rest : List ℕ) → v < 256 → drop at file ≡ bytes_of 1 v ++ rest → get_or file at 0 ≡ v
  byte-read at v rest l h = sym (number-one file at) ∙ number_read at 1 v rest l h

-- ---- two's complement of w bytes

below : (v M : ℕ) → v < M → pos v -ℤ pos M ≡ negsuc (M - suc v)
below v zero h = absurd (not-suc-le-zero h)
below v (suc m) h = rw (lt-ltb v (suc m) h)

pub written-signed : (w v : ℕ) → v < 256 ^ w → unsigned w (twos_complement w v) ≡ v
written-signed w v h = go (ltb (2 * v) (256 ^ w))
  where
    go : (t : Bool) → unsigned w (cond t (pos v) (pos v -ℤ pos (256 ^ w))) ≡ v
    go true = refl
    go false = rw (below v (256 ^ w) h) (omega arith)

-- of an integer from -a to b, where the lower half of the numbers of w bytes holds b and the upper half a
pub read-signed : (w a b : ℕ) → 2 * a ≤ 256 ^ w → 2 * b < 256 ^ w → (z : ℤ) → Between (neg_ℤ (pos a)) (pos b) z
    → (unsigned w z < 256 ^ w) × (twos_complement w (unsigned w z) ≡ z)
read-signed w a b low high (pos n) h =
    let l = diff-le n 0 b 0 (diff-pos n) (diff-pos b) h.most in
    (omega arith, rw (lt-ltb (2 * n) (256 ^ w) (omega arith)))
read-signed w a b low high (negsuc n) h =
    let l = diff-le 0 a 0 (suc n) (diff-neg (pos a) a 0 (diff-pos a)) (omega arith) h.least in
    let v = 256 ^ w - suc n in
    let small : v < 256 ^ w = omega arith in
    let back : 256 ^ w - suc v ≡ n = omega arith in
    (small, rw (le-ltb (2 * v) (256 ^ w) (omega arith), below v (256 ^ w) small, back))
