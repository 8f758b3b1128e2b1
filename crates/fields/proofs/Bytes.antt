-- The lowest bytes of a number, as std has them and as the definitions have them; and the bytes of runs.
use Prim.Native.Nat.{ℕ, zero, suc, ◌+◌, ◌*◌, ◌-◌, ◌/◌, ◌%◌, ◌^◌, ◌≤◌, ◌<◌}
use mathlib.Core.Path.{◌≡◌, refl, ap, ap₂, sym, ◌∙◌}
use mathlib.Core.List.{List, [], ◌∷◌, ◌++◌, append_assoc, append-nil}
use native.Mathlib.Nat.{pow-suc, pow-succ', div-div-eq-div-mul, div-lt_iff_lt-mul}
use native.Mathlib.Numerals.{add-one}
use native.Mathlib.Omega.{arith}
use lib.Dec.{lit<}
use lib.ListN.{length, take, drop, get_or, length-append}
use lib.Seq.{take-suc, take_all}
use Rattle.std.specs.Int.{byte_at, bytes_high_first}
use Rattle.model.specs.Fields.{Fixed, number_of, bytes_all}
use Rattle.model.specs.Numbers.{bytes_of}
use Rattle.theory.proofs.acceptance.Encoding.{length-bytes}
use Rattle.fields.specs.Wrote.{bytes_of_each}

byte-next : (k n : ℕ) → byte_at (suc k) n ≡ byte_at k (n / 256)
byte-next zero n = refl
byte-next (suc k) n =
    ap (λ (d : ℕ). n / d % 256) (pow-succ' 256 (suc k))
    ∙ ap (λ (q : ℕ). q % 256) (sym (div-div-eq-div-mul n 256 (256 ^ suc k)))

high-last : (k n : ℕ) → bytes_high_first (suc k) n ≡ bytes_high_first k (n / 256) ++ (n % 256 ∷ [])
high-last zero n = refl
high-last (suc k) n = ap₂ (λ (b : ℕ) (bs : List ℕ). b ∷ bs) (byte-next k n) (high-last k n)

pub high-bytes : (w n : ℕ) → bytes_high_first w n ≡ bytes_of w n
unfolding bytes_of
high-bytes zero n = refl
high-bytes (suc w) n = high-last w n ∙ ap (λ (bs : List ℕ). bs ++ (n % 256 ∷ [])) (high-bytes w (n / 256))

pub drop-high : (d m w n : ℕ) → m ≡ d + w → drop d (bytes_high_first m n) ≡ bytes_high_first w n
drop-high zero m w n e = let same : m ≡ w = omega arith in ap (λ (k : ℕ). bytes_high_first k n) same
drop-high (suc d) zero w n e = let never : ⊥ = omega arith in absurd never
drop-high (suc d) (suc m) w n e = drop-high d m w n (omega arith)

-- the last w of the eight bytes of a number
pub last-bytes : (w n : ℕ) → w ≤ 8 → take (8 - (8 - w)) (drop (8 - w) (bytes_high_first 8 n)) ≡ bytes_of w n
last-bytes w n h =
    ap (take (8 - (8 - w))) (drop-high (8 - w) 8 w n (omega arith) ∙ high-bytes w n)
    ∙ take_all (8 - (8 - w)) (bytes_of w n) (omega (arith, length-bytes w n))

-- ---- a number in more bytes than it has

pub zero-more : (k : ℕ) → bytes_of k 0 ++ (0 ∷ []) ≡ bytes_of (k + 1) 0
unfolding bytes_of
zero-more k = rw add-one refl

pub zeros-first : (d w n v : ℕ) → n ≡ d + w → v < 256 ^ w → bytes_of d 0 ++ bytes_of w v ≡ bytes_of n v
unfolding bytes_of
zeros-first d zero n v e l =
    let none : v < 1 = l in
    let nothing : 0 ≡ v = omega arith in
    let same : d ≡ n = omega arith in
    append-nil (bytes_of d 0) ∙ ap₂ bytes_of same nothing
zeros-first d (suc w) zero v e l = let never : ⊥ = omega arith in absurd never
zeros-first d (suc w) (suc n) v e l =
    let q : v / 256 < 256 ^ w = (div-lt_iff_lt-mul (lit< tt)).1 (rw pow-suc at l) in
    sym (append_assoc (bytes_of d 0) (bytes_of w (v / 256)) (v % 256 ∷ []))
    ∙ ap (λ (bs : List ℕ). bs ++ (v % 256 ∷ [])) (zeros-first d w n (v / 256) (omega arith) q)

-- ---- runs

-- a run of numbers has the same bytes whatever their limits
pub run_is : (w least most : ℕ) (vs : List ℕ) → bytes_all (number_of w least most) vs ≡ bytes_of_each w vs
run_is w least most [] = refl
run_is w least most (v ∷ vs) = rw (run_is w least most vs)

module _ {A : Type 0} (x : Fixed A) where
  -- of what has the same number of bytes whatever its value
  pub length_run : ((v : A) → length (x.bytes v) ≡ x.size) → (vs : List A) → length (bytes_all x vs) ≡ x.size * length vs
  length_run h [] = omega arith
  length_run h (v ∷ vs) = length-append (x.bytes v) (bytes_all x vs) ∙ omega (arith, h v, length_run h vs)

  run-parts : (us vs : List A) → bytes_all x (us ++ vs) ≡ bytes_all x us ++ bytes_all x vs
  run-parts [] vs = refl
  run-parts (u ∷ us) vs = rw (append_assoc, run-parts us vs)

  -- a front of a run with the value after it
  pub front-next : (vs : List A) (i : ℕ) (d : A) → i < length vs → bytes_all x (take i vs) ++ x.bytes (get_or vs i d) ≡ bytes_all x (take (i + 1) vs)
  front-next vs i d h =
      rw (add-one i, take-suc vs i d h, run-parts (take i vs) (get_or vs i d ∷ []), append-nil (x.bytes (get_or vs i d)))
