-- The two entries of a factor, in a buffer that is read two by two. Assumes nothing.
use Prim.Native.Nat.{ℕ, zero, suc, ◌+◌, ◌*◌, ◌-◌, ◌/◌, ◌<◌}
use mathlib.Core.Path.{◌≡◌, ap, ap₂, ◌∙◌}
use mathlib.Core.List.{List}
use native.Mathlib.Nat.{not-suc-le-zero, le_of_suc-le-suc}
use native.Mathlib.Omega.{arith}
use lib.ListN.{length, drop, get_or}
use lib.Seq.{get_or-take, get_or-drop}
use Rattle.std.specs.Simd.{first_chunks}
use Rattle.method.specs.Window.{factor_bracket}

-- an entry of a chunk is that of the buffer
entry-at : (k : ℕ) (xs : List ℕ) (i j : ℕ) (d : List ℕ) → i < k → j < 2 → get_or (get_or (first_chunks 2 k xs) i d) j 0 ≡ get_or xs (2 * i + j) 0
entry-at zero xs i j d h l = absurd (not-suc-le-zero h)
entry-at (suc k) xs zero j d h l =
    let e : j ≡ 2 * 0 + j = omega arith in
    get_or-take 2 xs j 0 l ∙ ap (λ n. get_or xs n 0) e
entry-at (suc k) xs (suc i) j d h l =
    let e : 2 + (2 * i + j) ≡ 2 * suc i + j = omega arith in
    entry-at k (drop 2 xs) i j d (le_of_suc-le-suc h) l ∙ get_or-drop 2 xs (2 * i + j) 0 ∙ ap (λ n. get_or xs n 0) e

-- the ends of a factor are its chunk
module _ (chunks : List (List ℕ)) (xs : List ℕ) (p : ℕ) (chunk : List ℕ) (e : chunks ≡ first_chunks 2 (length xs / 2) xs) where
  pub ends-of-chunk : chunk ≡ get_or chunks (p - 1) chunk → p - 1 < length xs / 2
      → record { lower = get_or chunk 0 0; upper = get_or chunk 1 0 } ≡ factor_bracket xs p
  ends-of-chunk is few =
      let n = length xs / 2 in
      let end : (j : ℕ) → j < 2 → get_or chunk j 0 ≡ get_or xs (2 * (p - 1) + j) 0 =
      λ j l. ap (λ c. get_or c j 0) is ∙ ap (λ cs. get_or (get_or cs (p - 1) chunk) j 0) e ∙ entry-at n xs (p - 1) j chunk few l in
      let first : 2 * (p - 1) + 0 ≡ 2 * (p - 1) = omega arith in
      ap₂ (λ lower upper. record { lower = lower; upper = upper }) (end 0 (omega arith) ∙ ap (λ i. get_or xs i 0) first) (end 1 (omega arith))
