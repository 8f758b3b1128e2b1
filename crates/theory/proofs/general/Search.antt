-- What the searches of the definitions find, `largest` and `smallest`: an index that passes, if there is one, and the one at which a
-- monotone test changes. So a search by halving may take their place.
-- Assumes nothing.
use Prim.Native.Nat.{ℕ, zero, suc, ◌+◌, ◌≤◌, ◌<◌}
use mathlib.Core.Path.{◌≡◌, refl, sym, ◌∙◌, ap, subst}
use mathlib.Core.Bool.{Bool, true, false, cond}
use native.Mathlib.Omega.{arith}
use native.Mathlib.Nat.{not-suc-le-zero}
use native.Mathlib.Decide.{dec_le}
use borrow.Author.Tests.{le-leb, lt-leb}
use lib.Dec.{leb, T}
use Rattle.method.specs.Brackets.{largest, smallest}

-- where index i passes, so does the one found, on the right side of i
pub largest-found : (f : ℕ → Bool) (n none i : ℕ) → i < n → T (f i) → T (f (largest f n none)) × (largest f n none < n) × (i ≤ largest f n none)
unfolding largest
largest-found f zero none i h t = absurd (not-suc-le-zero h)
largest-found f (suc n) none i h t = go (f n) refl (largest-found f n none i)
  where
    go : (b : Bool) → f n ≡ b → (i < n → T (f i) → T (f (largest f n none)) × (largest f n none < n) × (i ≤ largest f n none))
        → T (f (cond b n (largest f n none))) × (cond b n (largest f n none) < suc n) × (i ≤ cond b n (largest f n none))
    go true e ih = (subst T (sym e) tt, omega arith, omega arith)
    go false e ih = later (dec_le (suc i) n)
      where
        later : Dec (i < n) → T (f (largest f n none)) × (largest f n none < suc n) × (i ≤ largest f n none)
        later (yes l) = let r = ih l t in (r.0, omega (arith, r.1), r.2)
        later (no l) = let q : i ≡ n = omega arith in absurd (subst T (ap f q ∙ e) t)

pub smallest-found : (f : ℕ → Bool) (i n none m : ℕ) → i ≤ m → m < i + n → T (f m) → T (f (smallest f i n none)) × (smallest f i n none ≤ m)
unfolding smallest
smallest-found f i zero none m h l t = absurd (never h l)
  where
    never : i ≤ m → m < i + 0 → ⊥
    never h l = omega arith
smallest-found f i (suc n) none m h l t = go (f i) refl (smallest-found f (suc i) n none m)
  where
    go : (b : Bool) → f i ≡ b
        → (suc i ≤ m → m < suc i + n → T (f m) → T (f (smallest f (suc i) n none)) × (smallest f (suc i) n none ≤ m))
        → T (f (cond b i (smallest f (suc i) n none))) × (cond b i (smallest f (suc i) n none) ≤ m)
    go true e ih = (subst T (sym e) tt, h)
    go false e ih = later (dec_le (suc i) m)
      where
        later : Dec (suc i ≤ m) → T (f (smallest f (suc i) n none)) × (smallest f (suc i) n none ≤ m)
        later (yes k) = ih k (omega arith) t
        later (no k) = let q : m ≡ i = omega arith in absurd (subst T (ap f q ∙ e) t)

-- so no index on the wrong side of it passes
past-largest : (f : ℕ → Bool) (n none i : ℕ) → largest f n none < i → i < n → T (f i) → ⊥
past-largest f n none i l h t = let r = largest-found f n none i h t in omega (arith, r.2)

before-smallest : (f : ℕ → Bool) (n none i : ℕ) → i < smallest f 0 n none → i < n → T (f i) → ⊥
before-smallest f n none i l h t = let r = smallest-found f 0 n none i (omega arith) (omega arith) t in omega (arith, r.1)

-- where the test falls, it passes up to the index found and no further; where it rises, from that index on and no sooner
pub largest-splits : (f : ℕ → Bool) → ((i j : ℕ) → i ≤ j → T (f j) → T (f i)) → (n none m : ℕ) → m < n → T (f m)
    → (i : ℕ) → i < n → f i ≡ leb i (largest f n none)
largest-splits f falls n none m h p i l = go (dec_le i (largest f n none)) (f i) refl
  where
    go : Dec (i ≤ largest f n none) → (b : Bool) → f i ≡ b → f i ≡ leb i (largest f n none)
    go (yes k) true e = e ∙ sym (le-leb i (largest f n none) k)
    go (yes k) false e = absurd (subst T e (falls i (largest f n none) k (largest-found f n none m h p).0))
    go (no k) true e = absurd (past-largest f n none i (omega arith) l (subst T (sym e) tt))
    go (no k) false e = e ∙ sym (lt-leb i (largest f n none) (omega arith))

pub smallest-splits : (f : ℕ → Bool) → ((i j : ℕ) → i ≤ j → T (f i) → T (f j)) → (n none m : ℕ) → m < n → T (f m)
    → (i : ℕ) → i < n → f i ≡ leb (smallest f 0 n none) i
smallest-splits f rises n none m h p i l = go (dec_le (smallest f 0 n none) i) (f i) refl
  where
    go : Dec (smallest f 0 n none ≤ i) → (b : Bool) → f i ≡ b → f i ≡ leb (smallest f 0 n none) i
    go (yes k) true e = e ∙ sym (le-leb (smallest f 0 n none) i k)
    go (yes k) false e = absurd (subst T e (rises (smallest f 0 n none) i k (smallest-found f 0 n none m (omega arith) (omega arith) p).0))
    go (no k) true e = absurd (before-smallest f n none i (omega arith) l (subst T (sym e) tt))
    go (no k) false e = e ∙ sym (lt-leb (smallest f 0 n none) i (omega arith))
