-- Of a number below 65,536 the bits 9 to 15 are clear exactly where it is below 512.
use mathlib.Core.Path.{◌≡◌, refl, sym, ◌∙◌}
use mathlib.Core.Bool.{Bool, true, false, not}
use Prim.Native.Nat.{ℕ, ◌+◌, ◌/◌, ◌%◌, ◌^◌, ◌≤◌, ◌<◌}
use native.Mathlib.Nat.{pow-le-pow_right, lt_of_lt_of_le, div-eq_of_lt}
use native.Mathlib.Omega.{arith}
use borrow.Author.Tests.{ltb-true, ltb-false}
use lib.Dec.{eqb, ltb, lit<}
use Rattle.model.specs.Numbers.{every}
use Rattle.model.specs.Layout.{stands}
use Rattle.theory.proofs.acceptance.Bitmap.{none_from}
use Rattle.theory.proofs.general.Lists.{every-all}

above : (b n m : ℕ) → m < 2 ^ b → every (λ i. not (stands (b + i) m)) n ≡ true
above b n m l = every-all (λ i. not (stands (b + i) m)) n go
  where
    go : (i : ℕ) → i < n → not (eqb (m / 2 ^ (b + i) % 2) 1) ≡ true
    go i k =
        let far : 2 ^ b ≤ 2 ^ (b + i) = pow-le-pow_right (lit< tt) (omega arith) in
        rw (div-eq_of_lt (lt_of_lt_of_le l far))

pub bits_above : (m : ℕ) → m < 65536 → ltb m 512 ≡ every (λ i. not (stands (9 + i) m)) 7
bits_above m l = go (ltb m 512) (every (λ i. not (stands (9 + i) m)) 7) refl refl
  where
    low_bits : m / 512 ≡ 0 → 512 ≤ m → ⊥
    low_bits z h = omega arith

    go : (x y : Bool) → ltb m 512 ≡ x → every (λ i. not (stands (9 + i) m)) 7 ≡ y → ltb m 512 ≡ every (λ i. not (stands (9 + i) m)) 7
    go true y e k = e ∙ sym (above 9 7 m (ltb-true m 512 e))
    go false true e k = absurd (low_bits (none_from m 9 7 k (div-eq_of_lt l)) (ltb-false m 512 e))
    go false false e k = e ∙ sym k
