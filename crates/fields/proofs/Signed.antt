-- Two bytes, and four, as a signed number.
use Rattle.std.proofs.Common.{◌≡◌, ◌∙◌, refl, ap, sym, ℕ, zero, suc, ◌+◌, ◌*◌, ◌-◌, ◌<◌, Bool, true, false, cond, List, [], ◌∷◌, get_or, ltb, arith, ℤ, pos, negsuc, ◌-ℤ◌, FitsSigned, to_z, of_z, w8, w16, w32}
use native.Mathlib.Nat.{not-suc-le-zero}
use borrow.Author.Tests.{ltb-true, ltb-false, lt-ltb, le-ltb}
use mir.Val.{Fits}
use Rattle.std.proofs.lemmas.Int.{to_z-of_z, to_z_pos}
use Rattle.std.specs.Int.{from_be_bytes}
use Rattle.model.specs.Numbers.{number, twos_complement}

below : (v M : ℕ) → v < M → pos v -ℤ pos M ≡ negsuc (M - suc v)
below v zero h = absurd (not-suc-le-zero h)
below v (suc m) h = rw (lt-ltb v (suc m) h)

signed_16 : (v : ℕ) → v < 65536 → to_z w16 v ≡ twos_complement 2 v
signed_16 v small = go (ltb (2 * v) 65536) refl
  where
    go : (b : Bool) → ltb (2 * v) 65536 ≡ b → to_z w16 v ≡ cond b (pos v) (pos v -ℤ pos 65536)
    go true e = let low = ltb-true (2 * v) 65536 e in to_z_pos w16 v (omega arith)
    go false e = let high = ltb-false (2 * v) 65536 e in rw (le-ltb v 32768 (omega arith)) (sym (below v 65536 small))

signed_32 : (v : ℕ) → v < 4294967296 → to_z w32 v ≡ twos_complement 4 v
signed_32 v small = go (ltb (2 * v) 4294967296) refl
  where
    go : (b : Bool) → ltb (2 * v) 4294967296 ≡ b → to_z w32 v ≡ cond b (pos v) (pos v -ℤ pos 4294967296)
    go true e = let low = ltb-true (2 * v) 4294967296 e in to_z_pos w32 v (omega arith)
    go false e = let high = ltb-false (2 * v) 4294967296 e in rw (le-ltb v 2147483648 (omega arith)) (sym (below v 4294967296 small))

module _ (bytes : List ℕ) (small : (i : ℕ) → Fits w8 (get_or bytes i 0)) where
  abbrev byte : ℕ → ℕ
  byte i = get_or bytes i 0

  two_bytes : number bytes 0 2 ≡ byte 0 * 256 + byte 1
  unfolding number
  two_bytes = omega arith

  four_bytes : number bytes 0 4 ≡ ((byte 0 * 256 + byte 1) * 256 + byte 2) * 256 + byte 3
  unfolding number
  four_bytes = omega arith

  pub two_read : {r : ℤ} → FitsSigned w16 r → r ≡ to_z w16 (from_be_bytes w16 (byte 0 ∷ byte 1 ∷ []))
      → to_z w16 (of_z w16 r) ≡ twos_complement 2 (number bytes 0 2)
  two_read {r} fits e =
      let a = (small 0).fits in
      let b = (small 1).fits in
      let is : from_be_bytes w16 (byte 0 ∷ byte 1 ∷ []) ≡ number bytes 0 2 = sym (two_bytes ∙ omega arith) in
      to_z-of_z w16 r fits ∙ e ∙ ap (to_z w16) is ∙ signed_16 (number bytes 0 2) (omega (arith, two_bytes))

  pub four_read : {r : ℤ} → FitsSigned w32 r → r ≡ to_z w32 (from_be_bytes w32 (byte 0 ∷ byte 1 ∷ byte 2 ∷ byte 3 ∷ []))
      → to_z w32 (of_z w32 r) ≡ twos_complement 4 (number bytes 0 4)
  four_read {r} fits e =
      let a = (small 0).fits in
      let b = (small 1).fits in
      let c = (small 2).fits in
      let d = (small 3).fits in
      let is : from_be_bytes w32 (byte 0 ∷ byte 1 ∷ byte 2 ∷ byte 3 ∷ []) ≡ number bytes 0 4 = sym (four_bytes ∙ omega arith) in
      to_z-of_z w32 r fits ∙ e ∙ ap (to_z w32) is ∙ signed_32 (number bytes 0 4) (omega (arith, four_bytes))
