-- The limits of 6, as the code tests them.
use Rattle.std.proofs.Common.{◌≡◌, ◌∙◌, ℕ, suc, ◌+◌, ◌*◌, ◌≤◌, ◌<◌, Bool, true, false, ◌&&◌, List, ap, sym, refl, arith, ℤ, pos, negsuc, neg_ℤ, ◌-ℤ◌, ◌*ℤ◌, to_z, of_z, w64}
use Rattle.std.proofs.lemmas.Int.{ints}
use mathlib.Core.Path.{ap₂}
use lib.Signed.{le_z}
use Rattle.model.specs.Numbers.{every}
use Rattle.model.specs.Limits.{Between}
use Rattle.theory.proofs.general.Lists.{every-at}
use Rattle.fields.specs.Sums.{Bounded, difference_right}

module _ (u : ℕ) (last next : ℤ) (few : u ≤ 25500) (l : Between (neg_ℤ (pos 66000000000000)) (pos 66000000000000) last)
    (n : Between (neg_ℤ (pos 66000000000000)) (pos 66000000000000) next) where
  abbrev forward : ℤ
  forward = to_z w64 (of_z w64 (to_z w64 (of_z w64 next) -ℤ to_z w64 (of_z w64 last)))

  abbrev lower : ℤ
  lower = to_z w64 (of_z w64 (negsuc 1999 *ℤ to_z w64 u))

  abbrev upper : ℤ
  upper = to_z w64 (of_z w64 (pos 12000 *ℤ to_z w64 u))

  forward-is : forward ≡ next -ℤ last
  forward-is = omega (arith, ints, l.least, l.most, n.least, n.most)

  lower-is : lower ≡ neg_ℤ (pos (2000 * u))
  lower-is = omega (arith, ints)

  upper-is : upper ≡ pos (12000 * u)
  upper-is = omega (arith, ints)

  pub when-low : le_z lower forward ≡ true → le_z forward upper ≡ difference_right u last next
  when-low e = ap (λ b. b && le_z forward upper) (sym e) ∙ ap₂ (λ a b. a && b) (ap₂ le_z lower-is forward-is) (ap₂ le_z forward-is upper-is)

  pub when-below : le_z lower forward ≡ false → le_z lower forward ≡ difference_right u last next
  when-below e = e ∙ ap (λ b. b && le_z (next -ℤ last) (pos (12000 * u))) (sym e ∙ ap₂ le_z lower-is forward-is)

-- a sum that is handed on
pub sum-passed : (z : ℤ) (u : ℕ) → u ≤ 25500 → Between (neg_ℤ (pos (10000 * u))) (pos (10000 * u)) z → to_z w64 (of_z w64 z) ≡ z
sum-passed z u l h = omega (arith, ints, h.least, h.most)

pub term-passed : (z : ℤ) → Between (neg_ℤ (pos 1100000000000)) (pos 1100000000000) z → to_z w64 (of_z w64 z) ≡ z
term-passed z h = omega (arith, ints, h.least, h.most)

pub product-passed : (z : ℤ) → Between (neg_ℤ (pos 66000000000000)) (pos 66000000000000) z → to_z w64 (of_z w64 z) ≡ z
product-passed z h = omega (arith, ints, h.least, h.most)

-- sums of days within the limits are within those that any 255 days leave
pub days-bounded : (u : ℕ) {sums : List ℤ} → u ≤ 25500 → Bounded (10000 * u) sums → Bounded 1100000000000 sums
days-bounded u few h = record {
  each = λ t l.
      let b = h.each t l in record { least = omega (arith, ints, b.least); most = omega (arith, ints, b.most) };
}

-- one test more
pub every-next : (test : ℕ → Bool) (t : ℕ) → every test t ≡ true → test t ≡ true → every test (t + 1) ≡ true
unfolding every
every-next test t h k = let e : t + 1 ≡ suc t = omega arith in rw (e, h) k

pub not-every : (test : ℕ → Bool) (n t : ℕ) → t < n → test t ≡ false → every test n ≡ false
not-every test n t l h = go (every test n) refl
  where
    go : (b : Bool) → every test n ≡ b → b ≡ false
    go false e = refl
    go true e = sym (every-at test n t e l) ∙ h
