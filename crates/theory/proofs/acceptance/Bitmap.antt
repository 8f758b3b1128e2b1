-- A map whose bits are right is the map of the fields that it announces, and the map of some fields announces them. Where bits 9 to 15 do
-- not stand, a map is one of 512, and there are sixteen choices of optional fields beside each of the two days fields: both are computed,
-- one by one.
use mathlib.Core.Path.{◌≡◌, refl, ap, sym, ◌∙◌}
use mathlib.Core.Bool.{Bool, true, false, ◌&&◌, not, cond}
use Prim.Native.Nat.{ℕ, zero, suc, ◌+◌, ◌*◌, ◌/◌, ◌%◌, ◌^◌, ◌≤◌, ◌<◌}
use native.Mathlib.Nat.{pow-suc, add-suc, add-zero, div-div-eq-div-mul, div-eq_of_lt}
use native.Mathlib.Omega.{arith}
use borrow.Author.Tests.{eqb-true, eqb-false, not-true}
use lib.Dec.{eqb, lit≤}
use Rattle.std.specs.Cmp.{first_so, second_so}
use Rattle.model.specs.Numbers.{every}
use Rattle.model.specs.Case.{known_form}
use Rattle.model.specs.Layout.{Present, map_of, stands, rate_bytes_in, present_in}
use Rattle.model.specs.Refusals.{exactly_one, bits_right}
use Rattle.theory.proofs.acceptance.Form.{by_form}
use Rattle.theory.proofs.general.Lists.{every-at}

-- where the n bits from bit i on do not stand and no bit above them does, no bit from i on does
pub none_from : (m i n : ℕ) → every (λ j. not (stands (i + j) m)) n ≡ true → m / 2 ^ (i + n) ≡ 0 → m / 2 ^ i ≡ 0
unfolding every
none_from m i zero h z = ap (λ k. m / 2 ^ k) (sym (add-zero i)) ∙ z
none_from m i (suc n) h z =
    let front = every (λ j. not (stands (i + j) m)) n in
    let q = m / 2 ^ (i + n) in
    let e : 2 ^ (i + n) * 2 ≡ 2 ^ (i + suc n) = rw (add-suc, pow-suc) in
    let c : q / 2 ≡ 0 = div-div-eq-div-mul m (2 ^ (i + n)) 2 ∙ ap (λ k. m / k) e ∙ z in
    let b = eqb-false (q % 2) 1 (not-true (stands (i + n) m) (second_so front (not (stands (i + n) m)) h)) in
    none_from m i n (first_so front (not (stands (i + n) m)) h) (half q c b)
  where
    half : (q : ℕ) → q / 2 ≡ 0 → (q % 2 ≡ 1 → ⊥) → q ≡ 0
    half q e b = omega arith

pub one-days-field : (m : ℕ) → bits_right m ≡ true → exactly_one (stands 1 m) (stands 7 m) ≡ true
one-days-field m h =
    let one = exactly_one (stands 1 m) (stands 7 m) in
    let two = one && stands 2 m in
    let five = two && stands 5 m in
    let six = five && stands 6 m in
    first_so one (stands 2 m)
    (first_so two (stands 5 m) (first_so five (stands 6 m) (first_so six (every (λ j. not (stands (9 + j) m)) 7) h)))

-- a map below 512 whose bits are right is that of the fields it announces: computed of each
test : ℕ → Bool
test m = cond (bits_right m) (eqb m (map_of (rate_bytes_in m) (present_in m))) true

tested : every test 512 ≡ true
unfolding every test
tested = refl

pub map-of-present : (m : ℕ) → m < 65536 → bits_right m ≡ true → map_of (rate_bytes_in m) (present_in m) ≡ m
unfolding test
map-of-present m l h =
    let must = exactly_one (stands 1 m) (stands 7 m) && stands 2 m && stands 5 m && stands 6 m in
    let k = second_so must (every (λ j. not (stands (9 + j) m)) 7) h in
    let z : m / 512 ≡ 0 = none_from m 9 7 k (div-eq_of_lt l) in
    let t = every-at test 512 m tested (omega arith) in
    sym (eqb-true m (map_of (rate_bytes_in m) (present_in m)) (rw h at t))

-- the other way: computed of each choice
abbrev Announced : ℕ → Present → Type 0
Announced w p = (bits_right (map_of w p) ≡ true) × (map_of w p ≤ 65535) × (present_in (map_of w p) ≡ p) × (rate_bytes_in (map_of w p) ≡ w)

pub announced : (w : ℕ) (p : Present) → known_form w ≡ true → Announced w p
unfolding every
announced w p known =
    by_form (λ v. Announced v p) w known (two p.ufr p.bonds p.amounts p.equity) (four p.ufr p.bonds p.amounts p.equity)
  where
    two : (u b a q : Bool) → Announced 2 (record { ufr = u; bonds = b; amounts = a; equity = q })
    two true true true true = (refl, lit≤ tt, refl, refl)
    two true true true false = (refl, lit≤ tt, refl, refl)
    two true true false true = (refl, lit≤ tt, refl, refl)
    two true true false false = (refl, lit≤ tt, refl, refl)
    two true false true true = (refl, lit≤ tt, refl, refl)
    two true false true false = (refl, lit≤ tt, refl, refl)
    two true false false true = (refl, lit≤ tt, refl, refl)
    two true false false false = (refl, lit≤ tt, refl, refl)
    two false true true true = (refl, lit≤ tt, refl, refl)
    two false true true false = (refl, lit≤ tt, refl, refl)
    two false true false true = (refl, lit≤ tt, refl, refl)
    two false true false false = (refl, lit≤ tt, refl, refl)
    two false false true true = (refl, lit≤ tt, refl, refl)
    two false false true false = (refl, lit≤ tt, refl, refl)
    two false false false true = (refl, lit≤ tt, refl, refl)
    two false false false false = (refl, lit≤ tt, refl, refl)

    four : (u b a q : Bool) → Announced 4 (record { ufr = u; bonds = b; amounts = a; equity = q })
    four true true true true = (refl, lit≤ tt, refl, refl)
    four true true true false = (refl, lit≤ tt, refl, refl)
    four true true false true = (refl, lit≤ tt, refl, refl)
    four true true false false = (refl, lit≤ tt, refl, refl)
    four true false true true = (refl, lit≤ tt, refl, refl)
    four true false true false = (refl, lit≤ tt, refl, refl)
    four true false false true = (refl, lit≤ tt, refl, refl)
    four true false false false = (refl, lit≤ tt, refl, refl)
    four false true true true = (refl, lit≤ tt, refl, refl)
    four false true true false = (refl, lit≤ tt, refl, refl)
    four false true false true = (refl, lit≤ tt, refl, refl)
    four false true false false = (refl, lit≤ tt, refl, refl)
    four false false true true = (refl, lit≤ tt, refl, refl)
    four false false true false = (refl, lit≤ tt, refl, refl)
    four false false false true = (refl, lit≤ tt, refl, refl)
    four false false false false = (refl, lit≤ tt, refl, refl)
