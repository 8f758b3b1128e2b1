-- The worth of flows, at any factors whose terms lie in their brackets: pension flows at the adjusted factors to term 120, bond flows at
-- the unadjusted ones to term 60.
-- Assumes nothing.
use Prim.Native.Nat.{ℕ, suc, ◌+◌, ◌*◌, ◌^◌, ◌≤◌, ◌<◌}
use mathlib.Core.Path.{◌≡◌, refl}
use mathlib.Core.List.{List, [], ◌∷◌}
use native.Mathlib.Omega.{arith}
use native.Mathlib.Nat.{mul-le-mul, mul-le-mul_left, mul-pos, le_trans}
use lib.ListN.{length, get_or}
use Rattle.arith.specs.Rounding.{End, low, high, divide}
use Rattle.arith.proofs.Rounding.{divide-floor, divide-ceiling, divide-le}
use Rattle.arith.proofs.Ends.{◌and◌, ◌times◌, from, cancel, divide-end}
use Rattle.model.specs.Constants.{unit}
use Rattle.method.specs.Fraction.{Fraction, ◌*ᶠ◌, whole}
use Rattle.method.specs.Curve.{Curve}
use Rattle.method.specs.Exact as Exact
use Rattle.method.specs.Rounded as Rounded
use Rattle.method.specs.Margins.{weighted_sum, W}
use Rattle.method.specs.inner.CurveWithin.{CurveWithin}
use Rattle.theory.proofs.curve.Bracket.{Bounded}
use Rattle.theory.proofs.curve.Steps.{exactly, sum}
use Rattle.theory.proofs.curve.Unadjusted.{unadjusted-in, unadjusted-den, unadjusted-width}
use Rattle.theory.proofs.curve.Factor.{factor-in, factor-den}
use Rattle.theory.proofs.curve.Width.{factor-width}

-- what is known of rounded factors beside exact ones, at the terms to `last`
pub record FactorsIn (last : ℕ) (rounded : End → ℕ → ℕ) (exact : ℕ → Fraction) : Type 0 where
  pub bracket : (e : End) (t : ℕ) → t ≤ last → Bounded e unit (rounded e t) (exact t)
  pub real : (t : ℕ) → t ≤ last → 0 < (exact t).den
  pub width : (t : ℕ) → t ≤ last → rounded high t ≤ rounded low t + 4 * t * t

pub adjusted-known : (c : Curve) → CurveWithin c → FactorsIn 120 (Rounded.factor c) (Exact.factor c)
adjusted-known c w = record { bracket = λ e t h. factor-in c w e t; real = λ t h. factor-den c w t; width = λ t h. factor-width c w t }

pub unadjusted-known : (c : Curve) → CurveWithin c → FactorsIn 60 (Rounded.unadjusted c) (Exact.unadjusted c)
unadjusted-known c w = record { bracket = unadjusted-in c w; real = unadjusted-den c w; width = unadjusted-width c w }

-- one flow
flow : {e : End} {f : ℕ} {F : Fraction} (x : ℕ) → Bounded e unit f F → Bounded e 1 (divide e (x * f) (10 ^ 10)) (whole (100 * x) *ᶠ F)
flow {e} {f} {F} x h =
    record { is = cancel {c = 10 ^ 10} (omega arith) (from (divide-end e (x * f) (10 ^ 10) (omega arith) times F.den and h.is times x) (omega arith)) }

flow-wide : (x lo hi v : ℕ) → hi ≤ lo + v → divide high (x * hi) (10 ^ 10) * 10 ^ 10 ≤ divide low (x * lo) (10 ^ 10) * 10 ^ 10 + 2 * 10 ^ 10 + v * x
flow-wide x lo hi v h = omega (arith, mul-le-mul_left x h, divide-floor (x * lo) (10 ^ 10) (omega arith), divide-ceiling (x * hi) (10 ^ 10) (omega arith))

-- flows from term t on, none past the last term
module _ {last : ℕ} {f : End → ℕ → ℕ} {F : ℕ → Fraction} (k : FactorsIn last f F) where
  pub worth-in : (e : End) (t : ℕ) (xs : List ℕ) → t + length xs ≤ suc last → Bounded e 1 (Rounded.worth e (f e) t xs) (Exact.worth F t xs)
  unfolding Exact.worth Rounded.worth
  worth-in e t [] h = exactly (omega arith)
  worth-in e t (x ∷ xs) h = sum (flow x (k.bracket e t (omega arith))) (worth-in e (suc t) xs (omega arith))

  pub worth-den : (t : ℕ) (xs : List ℕ) → t + length xs ≤ suc last → 0 < (Exact.worth F t xs).den
  unfolding Exact.worth
  worth-den t [] h = omega arith
  worth-den t (x ∷ xs) h = mul-pos (mul-pos (omega arith) (k.real t (omega arith))) (worth-den (suc t) xs (omega arith))

  -- at most 2 cents a flow, and the factors' widths
  worth-wide : (t : ℕ) (xs : List ℕ) → t + length xs ≤ suc last
      → Rounded.worth high (f high) t xs * 10 ^ 10 ≤ Rounded.worth low (f low) t xs * 10 ^ 10 + 2 * length xs * 10 ^ 10 + weighted_sum t xs
  unfolding Rounded.worth weighted_sum
  worth-wide t [] h = omega arith
  worth-wide t (x ∷ xs) h =
      omega (arith, flow-wide x (f low t) (f high t) (4 * t * t) (k.width t (omega arith)), worth-wide (suc t) xs (omega arith))

  pub worth-width : (xs : List ℕ) → length xs ≤ last → Rounded.worth high (f high) 1 xs ≤ Rounded.worth low (f low) 1 xs + W xs
  worth-width xs h = omega (arith, worth-wide 1 xs (omega arith), divide-ceiling (weighted_sum 1 xs) (10 ^ 10) (omega arith))

-- flows of at most 100,000,000 euros, at factors of at most `most` × 10^11
pub worth-most : (most last : ℕ) (e : End) (f : ℕ → ℕ) → ((t : ℕ) → t ≤ last → f t ≤ most * 10 ^ 11) → (t : ℕ) (xs : List ℕ) → t + length xs ≤ suc last
    → ((i : ℕ) → i < length xs → get_or xs i 0 ≤ 100000000) → Rounded.worth e f t xs ≤ most * 10 ^ 9 * length xs
unfolding Rounded.worth
worth-most most last e f k t [] h l = omega arith
worth-most most last e f k t (x ∷ xs) h l =
    omega (
      arith,
      divide-le e (x * f t) (10 ^ 10) (most * 10 ^ 9) (omega arith)
          (le_trans (mul-le-mul (l 0 (omega arith)) (k t (omega arith))) (omega arith)),
      worth-most most last e f k (suc t) xs (omega arith) (λ i m. l (suc i) (omega arith)),
    )

-- the same factors at the terms that flows have, the same worth, in both workings
module _ (last : ℕ) where
  pub same-worth : (e : End) (f g : ℕ → ℕ) → ((t : ℕ) → 1 ≤ t → t ≤ last → f t ≡ g t) → (t : ℕ) (xs : List ℕ) → 1 ≤ t → t + length xs ≤ suc last
      → Rounded.worth e f t xs ≡ Rounded.worth e g t xs
  unfolding Rounded.worth
  same-worth e f g k t [] l h = refl
  same-worth e f g k t (x ∷ xs) l h = rw (k t l (omega arith), same-worth e f g k (suc t) xs (omega arith) (omega arith))

  pub same-exact-worth : (f g : ℕ → Fraction) → ((t : ℕ) → t ≤ last → f t ≡ g t) → (t : ℕ) (xs : List ℕ) → t + length xs ≤ suc last
      → Exact.worth f t xs ≡ Exact.worth g t xs
  unfolding Exact.worth
  same-exact-worth f g k t [] h = refl
  same-exact-worth f g k t (x ∷ xs) h = rw (k t (omega arith), same-exact-worth f g k (suc t) xs (omega arith))
