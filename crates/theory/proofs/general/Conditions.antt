-- What `cond` gives where its test is known.
-- Assumes nothing.
use Prim.Native.Nat.{ℕ, ◌≤◌, ◌<◌}
use mathlib.Core.Path.{◌≡◌, refl}
use mathlib.Core.Bool.{Bool, true, false, not, cond}
use lib.Dec.{T, leb, le→leb}
use lib.Arith.{lt→nleb}

cond_yes {ℓ} : {A : Type ℓ} (b : Bool) (x y : A) → T b → cond b x y ≡ x
cond_yes true x y t = refl
cond_yes false x y t = absurd t

cond_no {ℓ} : {A : Type ℓ} (b : Bool) (x y : A) → T (not b) → cond b x y ≡ y
cond_no true x y t = absurd t
cond_no false x y t = refl

pub cond-le {ℓ} : {A : Type ℓ} (a b : ℕ) (x y : A) → a ≤ b → cond (leb a b) x y ≡ x
cond-le a b x y h = cond_yes (leb a b) x y (le→leb a b h)

pub cond-gt {ℓ} : {A : Type ℓ} (a b : ℕ) (x y : A) → b < a → cond (leb a b) x y ≡ y
cond-gt a b x y h = cond_no (leb a b) x y (lt→nleb a b h)
