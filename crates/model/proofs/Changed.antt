-- What it means to change one field of a case: the field is then the new one; a case that is given its own field is itself; and of two
-- changes the last one counts. Together these leave no other field to change. Assumes nothing.
use mathlib.Core.List.{List}
use mathlib.Core.Path.{◌≡◌, refl}
use Prim.Native.Nat.{ℕ}
use lib.IntN.{ℤ}
use Rattle.model.specs.Case.{FileCase, with_ufr, with_days, with_pension}

-- a field of a case with the function that changes it
record Changes {A : Type 0} (field : FileCase → A) (change : A → FileCase → FileCase) : Type 0 where
  is : (a : A) (k : FileCase) → field (change a k) ≡ a
  own : (k : FileCase) → change (field k) k ≡ k
  last : (a b : A) (k : FileCase) → change b (change a k) ≡ change b k

changes-ufr : Changes (λ k. k.ufr) with_ufr
changes-ufr = record { is = λ a k. refl; own = λ k. refl; last = λ a b k. refl }

changes-days : Changes {A = ℕ × List (List ℤ)} (λ k. (k.rate_bytes, k.days)) (λ a. with_days a.0 a.1)
changes-days = record { is = λ a k. refl; own = λ k. refl; last = λ a b k. refl }

changes-pension : Changes (λ k. k.pension) with_pension
changes-pension = record { is = λ a k. refl; own = λ k. refl; last = λ a b k. refl }
