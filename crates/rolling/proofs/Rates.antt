-- Rates that are copied, one more at a time; and a day among the chunks of the rates.
use Prim.Native.Nat.{ℕ, zero, suc, ◌+◌, ◌*◌, ◌<◌}
use mathlib.Core.Path.{◌≡◌, refl, ap, sym, ◌∙◌}
use mathlib.Core.Bool.{Bool, ◌&&◌}
use mathlib.Core.List.{List, [], ◌∷◌, ◌++◌}
use native.Mathlib.Nat.{not-suc-le-zero, le_of_suc-le-suc}
use native.Mathlib.Numerals.{add-one}
use native.Mathlib.Omega.{arith}
use borrow.Author.Tests.{eq-eqb}
use lib.IntN.{ℤ}
use lib.ListN.{length, get_or, take, drop, set}
use lib.Seq.{take-suc, drop-drop, length-take-le}
use Rattle.std.specs.List.{list_all}
use Rattle.std.specs.Simd.{first_chunks}
use Rattle.model.specs.Fields.{Fixed, right_all}
use Rattle.model.specs.Layout.{daily_rate, day}
use Rattle.theory.proofs.general.Lists.{one-filled}

module _ {A : Type 0} (x : Fixed A) where
  -- the test of each is what `all` answers
  pub all_right : (vs : List A) → list_all x.right vs ≡ right_all x vs
  all_right [] = refl
  all_right (v ∷ vs) = ap (λ b. x.right v && b) (all_right vs)

pub copy-filled : {A : Type 0} (xs held out : List A) (i : ℕ) (v d : A) → i < length xs → i < length held → v ≡ get_or xs i d
    → out ≡ take i xs ++ drop i held → set out i v ≡ take (i + 1) xs ++ drop (i + 1) held
copy-filled {A} xs held out i v d l h k e =
    one-filled held out (take i xs) i v (length-take-le i xs (omega arith)) h e
    ∙ ap (λ (y : A). (take i xs ++ (y ∷ [])) ++ drop (i + 1) held) k
    ∙ ap (λ (front : List A). front ++ drop (i + 1) held) (sym (take-suc xs i d l))
    ∙ ap (λ (n : ℕ). take n xs ++ drop (i + 1) held) (sym (add-one i))

-- a day of 60 rates is right if each of them is
pub day-right : (new : List ℤ) {b : Bool} → length new ≡ 60 → right_all (daily_rate 2) new ≡ b → (day 2).right new ≡ b
day-right new long h = ap (λ a. a && right_all (daily_rate 2) new) (eq-eqb (length new) 60 long) ∙ h

-- chunk i of a list that is cut into chunks of n
pub chunk-at : {A : Type 0} (n k : ℕ) (xs : List A) (i : ℕ) (d : List A) → i < k → get_or (first_chunks n k xs) i d ≡ take n (drop (n * i) xs)
chunk-at n zero xs i d l = absurd (not-suc-le-zero l)
chunk-at {A} n (suc k) xs zero d l = let e : 0 ≡ n * 0 = omega arith in ap (λ j. take n (drop j xs)) e
chunk-at {A} n (suc k) xs (suc i) d l =
    let e : n + n * i ≡ n * suc i = omega arith in
    chunk-at n k (drop n xs) i d (le_of_suc-le-suc l) ∙ ap (take n) (drop-drop (n * i) n xs ∙ ap (λ j. drop j xs) e)
