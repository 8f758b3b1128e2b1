-- The sums per term, with a day more after the newest and with the oldest day less, and how large they are.
use Prim.Native.Nat.{ℕ, suc, ◌*◌, ◌≤◌, ◌<◌}
use mathlib.Core.Path.{◌≡◌, refl, ap, sym, ◌∙◌}
use mathlib.Core.Bool.{true}
use mathlib.Core.List.{List, [], ◌∷◌, ◌++◌}
use native.Mathlib.Omega.{arith}
use lib.ListN.{length, get_or, drop}
use lib.IntN.{ℤ, pos, ◌+ℤ◌, ◌-ℤ◌}
use mir.Syntax.{w16, w64}
use mir.Val.{to_z, of_z}
use Rattle.std.proofs.Common.{FitsSigned}
use Rattle.std.proofs.lemmas.Int.{ints}
use Rattle.model.specs.Case.{s}
use Rattle.model.specs.Fields.{right_all}
use Rattle.model.specs.Layout.{day}
use Rattle.model.specs.Numbers.{table}
use Rattle.rollingmodel.specs.Rolling.{sums_of}
use Rattle.theory.proofs.general.Lists.{table_same}
use Rattle.theory.proofs.rolling.Right.{sums_at}
use Rattle.fields.specs.Sums.{Bounded}
use Rattle.fields.proofs.DayRates.{entry_kept}
use Rattle.fields.proofs.DaySums.{sum-bound, sums-more}
use Rattle.rolling.specs.inner.Sums.{plus, minus}

-- ---- one term

-- a sum that a loop over the terms has not come to, and the rate of its term, of 16 bits
module _ (f : ℕ → ℤ) {held out : List ℤ} (t : ℕ) (there : t < 60) (long : length held ≡ 60) (small : Bounded 1000000 held)
    (e : out ≡ table f t ++ drop t held) {rate r : ℤ} (fits : FitsSigned w16 rate) (read : r ≡ to_z w16 (of_z w16 rate)) where
  abbrev sum : ℤ
  sum = to_z w64 (of_z w64 (get_or out t (pos 0)))

  same : get_or out t (pos 0) ≡ get_or held t (pos 0)
  same = entry_kept f held out t (omega arith) e

  pub add-fits : FitsSigned w64 (sum +ℤ to_z w64 (of_z w64 r))
  add-fits = let kept = same in let near = small.each t there in omega (arith, ints, near.least, near.most)

  pub add-is : to_z w64 (of_z w64 (sum +ℤ to_z w64 (of_z w64 r))) ≡ get_or held t (pos 0) +ℤ rate
  add-is = let kept = same in let near = small.each t there in omega (arith, ints, near.least, near.most)

  pub subtract-fits : FitsSigned w64 (sum -ℤ to_z w64 (of_z w64 r))
  subtract-fits = let kept = same in let near = small.each t there in omega (arith, ints, near.least, near.most)

  pub subtract-is : to_z w64 (of_z w64 (sum -ℤ to_z w64 (of_z w64 r))) ≡ get_or held t (pos 0) -ℤ rate
  subtract-is = let kept = same in let near = small.each t there in omega (arith, ints, near.least, near.most)

-- ---- the sums of days

s-first : (first : List ℤ) (days : List (List ℤ)) (t : ℕ) → s (first ∷ days) (suc t) ≡ get_or first t (pos 0) +ℤ s days (suc t)
unfolding s
s-first first days t = refl

-- these are the sums of some days
abbrev pub AreSums : List ℤ → List (List ℤ) → Type 0
AreSums sums days = (t : ℕ) → t < 60 → get_or sums t (pos 0) ≡ s days (suc t)

module _ (sums : List ℤ) (days : List (List ℤ)) (are : AreSums sums days) where
  pub sums-small : (most : ℕ) → 10000 * length days ≤ most → right_all (day 2) days ≡ true → Bounded most sums
  sums-small most few right = record {
    each = λ t l.
        let bound = sum-bound 2 days right t l in
        rw (are t l) (record { least = omega (arith, ints, bound.least); most = omega (arith, ints, bound.most) });
  }

  pub plus-is : (new : List ℤ) → plus sums new ≡ sums_of (days ++ (new ∷ []))
  unfolding sums_of
  plus-is new =
      table_same (λ t. get_or sums t (pos 0) +ℤ get_or new t (pos 0)) (λ t. get_or (sums_of days) t (pos 0) +ℤ get_or new t (pos 0)) 60
      (λ t l. ap (λ (z : ℤ). z +ℤ get_or new t (pos 0)) (are t l ∙ sym (sums_at days t l)))
      ∙ sums-more days new

pub minus-is : (sums first : List ℤ) (rest : List (List ℤ)) → AreSums sums (first ∷ rest) → minus sums first ≡ sums_of rest
unfolding sums_of
minus-is sums first rest are =
    table_same (λ t. get_or sums t (pos 0) -ℤ get_or first t (pos 0)) (λ t. s rest (suc t)) 60
    (λ t l. let e = are t l in let parts = s-first first rest t in omega (arith, ints))
