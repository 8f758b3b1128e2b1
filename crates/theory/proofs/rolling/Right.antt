-- What a window has that 27 does not refuse, as facts and as a test.
use Prim.Native.Nat.{ℕ, suc, ◌<◌}
use mathlib.Core.Path.{◌≡◌, sym, ap, subst}
use mathlib.Core.Bool.{Bool, true, ◌&&◌}
use mathlib.Core.List.{List}
use native.Mathlib.Nat.{le_antisymm}
use native.Mathlib.Omega.{arith}
use borrow.Author.Tests.{le-leb, lt-ltb, leb-true, ltb-true, eqb-true}
use lib.Dec.{T, leb, ltb, eqb}
use lib.ListN.{length, get_or}
use lib.IntN.{ℤ, pos, negsuc}
use lib.Signed.{le_z}
use Rattle.std.proofs.lemmas.Bool.{and_from}
use Rattle.std.specs.Cmp.{first_so, second_so}
use Rattle.model.specs.Numbers.{every}
use Rattle.model.specs.Case.{s}
use Rattle.model.specs.Fields.{right_all}
use Rattle.model.specs.Layout.{daily_rate, day}
use Rattle.rollingmodel.specs.Rolling.{days_held, sums_of, equal_z, rolling_right}
use Rattle.rollingmodel.specs.Promises.{Right}
use Rattle.rollingmodel.specs.declared.RollingWindow.{RollingWindow}
use Rattle.theory.proofs.general.Lists.{every-at, every-all, get_or-table}

-- ---- a test of two integers, both ways

pub equal-true : (y z : ℤ) → equal_z y z ≡ true → y ≡ z
equal-true (pos a) (pos b) h =
    ap pos (le_antisymm (leb-true a b (first_so (leb a b) (leb b a) h)) (leb-true b a (second_so (leb a b) (leb b a) h)))
equal-true (pos a) (negsuc b) h = absurd (subst T (sym h) tt)
equal-true (negsuc a) (pos b) h = absurd (subst T (sym h) tt)
equal-true (negsuc a) (negsuc b) h =
    ap negsuc (le_antisymm (leb-true a b (second_so (leb b a) (leb a b) h)) (leb-true b a (first_so (leb b a) (leb a b) h)))

pub equal-test : (y z : ℤ) → y ≡ z → equal_z y z ≡ true
equal-test y z e = subst (λ x. equal_z y x ≡ true) e (and_from (le_z y y) (le_z y y) (self y) (self y))
  where
    self : (z : ℤ) → le_z z z ≡ true
    self (pos a) = le-leb a a (omega arith)
    self (negsuc a) = le-leb a a (omega arith)

-- ---- a day and the sums of days

-- a day within the limits has 60 rates
pub day-whole : (new : List ℤ) → (day 2).right new ≡ true → length new ≡ 60
day-whole new h = eqb-true (length new) 60 (first_so (eqb (length new) 60) (right_all (daily_rate 2) new) h)

pub sums_at : (days : List (List ℤ)) (t : ℕ) → t < 60 → get_or (sums_of days) t (pos 0) ≡ s days (suc t)
unfolding sums_of
sums_at days t h = get_or-table (λ i. s days (suc i)) 60 t (pos 0) h

-- ---- a window, both ways

module _ (w : RollingWindow) where
  -- the stored sum of term t + 1 and that of the days held
  abbrev stored : ℕ → ℤ
  stored t = get_or w.sums t (pos 0)

  abbrev summed : ℕ → ℤ
  summed t = s (days_held w) (suc t)

  abbrev sums_right : Bool
  sums_right = every (λ t. equal_z (stored t) (summed t)) 60

  pub right-facts : rolling_right w ≡ true → Right w
  unfolding rolling_right
  right-facts h =
      let c = leb w.count 70 in
      let p = ltb w.start 70 in
      let d = right_all (day 2) (days_held w) in
      let front = first_so (c && p && d) sums_right h in
      let place = first_so (c && p) d front in
      record {
        count = leb-true w.count 70 (first_so c p place);
        start = ltb-true w.start 70 (second_so c p place);
        days = second_so (c && p) d front;
        sums = λ t l.
            equal-true (stored t) (summed t) (every-at (λ i. equal_z (stored i) (summed i)) 60 t (second_so (c && p && d) sums_right h) l);
      }

  pub facts-right : Right w → rolling_right w ≡ true
  unfolding rolling_right
  facts-right r =
      rw (le-leb w.count 70 r.count, lt-ltb w.start 70 r.start, r.days)
      (every-all (λ i. equal_z (stored i) (summed i)) 60
      (λ t l. equal-test (stored t) (summed t) (r.sums t l)))
