-- From 10^12, j times × a ÷ b: that the products fit, and years taken one by one from where both ends stand. Assumes nothing.
use Prim.Native.Nat.{ℕ, zero, suc, ◌+◌, ◌*◌, ◌-◌, ◌^◌, ◌≤◌, ◌<◌}
use mathlib.Core.Path.{◌≡◌, refl, ◌∙◌}
use native.Mathlib.Omega.{arith}
use native.Mathlib.Nat.{mul-le-mul_right}
use Rattle.arith.specs.inner.Range.{TimesWithin, UpTo}
use Rattle.arith.specs.Rounding.{End, low, high, divide}
use Rattle.arith.proofs.Rounding.{divide-floor, le-divide}
use Rattle.model.specs.Constants.{unit}
use Rattle.method.specs.Rounded.{scaled}
use Rattle.arith.specs.Brackets.{bracket, end_of}
use Rattle.arith.specs.declared.bracket.Bracket.{Bracket}
use Rattle.theory.proofs.curve.Steps.{scaled-ends}
use Rattle.curves.specs.inner.Years.{scaled_from}
use Rattle.curves.specs.inner.Ranges.{ScaledWithin, YearsWithin, GrowthWithin}
use Rattle.theory.proofs.general.ByEnds.{by-ends, end_is}

scaled-none : (e : End) (a b : ℕ) → scaled e a b 0 ≡ unit
unfolding scaled
scaled-none e a b = refl

-- both ends of a bracket × a ÷ b, by what is known of its figure
times-within : (x : Bracket) (f : End → ℕ) (a b : ℕ) → x ≡ bracket f → 0 < b → b ≤ 2 ^ 40 → a ≤ 2 * b → f low ≤ f high → f high < 2 ^ 42 → TimesWithin x a b
times-within x f a b e some most ratio order upper = record {
  order = omega (arith, end_is x f e low, end_is x f e high);
  upper = omega (arith, end_is x f e high);
  some = some;
  most = most;
  ratio = ratio;
}

pub last-year-within : (x : Bracket) (n p q j : ℕ) → GrowthWithin n p q j → x ≡ bracket (λ e. scaled e p q j) → TimesWithin x p n
last-year-within x n p q j w k =
    let y = w.years in
    times-within x (λ e. scaled e p q j) p n k w.some w.most w.ratio (scaled-ends p q j y.some) (y.years j (omega arith))

-- a bracket taken once × a ÷ b, by what it was
pub taken : (x r : Bracket) (f : End → ℕ) (a b : ℕ) → x ≡ bracket f → r ≡ bracket (λ e. divide e (end_of x e * a) b) → r ≡ bracket (λ e. divide e (f e * a) b)
taken x r f a b k l = l ∙ by-ends (λ e. divide e (end_of x e * a) b) (λ e. divide e (f e * a) b) (λ e. rw (end_is x f k e))

-- ---- years taken from where both ends stand
first-year : (e : End) (a b x j : ℕ) → 0 < j → scaled_from e a b (divide e (x * a) b) (j - 1) ≡ scaled_from e a b x j
unfolding scaled_from
first-year e a b x zero h = absurd (let z : ⊥ = omega arith in z)
first-year e a b x (suc j) h = let k : suc j - 1 ≡ j = omega arith in rw k

-- the first year first or the last: after i years, j more
after-years : (e : End) (a b i j : ℕ) → scaled_from e a b (scaled e a b i) j ≡ scaled e a b (i + j)
unfolding scaled_from scaled
after-years e a b i zero = let k : i + 0 ≡ i = omega arith in rw k
after-years e a b i (suc j) = let k : i + suc j ≡ suc i + j = omega arith in rw k (after-years e a b (suc i) j)

pub all-taken : (e : End) (a b j : ℕ) → scaled_from e a b unit j ≡ scaled e a b j
all-taken e a b j = let k : 0 + j ≡ j = omega arith in rw (← scaled-none e a b) (rw k at (after-years e a b 0 j))

-- from 10^12
abbrev one : Bracket
one = record { lower = unit; upper = unit }

pub years-within : (a b j : ℕ) → ScaledWithin a b j → YearsWithin a b one j
years-within a b j w = record {
  some = w.some;
  order = omega arith;
  years = λ i h. rw (all-taken high a b i) (omega (arith, w.years i (omega arith)));
}

pub all-years : (a b j : ℕ) (r : Bracket) → r ≡ bracket (λ e. scaled_from e a b (end_of one e) j) → r ≡ bracket (λ e. scaled e a b j)
all-years a b j r k = k ∙ by-ends (λ e. scaled_from e a b (end_of one e) j) (λ e. scaled e a b j) from-one
  where
    from-one : (e : End) → scaled_from e a b (end_of one e) j ≡ scaled e a b j
    from-one low = all-taken low a b j
    from-one high = all-taken high a b j

pub none_taken : (a b : ℕ) (x : Bracket) (j : ℕ) → j ≡ 0 → x ≡ bracket (λ e. scaled_from e a b (end_of x e) j)
unfolding scaled_from
none_taken a b x j h = rw h

module _ (a b : ℕ) (x : Bracket) (j : ℕ) (w : YearsWithin a b x j) (some : 0 < j) where
  upper-most : x.upper < 2 ^ 46
  unfolding scaled_from
  upper-most = w.years 0 some

  pub both-in : UpTo (2 ^ 46 - 1) x
  both-in = record { lower = omega (arith, w.order, upper-most); upper = omega (arith, upper-most) }

  -- one year is taken, and the others are left
  module _ (r : Bracket) (is : r ≡ bracket (λ e. divide e (end_of x e * a) b)) where
    lower_is : r.lower ≡ divide low (x.lower * a) b
    lower_is = end_is r (λ e. divide e (end_of x e * a) b) is low

    upper_is : r.upper ≡ divide high (x.upper * a) b
    upper_is = end_is r (λ e. divide e (end_of x e * a) b) is high

    ends-order : divide low (x.lower * a) b ≤ divide high (x.upper * a) b
    ends-order =
        le-divide high (x.upper * a) b (divide low (x.lower * a) b) w.some
        (omega (arith, divide-floor (x.lower * a) b w.some, mul-le-mul_right a w.order))

    pub year-less : YearsWithin a b r (j - 1)
    unfolding scaled_from
    year-less = record {
      some = w.some;
      order = rw (lower_is, upper_is) ends-order;
      years = λ i m. rw upper_is (w.years (suc i) (omega arith));
    }

    pub then-taken : (z : Bracket) → z ≡ bracket (λ e. scaled_from e a b (end_of r e) (j - 1)) → z ≡ bracket (λ e. scaled_from e a b (end_of x e) j)
    then-taken z h =
        h ∙ by-ends (λ e. scaled_from e a b (end_of r e) (j - 1)) (λ e. scaled_from e a b (end_of x e) j)
        (λ e. rw (end_is r (λ e. divide e (end_of x e * a) b) is e) (first-year e a b (end_of x e) j some))
