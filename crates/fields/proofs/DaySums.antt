-- The sums over the days: one day more adds its rates, and no sum of days whose rates are within their limits is far from 0.
use Rattle.std.specs.Cmp.{first_so, second_so}
use Rattle.std.proofs.Common.{◌-ℤ◌, ◌*ℤ◌, zero, ◌≡◌, ◌∙◌, ℕ, suc, ◌+◌, ◌*◌, ◌-◌, ◌/◌, ◌≤◌, ◌<◌, Bool, true, false, ◌&&◌, cond, List, [], ◌∷◌, ◌++◌, length, length-drop, get_or, take, drop, replicate, ap, sym, refl, arith, ℤ, pos, neg_ℤ, ◌+ℤ◌}
use Rattle.std.proofs.lemmas.Int.{ints}
use Rattle.std.proofs.lemmas.Nat.{le-div}
use mathlib.Core.Path.{ap₂}
use native.Mathlib.Nat.{mul-le-mul, mul-le-mul_left, mul-div-le, mul-div_cancel_left, div-eq_of_lt-le}
use borrow.Author.Tests.{eqb-true, eq-eqb}
use lib.Dec.{eqb}
use lib.Seq.{take-append_seam, drop-append_seam, drop-drop}
use lib.ListN.{length-append}
use lib.IntN.{+ℤ_assoc, +ℤ_idl, +ℤ_idr}
use Rattle.model.specs.Constants.{steps_per_one}
use Rattle.model.specs.Numbers.{every, number, table, twos_complement}
use Rattle.model.specs.Refusals.{forwards_right}
use Rattle.method.specs.Curve.{P, base, curve, natural}
use Rattle.theory.proofs.curve.CaseCurves.{base_sum}
use Rattle.model.specs.Case.{FileCase, known_form, per_step, units_per_step, s}
use Rattle.model.specs.Limits.{Between}
use Rattle.model.specs.Fields.{value_all, right_all, within_z}
use Rattle.model.specs.Layout.{daily_rate, day}
use Rattle.theory.proofs.acceptance.Form.{by_form}
use Rattle.theory.proofs.acceptance.Runs.{right-at, values-last, values-table, values_length}
use Rattle.theory.proofs.general.Lists.{every-same, get_or-table, table_same}
use Rattle.fields.specs.Sums.{Bounded, Sums, added, forward_right, raised, sum_at, sums_of}
use Rattle.fields.proofs.DayRates.{between-true}
use Rattle.fields.proofs.Digits.{number-part}

-- one day more at the end
s-more : (ds : List (List ℤ)) (d : List ℤ) (t : ℕ) → s (ds ++ (d ∷ [])) (suc t) ≡ s ds (suc t) +ℤ get_or d t (pos 0)
unfolding s
s-more [] d t = +ℤ_idr (get_or d t (pos 0)) ∙ sym (+ℤ_idl (get_or d t (pos 0)))
s-more (first ∷ ds) d t =
    ap (λ z. get_or first t (pos 0) +ℤ z) (s-more ds d t)
    ∙ sym (+ℤ_assoc (get_or first t (pos 0)) (s ds (suc t)) (get_or d t (pos 0)))

pub sums-more : (ds : List (List ℤ)) (d : List ℤ) → added (sums_of ds) d ≡ sums_of (ds ++ (d ∷ []))
sums-more ds d =
    table_same _ _ 60
    (λ t l. ap (λ z. z +ℤ get_or d t (pos 0)) (get_or-table (λ t. s ds (suc t)) 60 t (pos 0) l) ∙ sym (s-more ds d t))

pub sums-next : (w : ℕ) (rates : List ℕ) (n : ℕ)
    → added (sums_of (value_all (day w) rates 0 n)) (value_all (daily_rate w) rates (0 + w * 60 * n) 60) ≡ sums_of (value_all (day w) rates 0 (n + 1))
sums-next w rates n =
    let ds = value_all (day w) rates 0 n in
    let e : suc n ≡ n + 1 = omega arith in
    sums-more ds (value_all (daily_rate w) rates (0 + w * 60 * n) 60)
    ∙ ap sums_of (sym (values-last (day w) rates 0 n) ∙ ap (value_all (day w) rates 0) e)

sum-between : (a b : ℤ) (m n k : ℕ) → Between (neg_ℤ (pos m)) (pos m) a → Between (neg_ℤ (pos n)) (pos n) b → m + n ≤ k
    → Between (neg_ℤ (pos k)) (pos k) (a +ℤ b)
sum-between a b m n k h j l = record {
  least = omega (arith, ints, h.least, j.least);
  most = omega (arith, ints, h.most, j.most);
}

wider : (a : ℤ) (m k : ℕ) → Between (neg_ℤ (pos m)) (pos k) a → m ≤ k → Between (neg_ℤ (pos k)) (pos k) a
wider a m k h l = record { least = omega (arith, ints, h.least); most = h.most }

module _ (w : ℕ) where
  abbrev units : ℕ
  units = units_per_step w

  pub sum-bound : (ds : List (List ℤ)) → right_all (day w) ds ≡ true → (t : ℕ) → t < 60
      → Between (neg_ℤ (pos (10000 * (units * length ds)))) (pos (10000 * (units * length ds))) (s ds (suc t))
  unfolding s
  sum-bound [] h t l = record { least = omega (arith, ints); most = omega (arith, ints) }
  sum-bound (d ∷ ds) h t l =
      let first = first_so ((day w).right d) (right_all (day w) ds) h in
      let long = eqb-true (length d) 60 (first_so (eqb (length d) 60) (right_all (daily_rate w) d) first) in
      let each = second_so (eqb (length d) 60) (right_all (daily_rate w) d) first in
      let rate = between-true (right-at (daily_rate w) d t (pos 0) (omega arith) each) in
      let rest = sum-bound ds (second_so ((day w).right d) (right_all (day w) ds) h) t l in
      sum-between (get_or d t (pos 0)) (s ds (suc t)) (10000 * units) (10000 * (units * length ds)) (10000 * (units * length (d ∷ ds)))
      (wider (get_or d t (pos 0)) (1000 * units) (10000 * units) rate (omega arith)) rest (omega arith)

  pub few-units : units ≤ 100
  few-units = go (eqb w 4)
    where
      go : (b : Bool) → cond b 100 1 ≤ 100
      go true = omega arith
      go false = omega arith

  -- n days leave room for one day more
  pub sums-room : (n : ℕ) (ds : List (List ℤ)) → right_all (day w) ds ≡ true → length ds ≤ n → Bounded (1000000 * n) (sums_of ds)
  sums-room n ds h l =
      let few = mul-le-mul {n₁ = units} {m₁ = length ds} {n₂ = 100} {m₂ = n} few-units l in record {
        each = λ t k.
            let b = sum-bound ds h t k in
            let e = get_or-table (λ t. s ds (suc t)) 60 t (pos 0) k in
            rw e (record { least = omega (arith, ints, b.least); most = omega (arith, ints, b.most) });
      }

  -- a day is right where its rates are
  pub day-right : (rates : List ℕ) (at : ℕ) → (day w).right ((day w).value rates at) ≡ right_all (daily_rate w) (value_all (daily_rate w) rates at 60)
  day-right rates at =
      ap (λ b. b && right_all (daily_rate w) (value_all (daily_rate w) rates at 60))
      (eq-eqb (length (value_all (daily_rate w) rates at 60)) 60 (values_length (daily_rate w) rates at 60))

-- the rates of a part of a file
pub rates-part : (w : ℕ) (file : List ℕ) (start m at n : ℕ) → at + w * n ≤ m
    → value_all (daily_rate w) (take m (drop start file)) at n ≡ value_all (daily_rate w) file (start + at) n
rates-part w file start m at n l =
    values-table (daily_rate w) (take m (drop start file)) at n
    ∙ table_same _ _ n
    (λ i k.
    let inside : at + w * i + w ≤ m = omega (arith, mul-le-mul_left w k) in
    let there : start + (at + w * i) ≡ start + at + w * i = omega arith in
    ap (twos_complement w) (number-part file start m (at + w * i) w inside ∙ ap (λ j. number file j w) there))
    ∙ sym (values-table (daily_rate w) file (start + at) n)

-- how many bytes whole days have
pub day-size : (w : ℕ) → known_form w ≡ true → 0 < w * 60
day-size w known = by_form (λ v. 0 < v * 60) w known (omega arith) (omega arith)

pub whole-days : (w n : ℕ) (rates : List ℕ) → known_form w ≡ true → length rates ≡ w * 60 * n → length rates / (w * 60) ≡ n
whole-days w n rates known long = ap (λ bytes. bytes / (w * 60)) long ∙ mul-div_cancel_left n (day-size w known)

-- a day that a turn reads, where the days before it have been read
module _ (w : ℕ) (rates day rest : List ℕ) (d : ℕ) (is : drop (w * 60 * d) rates ≡ day ++ rest) (long : length day ≡ w * 60) where
  pub turn-rates : value_all (daily_rate w) day 0 60 ≡ value_all (daily_rate w) rates (0 + w * 60 * d) 60
  turn-rates =
      let front : day ≡ take (w * 60) (drop (w * 60 * d) rates) = sym (take-append_seam day rest) ∙ ap₂ take long (sym is) in
      let there : w * 60 * d + 0 ≡ 0 + w * 60 * d = omega arith in
      ap (λ bytes. value_all (daily_rate w) bytes 0 60) front
      ∙ rates-part w rates (w * 60 * d) (w * 60) 0 60 (omega arith)
      ∙ ap (λ i. value_all (daily_rate w) rates i 60) there

  pub turn-left : rest ≡ drop (w * 60 * (d + 1)) rates
  turn-left =
      let there : w * 60 * d + w * 60 ≡ w * 60 * (d + 1) = omega arith in
      sym (drop-append_seam day rest)
      ∙ ap₂ drop long (sym is)
      ∙ drop-drop (w * 60) (w * 60 * d) rates
      ∙ ap (λ i. drop i rates) there

  pub turn-within : known_form w ≡ true → d < length rates / (w * 60)
  turn-within known =
      let size : 0 < w * 60 = day-size w known in
      let inside : length rates - w * 60 * d ≡ w * 60 + length rest = sym (length-drop (w * 60 * d) rates) ∙ ap length is ∙ length-append day rest ∙ ap (λ n. n + length rest) long in
      omega (arith, le-div (d + 1) (length rates) (w * 60) size (omega (arith, size, inside)))

-- no whole day is left
pub all-days : (w : ℕ) (rates : List ℕ) (d : ℕ) → known_form w ≡ true → d ≤ length rates / (w * 60) → length (drop (w * 60 * d) rates) < w * 60
    → d ≡ length rates / (w * 60)
all-days w rates d known few short =
    let size : 0 < w * 60 = day-size w known in
    let read = mul-le-mul_left (w * 60) few in
    let inside = mul-div-le (length rates) (w * 60) in
    sym (div-eq_of_lt-le (w * 60) (omega (arith, read, inside)) (omega (arith, short, length-drop (w * 60 * d) rates)))

pub no-sums : sums_of [] ≡ replicate 60 (pos 0)
unfolding table s
no-sums = refl

-- the days of a part of a file that has whole days
pub days-whole : (w n : ℕ) (file : List ℕ) (at : ℕ) (part : List ℕ) → length part / (w * 60) ≡ n → part ≡ take (w * 60 * n) (drop at file)
    → value_all (day w) part 0 (length part / (w * 60)) ≡ value_all (day w) file at n
days-whole w n file at part long e =
    ap (value_all (day w) part 0) long
    ∙ values-table (day w) part 0 n
    ∙ table_same _ _ n
    (λ d l.
    let inside : 0 + w * 60 * d + w * 60 ≤ w * 60 * n = omega (arith, mul-le-mul_left (w * 60) l) in
    let there : at + (0 + w * 60 * d) ≡ at + w * 60 * d = omega arith in
    ap (λ xs. value_all (daily_rate w) xs (0 + w * 60 * d) 60) e
    ∙ rates-part w file at (w * 60 * n) (0 + w * 60 * d) 60 inside
    ∙ ap (λ i. value_all (daily_rate w) file i 60) there)
    ∙ sym (values-table (day w) file at n)

-- what is kept of days within the limits
pub sums-bounded : (w u : ℕ) (ds : List (List ℤ)) (sums : List ℤ) → right_all (day w) ds ≡ true → sums ≡ sums_of ds → u ≡ units_per_step w * length ds
    → Bounded (10000 * u) sums
sums-bounded w u ds sums right is e = record {
  each = λ t l. rw (is, get_or-table (λ t. s ds (suc t)) 60 t (pos 0) l, e) (sum-bound w ds right t l);
}

pub few-steps : (u n : ℕ) → u ≤ 100 → n ≤ 70 → u * n ≤ 7000
few-steps u n h k = mul-le-mul {n₁ = u} {m₁ = n} {n₂ = 100} {m₂ = 70} h k

-- as many days as a count byte can say
pub step-most : (u n : ℕ) → u ≤ 100 → n ≤ 255 → u * n ≤ 25500
step-most u n h k = mul-le-mul {n₁ = u} {m₁ = n} {n₂ = 100} {m₂ = 255} h k

-- ---- the limits of 6

pub forwards-are : {w : ℕ} {ds : List (List ℤ)} {u : ℕ} {sums : List ℤ} → Sums w ds u sums → every (forward_right u sums) 60 ≡ forwards_right u ds
unfolding forwards_right s
forwards-are {w} {ds} {u} {sums} h =
    every-same _ _ 60
    (λ t l.
    ap₂ (λ a b. within_z (neg_ℤ (pos (2000 * u))) (pos (12000 * u)) (b -ℤ a)) (last t l) (ap (λ z. pos (suc t) *ℤ z) (sum t l)))
  where
    sum : (t : ℕ) → t < 60 → get_or sums t (pos 0) ≡ s ds (suc t)
    sum t l = ap (λ xs. get_or xs t (pos 0)) h.terms ∙ get_or-table (λ t. s ds (suc t)) 60 t (pos 0) l

    before : (t : ℕ) → t < 60 → sum_at sums t ≡ s ds t
    before zero l = refl
    before (suc t) l = sum t (omega arith)

    last : (t : ℕ) → t < 60 → pos t *ℤ sum_at sums t ≡ pos (suc t - 1) *ℤ s ds (suc t - 1)
    last t l = let e : t ≡ suc t - 1 = omega arith in ap (λ z. pos t *ℤ z) (before t l) ∙ ap (λ k. pos k *ℤ s ds k) e

-- ---- what the case holds of them

pub sums-held : (k : FileCase) {u : ℕ} {sums : List ℤ} → Sums k.rate_bytes k.days u sums → raised u sums ≡ table (λ i. P (curve k base) (suc i)) 60
unfolding per_step
sums-held k {u} {sums} h =
    table_same _ _ 60
    (λ t l.
    ap₂ (λ v z. natural (pos (steps_per_one * v) +ℤ z)) h.step
    (ap (λ xs. get_or xs t (pos 0)) h.terms ∙ get_or-table (λ t. s k.days (suc t)) 60 t (pos 0) l)
    ∙ base_sum k t)
