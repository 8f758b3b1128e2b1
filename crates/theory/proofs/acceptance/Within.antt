-- Each field of the layout has the laws, with the limits that Limits states of it. So what the checks of the fields say of a case is what
-- Limits says of it, but for error 6, and what `Agrees` says of the optional fields.
use mathlib.Core.Path.{◌≡◌, refl, sym, subst}
use mathlib.Core.Bool.{Bool, true, false, cond}
use mathlib.Core.List.{List, [], ◌∷◌}
use Prim.Native.Nat.{ℕ, zero, suc, ◌*◌, ◌^◌, ◌≤◌, ◌<◌}
use native.Mathlib.Nat.{not-suc-le-zero, le_of_suc-le-suc}
use native.Mathlib.Omega.{arith}
use lib.Dec.{T, eqb, lit<, lit≤}
use lib.ListN.{length, get_or}
use lib.IntN.{ℤ, pos, neg_ℤ}
use lib.Signed.{le_z}
use Rattle.std.specs.Cmp.{first_so, second_so}
use Rattle.refusal.specs.declared.Refusal.TheVariants.{DayCount, Rate, FlowCount, Flow, Ufr, Amount, Shock}
use Rattle.refusal.specs.declared.Refusal.TheVariants as Refusal
use Rattle.model.specs.Constants.{default_ufr, default_equity_correlation}
use Rattle.model.specs.Numbers.{number, unsigned}
use Rattle.model.specs.Case.{FileCase, known_form, units_per_step, per_step}
use Rattle.model.specs.Limits.{Between, FlowsWithin, DayWithin, DaysWithin, forward, AmountsWithin, ShocksWithin, PeopleWithin, WithinLimits}
use Rattle.model.specs.Fields.{within_z, number_of, counted, several}
use Rattle.model.specs.Layout.{day, days, rate, flow, amounts_from, amounts_in_order, amounts, no_amounts, TwelveShocks, shocks_in_order, shocks, equity_correlation}
use Rattle.model.specs.inner.Positions.{ufr_field}
use Rattle.model.specs.Layout.{people_from, people_in_order, people, Present, Parts, layout, parts_of, Agrees}
use Rattle.model.specs.Refusals.{forwards_right}
use Rattle.model.specs.declared.case.Shocks.{Shocks}
use Rattle.theory.proofs.general.Lists.{every-at, every-all}
use Rattle.theory.proofs.acceptance.Encoding.{length-bytes, number_small, number-written, number_read, written-signed, read-signed}
use Rattle.theory.proofs.acceptance.Form.{by_form}
use Rattle.theory.proofs.acceptance.Laws.{LawfulFixed, fixed-as, number-lawful, pair-lawful, WithinAll, several-lawful, named-lawful}
use Rattle.theory.proofs.acceptance.Laws.{Lawful, field-as, field-lawful, counted-lawful, IfThere, optional-lawful, ◌then_lawful◌}
use Rattle.theory.proofs.acceptance.Laws.{Limited, limited-as, field-limited, counted-limited, optional-limited, ◌then_limited◌}

-- ---- a test of an integer, both ways

pub between-true : {a b z : ℤ} → within_z a b z ≡ true → Between a b z
between-true {a} {b} {z} h = record {
  least = record { le = rw (first_so (le_z a z) (le_z z b) h) tt };
  most = record { le = rw (second_so (le_z a z) (le_z z b) h) tt };
}

pub between-test : {a b z : ℤ} → Between a b z → within_z a b z ≡ true
between-test {a} {b} {z} h = rw (is_true (le_z a z) h.least.le, is_true (le_z z b) h.most.le)
  where
    is_true : (b : Bool) → T b → b ≡ true
    is_true true t = refl
    is_true false t = absurd t

-- "some t × s(t) - (t - 1) × s(t-1) is below -2,000 × n or above 12,000 × n", where one step adds u to a sum
abbrev pub ForwardsWithin : ℕ → List (List ℤ) → Type 0
ForwardsWithin u days = (t : ℕ) → 1 ≤ t → t ≤ 60 → Between (neg_ℤ (pos (2000 * u))) (pos (12000 * u)) (forward days t)

module _ (u : ℕ) (days : List (List ℤ)) where
  test : ℕ → Bool
  test t = within_z (neg_ℤ (pos (2000 * u))) (pos (12000 * u)) (forward days (suc t))

  pub forwards-true : forwards_right u days ≡ true → ForwardsWithin u days
  unfolding forwards_right test
  forwards-true h zero l k = absurd (not-suc-le-zero l)
  forwards-true h (suc t) l k = between-true (every-at test 60 t h k)

  pub forwards-test : ForwardsWithin u days → forwards_right u days ≡ true
  unfolding forwards_right test
  forwards-test h = every-all test 60 (λ t l. between-test (h (suc t) (omega arith) l))

-- ---- each of a list by its index, both ways

module _ {A : Type 0} (W : A → Type 0) (d : A) where
  each_at : (vs : List A) → WithinAll W vs → (i : ℕ) → i < length vs → W (get_or vs i d)
  each_at [] h i l = absurd (not-suc-le-zero l)
  each_at (v ∷ vs) h zero l = h.0
  each_at (v ∷ vs) h (suc i) l = each_at vs h.1 i (le_of_suc-le-suc l)

  at_each : (vs : List A) → ((i : ℕ) → i < length vs → W (get_or vs i d)) → WithinAll W vs
  at_each [] h = tt
  at_each (v ∷ vs) h = (h 0 (omega arith), at_each vs (λ i l. h (suc i) (omega arith)))

-- ---- the fields

-- a number that may be 0
pub upto-lawful : (w most : ℕ) → most < 256 ^ w → LawfulFixed (number_of w 0 most) (λ v. v ≤ most)
upto-lawful w most fits = fixed-as (λ v h. h.1) (λ v h. (omega arith, h)) (number-lawful w 0 most fits)

abbrev pub UfrWithin : Present → ℕ → Type 0
UfrWithin p = IfThere p.ufr default_ufr (λ u. u ≤ 5000)

pub ufr-lawful : (p : Present) → Lawful (ufr_field p) (UfrWithin p)
ufr-lawful p = optional-lawful p.ufr default_ufr (field-lawful Ufr (lit≤ tt) (upto-lawful 2 5000 (lit< tt)))

-- 20,000 × scale is twice the upper limit of a rate, so each rate is below half of the numbers of w bytes or above it
rate-lawful : (w scale : ℕ) → 20000 * scale < 256 ^ w
    → LawfulFixed (rate w scale) (Between (neg_ℤ (pos (1000 * scale))) (pos (10000 * scale)))
rate-lawful w scale fits =
    let signed = read-signed w (1000 * scale) (10000 * scale) (omega arith) (omega arith) in
    record {
      long = λ z h. length-bytes w (unsigned w z);
      tested = λ z. between-test;
      within = λ z. between-true;
      written = λ file b at l. rw (written-signed w (number file at w) (number_small file b at w)) (number-written file b at w l);
      read = λ file at z rest h e. rw (number_read file at w (unsigned w z) rest (signed z h).0 e) (signed z h).1;
    }

-- n rates of two bytes, one after another
pub rates-lawful : (n : ℕ)
    → LawfulFixed (several n (rate 2 1)) (λ rates. (length rates ≡ n) × ((t : ℕ) → t < n → Between (neg_ℤ (pos 1000)) (pos 10000) (get_or rates t (pos 0))))
rates-lawful n =
    let W = Between (neg_ℤ (pos 1000)) (pos 10000) in
    fixed-as
    (λ rates h. (h.0, λ t l. each_at W (pos 0) rates h.1 t (omega (arith, h.0))))
    (λ rates h. (h.0, at_each W (pos 0) rates (λ t l. h.1 t (omega (arith, h.0)))))
    (several-lawful (rate-lawful 2 1 (lit< tt)) n)

-- the days field whose rates have w bytes
module _ (w : ℕ) (fits : 20000 * units_per_step w < 256 ^ w) where
  pub day-lawful : LawfulFixed (day w) (DayWithin (units_per_step w))
  day-lawful =
      let W = Between (neg_ℤ (pos (1000 * units_per_step w))) (pos (10000 * units_per_step w)) in
      fixed-as
      (λ rates h. record { terms = h.0; each = λ t l. each_at W (pos 0) rates h.1 t (omega (arith, h.0)) })
      (λ rates h. (h.terms, at_each W (pos 0) rates (λ t l. h.each t (omega (arith, h.terms)))))
      (several-lawful (rate-lawful w (units_per_step w) fits) 60)

abbrev pub DaysCounted : ℕ → List (List ℤ) → Type 0
DaysCounted units days = (1 ≤ length days) × (length days ≤ 70) × ((d : ℕ) → d < length days → DayWithin units (get_or days d []))

module _ (units : ℕ) (days : List (List ℤ)) where
  days-to : (1 ≤ length days) × (length days ≤ 70) × WithinAll (DayWithin units) days → DaysCounted units days
  days-to h = search (each_at (DayWithin units) [])

  days-from : DaysCounted units days → (1 ≤ length days) × (length days ≤ 70) × WithinAll (DayWithin units) days
  days-from h = search (at_each (DayWithin units) [])

days-lawful : (w : ℕ) → 20000 * units_per_step w < 256 ^ w → 1 ≤ w * 60 → Lawful (days w) (DaysCounted (units_per_step w))
days-lawful w fits some =
    field-as (days-to (units_per_step w)) (days-from (units_per_step w)) (counted-lawful 70 DayCount Rate (lit< tt) some (day-lawful w fits))

pub days-limited : (w : ℕ) → 20000 * units_per_step w < 256 ^ w → Limited (days w) (DaysCounted (units_per_step w))
days-limited w fits = limited-as (days-to (units_per_step w)) (days-from (units_per_step w)) (counted-limited 70 DayCount Rate (day-lawful w fits))

abbrev FlowWithin : ℕ → Type 0
FlowWithin v = v ≤ 100000000

abbrev FlowsCounted : ℕ → List ℕ → Type 0
FlowsCounted most flows = (1 ≤ length flows) × (length flows ≤ most) × FlowsWithin flows

flow-lawful : LawfulFixed flow FlowWithin
flow-lawful = upto-lawful 4 100000000 (lit< tt)

module _ (most : ℕ) (flows : List ℕ) where
  flows-to : (1 ≤ length flows) × (length flows ≤ most) × WithinAll FlowWithin flows → FlowsCounted most flows
  flows-to h = search (each_at FlowWithin 0)

  flows-from : FlowsCounted most flows → (1 ≤ length flows) × (length flows ≤ most) × WithinAll FlowWithin flows
  flows-from h = search (at_each FlowWithin 0, h.2.each)

flows-lawful : (most : ℕ) → most < 256 → Lawful (counted most FlowCount Flow flow) (FlowsCounted most)
flows-lawful most fits = field-as (flows-to most) (flows-from most) (counted-lawful most FlowCount Flow fits (lit≤ tt) flow-lawful)

flows-limited : (most : ℕ) → Limited (counted most FlowCount Flow flow) (FlowsCounted most)
flows-limited most = limited-as (flows-to most) (flows-from most) (counted-limited most FlowCount Flow flow-lawful)

-- numbers by name: `search` finds each limit in the other list of limits
amounts-lawful : LawfulFixed amounts AmountsWithin
amounts-lawful =
    fixed-as (λ a h. search) (λ a h. search)
    (named-lawful amounts_from amounts_in_order (λ file at. refl) (λ a. refl)
    (several-lawful (upto-lawful 8 100000000000 (lit< tt)) 8))

abbrev pub TwelveWithin : TwelveShocks → Type 0
TwelveWithin v = ((length v.0 ≡ 10) × WithinAll (λ n. n ≤ 1000) v.0) × ((v.1.0 ≤ 10000) × (v.1.1 ≤ 500))

shocks-lawful : LawfulFixed shocks TwelveWithin
shocks-lawful =
    pair-lawful (several-lawful (upto-lawful 2 1000 (lit< tt)) 10)
    (pair-lawful (upto-lawful 2 10000 (lit< tt)) (upto-lawful 2 500 (lit< tt)))

equity-lawful : LawfulFixed equity_correlation (λ c. c ≤ 1000)
equity-lawful = upto-lawful 2 1000 (lit< tt)

-- the shocks of a case are the twelve and the correlation between the equity classes, both ways
shocks-to : (x : Shocks) → TwelveWithin (shocks_in_order x) → x.equity_correlation ≤ 1000 → ShocksWithin x
shocks-to x h e = search

shocks-from : (x : Shocks) → ShocksWithin x → TwelveWithin (shocks_in_order x)
shocks-from x h = search

people-lawful : LawfulFixed people PeopleWithin
people-lawful =
    let age = upto-lawful 2 1200 (lit< tt) in
    fixed-as (λ p h. search) (λ p h. search)
    (named-lawful people_from people_in_order (λ file at. refl) (λ p. refl)
    (pair-lawful (number-lawful 4 1 1000000 (lit< tt)) (pair-lawful age age)))

-- ---- the layout

-- of the days: those of a field that is there
abbrev DaysIn : ℕ → ℕ → List (List ℤ) → Type 0
DaysIn v w = IfThere (eqb w v) [] (DaysCounted (units_per_step v))

abbrev pub PartsWithin : ℕ → Present → Parts → Type 0
PartsWithin w p v =
    (UfrWithin p v.0.0
    × (DaysIn 2 w v.0.1.0
    × (FlowsCounted 120 v.0.1.1.0
    × (IfThere p.bonds [] (FlowsCounted 60) v.0.1.1.1.0
    × (IfThere p.amounts no_amounts AmountsWithin v.0.1.1.1.1.0
    × (TwelveWithin v.0.1.1.1.1.1.0 × PeopleWithin v.0.1.1.1.1.1.1))))))
    × (DaysIn 4 w v.1.0 × IfThere p.equity default_equity_correlation (λ c. c ≤ 1000) v.1.1)

pub layout-lawful : (w : ℕ) (p : Present) → Lawful (layout w p) (PartsWithin w p)
layout-lawful w p =
    (ufr-lawful p
    then_lawful optional-lawful (eqb w 2) [] (days-lawful 2 (lit< tt) (lit≤ tt))
    then_lawful flows-lawful 120 (lit< tt)
    then_lawful optional-lawful p.bonds [] (flows-lawful 60 (lit< tt))
    then_lawful optional-lawful p.amounts no_amounts (field-lawful Amount (lit≤ tt) amounts-lawful)
    then_lawful field-lawful Shock (lit≤ tt) shocks-lawful
    then_lawful field-lawful Refusal.People (lit≤ tt) people-lawful)
    then_lawful optional-lawful (eqb w 4) [] (days-lawful 4 (lit< tt) (lit≤ tt))
    then_lawful optional-lawful p.equity default_equity_correlation (field-lawful Shock (lit≤ tt) equity-lawful)

-- the checks of a case in no file: nothing is said of an absent field
abbrev pub PartsLimited : ℕ → Present → Parts → Type 0
PartsLimited w p v =
    ((p.ufr ≡ true → v.0.0 ≤ 5000)
    × ((eqb w 2 ≡ true → DaysCounted 1 v.0.1.0)
    × (FlowsCounted 120 v.0.1.1.0
    × ((p.bonds ≡ true → FlowsCounted 60 v.0.1.1.1.0)
    × ((p.amounts ≡ true → AmountsWithin v.0.1.1.1.1.0)
    × (TwelveWithin v.0.1.1.1.1.1.0 × PeopleWithin v.0.1.1.1.1.1.1))))))
    × ((eqb w 4 ≡ true → DaysCounted 100 v.1.0) × (p.equity ≡ true → v.1.1 ≤ 1000))

pub layout-limited : (w : ℕ) (p : Present) → Limited (layout w p) (PartsLimited w p)
layout-limited w p =
    (optional-limited p.ufr default_ufr (field-limited Ufr (upto-lawful 2 5000 (lit< tt)))
    then_limited optional-limited (eqb w 2) [] (days-limited 2 (lit< tt))
    then_limited flows-limited 120
    then_limited optional-limited p.bonds [] (flows-limited 60)
    then_limited optional-limited p.amounts no_amounts (field-limited Amount amounts-lawful)
    then_limited field-limited Shock shocks-lawful
    then_limited field-limited Refusal.People people-lawful)
    then_limited optional-limited (eqb w 4) [] (days-limited 4 (lit< tt))
    then_limited optional-limited p.equity default_equity_correlation (field-limited Shock equity-lawful)

-- the days of a case whose form is known are in one of the two fields, both ways
abbrev InOne : List (List ℤ) → ℕ → Type 0
InOne days w = DaysIn 2 w (cond (eqb w 2) days []) × DaysIn 4 w (cond (eqb w 4) days [])

days-in : (w : ℕ) (days : List (List ℤ)) → known_form w ≡ true → DaysCounted (units_per_step w) days → InOne days w
days-in w days known =
    by_form (λ v. DaysCounted (units_per_step v) days → InOne days v) w known
    (λ h. ((λ e. h, λ e. absurd (subst T e tt)), (λ e. absurd (subst T (sym e) tt), λ e. refl)))
    (λ h. ((λ e. absurd (subst T (sym e) tt), λ e. refl), (λ e. h, λ e. absurd (subst T e tt))))

days-out : (w : ℕ) (days : List (List ℤ)) → known_form w ≡ true → InOne days w → DaysCounted (units_per_step w) days
days-out w days known = by_form (λ v. InOne days v → DaysCounted (units_per_step v) days) w known (λ h. h.0.0 refl) (λ h. h.1.0 refl)

-- the parts of a case and the case, both ways; amounts that are all zero are what is read from no bytes
module _ (p : Present) (k : FileCase) where
  either : {R : Type 0} (b : Bool) → (b ≡ true → R) → (b ≡ false → R) → R
  either true f g = f refl
  either false f g = g refl

  pub parts-limits : known_form k.rate_bytes ≡ true → PartsWithin k.rate_bytes p (parts_of k) → ForwardsWithin (per_step k) k.days
      → WithinLimits k × Agrees p k
  unfolding number per_step
  parts-limits known ((u, (d, (m, (b, (a, (x, h)))))), (l, q)) forwards =
      let (least, most, each) = days-out k.rate_bytes k.days known (d, l) in
      let days : DaysWithin (units_per_step k.rate_bytes) k.days = record { some = least; most = most; each = each; forwards = forwards } in
      let ufr : k.ufr ≤ 5000 = either p.ufr u.0 (λ e. rw (u.1 e) (lit≤ tt)) in
      let none : FlowsWithin [] = record { each = λ i l. absurd (not-suc-le-zero l) } in
      let bonds : (length k.bonds ≤ 60) × FlowsWithin k.bonds =
      either p.bonds (λ e. ((b.0 e).1, (b.0 e).2)) (λ e. rw (b.1 e) (lit≤ tt, none)) in
      let some : p.bonds ≡ true → 1 ≤ length k.bonds = λ e. (b.0 e).0 in
      let amounts : AmountsWithin k.amounts = either p.amounts a.0 (λ e. rw (a.1 e) (amounts-lawful.within no_amounts refl)) in
      let equity : k.shocks.equity_correlation ≤ 1000 = either p.equity q.0 (λ e. rw (q.1 e) (lit≤ tt)) in
      let shocks : ShocksWithin k.shocks = shocks-to k.shocks x equity in
      search

  pub limits-parts : WithinLimits k → Agrees p k → PartsWithin k.rate_bytes p (parts_of k)
  limits-parts w a =
      let (two, four) = days-in k.rate_bytes k.days w.form (w.days.some, w.days.most, w.days.each) in
      let twelve = shocks-from k.shocks w.shocks in
      search a.bonds_there
