-- The two days fields: what holds of rates of 2 bytes and of rates of 4 bytes holds of every case whose form is known. So the days of such
-- a case are in one of the two fields, and the other is absent.
use mathlib.Core.Path.{◌≡◌, refl, ap, ap₂, sym, subst}
use mathlib.Core.Bool.{Bool, true, false, ◌||◌, cond}
use mathlib.Core.List.{List, [], ◌++◌}
use Prim.Native.Nat.{ℕ}
use borrow.Author.Tests.{eqb-true}
use lib.Dec.{T, eqb}
use lib.IntN.{ℤ}
use Rattle.refusal.specs.declared.Refusal.TheVariants.{Shock}
use Rattle.refusal.specs.declared.Refusal.TheVariants as Refusal
use Rattle.model.specs.Case.{FileCase, known_form, with_days}
use Rattle.model.specs.Fields.{Field, field, ◌then◌}
use Rattle.model.specs.Layout.{days, TwelveShocks, shocks_from, shocks_in_order, shocks, people, Present, Parts, rate_bytes_in, stands, file_map, first_fields, layout, fields_of, case_from, parts_of, case_of}
use Rattle.model.specs.Refusals.{ufr_end, days_at}
use Rattle.model.specs.declared.case.Amounts.{Amounts}
use Rattle.model.specs.declared.case.People.{People}
use Rattle.theory.proofs.acceptance.Checks.{Hold, hold-parts}
use Rattle.model.specs.inner.Positions.{rate_bytes, present, ufr_field, pension_field, bonds_field, amounts_field, equity_field, pension_at, bonds_at, amounts_at, shocks_at, people_at, people_end}

pub by_form : (Q : ℕ → Type 0) (w : ℕ) → known_form w ≡ true → Q 2 → Q 4 → Q w
by_form Q w known two four = go (eqb w 2) (eqb w 4) refl refl known
  where
    go : (a b : Bool) → eqb w 2 ≡ a → eqb w 4 ≡ b → (a || b) ≡ true → Q w
    go true b e f h = subst Q (sym (eqb-true w 2 e)) two
    go false true e f h = subst Q (sym (eqb-true w 4 f)) four
    go false false e f h = absurd (subst T (sym h) tt)

-- a map announces one of the two
pub known_in : (map : ℕ) → known_form (rate_bytes_in map) ≡ true
known_in map = go (stands 7 map)
  where
    go : (b : Bool) → known_form (cond b 4 2) ≡ true
    go true = refl
    go false = refl

-- where the count of the days is, by the positions of the fields
pub days-at : (file : List ℕ) → days_at file ≡ cond (stands 7 (file_map file)) (people_end file) (ufr_end file)
unfolding days_at ufr_end people_end people_at shocks_at amounts_at bonds_at pension_at
days-at file = go (stands 7 (file_map file)) (present file)
  where
    go : (b : Bool) (p : Present)
        → cond b ((first_fields 4 p).end file 2) (cond p.ufr 4 2) ≡ cond b ((first_fields (cond b 4 2) p).end file 2) (cond p.ufr 4 2)
    go true p = refl
    go false p = refl

-- the days of a file, and how much a step adds to their sums
pub days-read : (file : List ℕ) → (days (rate_bytes file)).value file (days_at file) ≡ (case_of file).days
unfolding days_at ufr_end case_of
days-read file = go (stands 7 (file_map file)) (present file)
  where
    go : (b : Bool) (p : Present)
        → (days (cond b 4 2)).value file (cond b ((first_fields 4 p).end file 2) (cond p.ufr 4 2))
        ≡ (case_from (cond b 4 2) ((layout (cond b 4 2) p).value file 2)).days
    go true p = refl
    go false p = refl

-- the fields after two-byte days
abbrev pub later_fields : Present → Field (List ℕ × (List ℕ × (Amounts × (TwelveShocks × People))))
later_fields p = pension_field then bonds_field p then amounts_field p then field Shock shocks then field Refusal.People people

-- the checks of the days are among those of the fields
pub days-held : (file : List ℕ) → Hold ((fields_of file).checks file 2) → Hold ((days (rate_bytes file)).checks file (days_at file))
unfolding days_at ufr_end
days-held file = go (stands 7 (file_map file)) (present file)
  where
    go : (b : Bool) (p : Present) → Hold ((layout (cond b 4 2) p).checks file 2)
        → Hold ((days (cond b 4 2)).checks file (cond b ((first_fields 4 p).end file 2) (cond p.ufr 4 2)))
    go true p h =
        let at = (first_fields 4 p).end file 2 in
        let later = (equity_field p).checks file ((days 4).end file at) in
        let last = (hold-parts ((first_fields 4 p).checks file 2) ((days 4).checks file at ++ later) h).1 in
        (hold-parts ((days 4).checks file at) later last).0
    go false p h =
        let at = (ufr_field p).end file 2 in
        let later = (later_fields p).checks file ((days 2).end file at) in
        let last = (equity_field p).checks file ((first_fields 2 p).end file 2) in
        let first = (hold-parts ((first_fields 2 p).checks file 2) last h).0 in
        let on = (hold-parts ((ufr_field p).checks file 2) ((days 2).checks file at ++ later) first).1 in
        (hold-parts ((days 2).checks file at) later on).0

-- ---- the fields of a case are its parts, both ways

one_field : (w : ℕ) (days : List (List ℤ)) → known_form w ≡ true → cond (eqb w 4) (cond (eqb w 4) days []) (cond (eqb w 2) days []) ≡ days
one_field w days known =
    by_form (λ v. cond (eqb v 4) (cond (eqb v 4) days []) (cond (eqb v 2) days []) ≡ days) w known refl refl

pub case-of-parts : (k : FileCase) → known_form k.rate_bytes ≡ true → case_from k.rate_bytes (parts_of k) ≡ k
case-of-parts k known = ap (λ (days : List (List ℤ)). with_days k.rate_bytes days k) (one_field k.rate_bytes k.days known)

-- twelve shocks that are as many as their names
pub parts-of-case : (w : ℕ) (v : Parts) → known_form w ≡ true → (eqb w 2 ≡ false → v.0.1.0 ≡ []) → (eqb w 4 ≡ false → v.1.0 ≡ [])
    → shocks_in_order (shocks_from v.0.1.1.1.1.1.0 v.1.1) ≡ v.0.1.1.1.1.1.0
    → parts_of (case_from w v) ≡ v
parts-of-case w v known no-two no-four twelve =
    by_form Q w known
    (λ two four. ap₂ (λ (x : TwelveShocks) (days : List (List ℤ)). parts x v.0.1.0 days) twelve (sym (four refl)))
    (λ two four. ap₂ (λ (x : TwelveShocks) (days : List (List ℤ)). parts x days v.1.0) twelve (sym (two refl)))
    no-two no-four
  where
    parts : TwelveShocks → List (List ℤ) → List (List ℤ) → Parts
    parts x two four =
        ((v.0.0, (two, (v.0.1.1.0, (v.0.1.1.1.0, (v.0.1.1.1.1.0, (x, v.0.1.1.1.1.1.1)))))), (four, v.1.1))

    Q : ℕ → Type 0
    Q w = (eqb w 2 ≡ false → v.0.1.0 ≡ []) → (eqb w 4 ≡ false → v.1.0 ≡ []) → parts_of (case_from w v) ≡ v
