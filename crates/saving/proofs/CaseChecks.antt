-- Why a case is refused, check by check, and the bytes of its shortest file.
use Prim.Native.Nat.{ℕ}
use mathlib.Core.Path.{◌≡◌, refl, ap, ap₂, sym, ◌∙◌}
use mathlib.Core.Bool.{Bool, true, false, cond, not}
use mathlib.Core.List.{List, [], ◌∷◌, ◌++◌}
use lib.Dec.{eqb}
use lib.IntN.{ℤ}
use Rattle.std.proofs.Common.{Option, Some, None}
use Rattle.theory.proofs.acceptance.Bitmap.{announced}
use Rattle.theory.proofs.acceptance.Form.{by_form}
use Rattle.model.specs.Case.{FileCase, known_form, per_step}
use Rattle.model.specs.Fields.{Check, Field}
use Rattle.model.specs.Layout.{Parts, Present, layout, parts_of, days, shocks, shocks_in_order, people, file_of, map_of, present_in, rate_bytes_in, stands}
use Rattle.model.specs.Numbers.{bytes_of}
use Rattle.model.specs.inner.Positions.{ufr_field, pension_field, bonds_field, amounts_field, equity_field}
use Rattle.model.specs.Refusals.{failing, bits_right, forwards_right}
use Rattle.model.specs.declared.case.CaseFields.{CaseFields}
use Rattle.savingmodel.specs.Saving.{days_of, given, needed, shortest, case_checks}
use Rattle.refusal.specs.declared.Refusal.{Refusal}
use Rattle.refusal.specs.declared.Refusal.TheVariants.{WrongFields, Forward, Shock, People}
use Rattle.fields.specs.Sums.{days_checks}
use Rattle.theory.proofs.acceptance.Checks.{holds-first, both-hold}
use Rattle.fields.proofs.Laid.{laid, announced-are}
use Rattle.fields.proofs.Steps.{go, stop}

-- no days of a list that is not there
pub days-if : (there : Bool) (rates : List ℤ) → days_of (cond there rates []) ≡ cond there (days_of rates) []
unfolding days_of
days-if true rates = refl
days-if false rates = refl

-- ---- the first check that fails

module _ (k : FileCase) where
  abbrev form : List Check
  form = (known_form k.rate_bytes, WrongFields) ∷ []

  abbrev limits : List Check
  limits = (layout k.rate_bytes (needed k)).limits (parts_of k)

  abbrev six : List Check
  six = (forwards_right (per_step k) k.days, Forward) ∷ []

  in_order : {o : Option Refusal} → o ≡ failing (form ++ (limits ++ six)) → o ≡ failing (case_checks k)
  unfolding case_checks
  in_order h = h

  pub form-refused : (e : Refusal) {b : Bool} → b ≡ known_form k.rate_bytes → Some e ≡ failing ((b, WrongFields) ∷ []) → Some e ≡ failing (case_checks k)
  form-refused e is h = in_order (stop e form (limits ++ six) (h ∙ ap (λ b. failing ((b, WrongFields) ∷ [])) is))

  module _ {b : Bool} (is : b ≡ known_form k.rate_bytes) (right : failing ((b, WrongFields) ∷ []) ≡ None) where
    form-right : failing form ≡ None
    form-right = ap (λ b. failing ((b, WrongFields) ∷ [])) (sym is) ∙ right

    limit-fails : (e : Refusal) → Some e ≡ failing limits → Some e ≡ failing (case_checks k)
    limit-fails e h = in_order (go form (limits ++ six) form-right (stop e limits six h))

    last-is : failing limits ≡ None → {o : Option Refusal} → o ≡ failing six → o ≡ failing (case_checks k)
    last-is hold h = in_order (go form (limits ++ six) form-right (go limits six hold h))

-- ---- the days, among the fields

module _ (f : CaseFields) (d : List (List ℤ)) (pension bonds : List ℕ) (p : Present) where
  abbrev limits_of : ℕ → List Check
  limits_of w =
      (layout w p).limits
      ((f.ufr, (cond (eqb w 2) d [], (pension, (bonds, (f.amounts, (shocks_in_order f.shocks, f.people)))))), (cond (eqb w 4) d [], f.shocks.equity_correlation))

  -- the fields after the two-byte days
  abbrev behind : List Check
  behind =
      pension_field.limits pension
      ++ ((bonds_field p).limits bonds
      ++ ((amounts_field p).limits f.amounts ++ ((shocks.right (shocks_in_order f.shocks), Shock) ∷ (people.right f.people, People) ∷ [])))

  abbrev equity : List Check
  equity = (equity_field p).limits f.shocks.equity_correlation

  days-among : (w : ℕ) → known_form w ≡ true → failing (limits_of w) ≡ None → failing ((days w).limits d) ≡ None
  days-among w known = by_form (λ v. failing (limits_of v) ≡ None → failing ((days v).limits d) ≡ None) w known two four
    where
      two : failing (limits_of 2) ≡ None → failing ((days 2).limits d) ≡ None
      two h =
          let u = (ufr_field p).limits f.ufr in
          let first = (both-hold (u ++ ((days 2).limits d ++ behind)) equity h).0 in
          (both-hold ((days 2).limits d) behind (both-hold u ((days 2).limits d ++ behind) first).1).0

      four : failing (limits_of 4) ≡ None → failing ((days 4).limits d) ≡ None
      four h =
          let later = (both-hold ((ufr_field p).limits f.ufr ++ behind) ((days 4).limits d ++ equity) h).1 in
          (both-hold ((days 4).limits d) equity later).0

-- ---- what each step tells

module _ (f : CaseFields) (rates : List ℤ) (pension bonds : List ℕ) where
  abbrev case : FileCase
  case = given f rates pension bonds

  abbrev w : ℕ
  w = f.rate_bytes

  abbrev ds : List (List ℤ)
  ds = days_of rates

  module _ {known : Bool} (is : known ≡ known_form w) (right : failing ((known, WrongFields) ∷ []) ≡ None) (q : Present) (present : q ≡ needed case) {map : ℕ} (map-is : map ≡ map_of w q)
      {u s b a l e : Bool} (eu : u ≡ stands 0 map) (es : s ≡ not (stands 7 map)) (eb : b ≡ stands 3 map) (ea : a ≡ stands 4 map) (el : l ≡ stands 7 map) (ee : e ≡ stands 8 map)
      {x : Parts} (parts-are : x ≡ parts_of case) where
    form-known : known_form w ≡ true
    form-known = go-known known (known_form w) is right
      where
        go-known : (b c : Bool) → b ≡ c → failing ((b, WrongFields) ∷ []) ≡ None → c ≡ true
        go-known true c e h = sym e
        go-known false c e h = cc

    abbrev fields : Field Parts
    fields = laid u s b a l e

    fields-are : fields ≡ layout w (needed case)
    fields-are =
        let known = announced w q form-known in
        (λ k. laid (eu k) (es k) (eb k) (ea k) (el k) (ee k))
        ∙ announced-are map
        ∙ ap (λ (n : ℕ). layout (rate_bytes_in n) (present_in n)) map-is
        ∙ ap₂ layout known.3 (known.2 ∙ present)

    limits-are : fields.limits x ≡ limits case
    limits-are = λ k. (fields-are k).limits (parts-are k)

    pub field-refused : (r : Refusal) → Some r ≡ failing (fields.limits x) → Some r ≡ failing (case_checks case)
    field-refused r h = limit-fails case is right r (h ∙ ap failing limits-are)

    module _ (hold : failing (fields.limits x) ≡ None) where
      -- where the fields are within their limits, the days are: what is left is the check of their forward rates
      forwards-are : {o : Option Refusal} → o ≡ cond (eqb w 2) (failing (days_checks 2 x.0.1.0)) (failing (days_checks 4 x.1.0)) → o ≡ failing (case_checks case)
      unfolding per_step
      forwards-are h =
          let holds = ap failing (sym limits-are) ∙ hold in
          last-is case is right holds
          (h
          ∙ ap (λ (y : Parts). cond (eqb w 2) (failing (days_checks 2 y.0.1.0)) (failing (days_checks 4 y.1.0))) parts-are
          ∙ by_form (λ v. cond (eqb v 2) (failing (days_checks 2 (cond (eqb v 2) ds []))) (failing (days_checks 4 (cond (eqb v 4) ds []))) ≡ failing (days_checks v ds)) w form-known refl refl
          ∙ holds-first ((days w).limits ds) (six case) (days-among f ds pension bonds (needed case) w form-known holds))

      pub six-refused : (r : Refusal) → Some r ≡ cond (eqb w 2) (failing (days_checks 2 x.0.1.0)) (failing (days_checks 4 x.1.0)) → Some r ≡ failing (case_checks case)
      six-refused r h = forwards-are h

      pub accepted : None ≡ cond (eqb w 2) (failing (days_checks 2 x.0.1.0)) (failing (days_checks 4 x.1.0)) → None ≡ failing (case_checks case)
      accepted h = forwards-are h

      pub limits-hold : failing ((bits_right map, WrongFields) ∷ fields.limits x) ≡ None
      limits-hold = ap (λ (b : Bool). failing ((b, WrongFields) ∷ fields.limits x)) (ap bits_right map-is ∙ (announced w q form-known).0) ∙ hold

    pub file_is : bytes_of 2 map ++ fields.bytes x ≡ shortest case
    unfolding shortest file_of
    file_is = ap₂ (λ (n : ℕ) (t : List ℕ). bytes_of 2 n ++ t) (map-is ∙ ap (map_of w) present) (λ k. (fields-are k).bytes (parts-are k))
