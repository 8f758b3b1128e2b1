-- The checks of a file in order: the first that fails gives the refusal.
use Rattle.std.proofs.Common.{◌≡◌, ◌∙◌, ℕ, List, [], ◌∷◌, ◌++◌, length, append_assoc, ap, sym, leb, Option, Some, None}
use Rattle.model.specs.Case.{per_step}
use Rattle.model.specs.Fields.{Check}
use Rattle.model.specs.Layout.{fields_of, case_of, file_map}
use Rattle.model.specs.Refusals.{failing, forwards_right, checks}
use Rattle.refusal.specs.declared.Refusal.{Refusal}
use Rattle.refusal.specs.declared.Refusal.TheVariants.{BytesFollow, Forward}
use Rattle.fields.specs.MapField.{map_field}
use Rattle.fields.proofs.Steps.{go, stop}

module _ (file : List ℕ) where
  abbrev map_checks : List Check
  map_checks = map_field.checks file 0

  abbrev field_checks : List Check
  field_checks = (fields_of file).checks file 2

  abbrev end_checks : List Check
  end_checks = (leb (length file) ((fields_of file).end file 2), BytesFollow) ∷ []

  abbrev six : List Check
  six = (forwards_right (per_step (case_of file)) (case_of file).days, Forward) ∷ []

  in_order : {o : Option Refusal} → o ≡ failing (map_checks ++ (field_checks ++ (end_checks ++ six))) → o ≡ failing (checks file)
  unfolding checks file_map
  in_order h = h ∙ sym (ap failing (append_assoc map_checks field_checks (end_checks ++ six)))

  pub map-refused : (e : Refusal) → Some e ≡ failing map_checks → Some e ≡ failing (checks file)
  map-refused e h = in_order (stop e map_checks (field_checks ++ (end_checks ++ six)) h)

  module _ (map-right : failing map_checks ≡ None) where
    behind-map : {o : Option Refusal} → o ≡ failing (field_checks ++ (end_checks ++ six)) → o ≡ failing (checks file)
    behind-map h = in_order (go map_checks (field_checks ++ (end_checks ++ six)) map-right h)

    pub field-refused : (e : Refusal) → Some e ≡ failing field_checks → Some e ≡ failing (checks file)
    field-refused e h = behind-map (stop e field_checks (end_checks ++ six) h)

    module _ (fields-right : failing field_checks ≡ None) where
      pub end-refused : (e : Refusal) → Some e ≡ failing end_checks → Some e ≡ failing (checks file)
      end-refused e h = behind-map (go field_checks (end_checks ++ six) fields-right (stop e end_checks six h))

      pub last-is : failing end_checks ≡ None → {o : Option Refusal} → o ≡ failing six → o ≡ failing (checks file)
      last-is ended h = behind-map (go field_checks (end_checks ++ six) fields-right (go end_checks six ended h))
