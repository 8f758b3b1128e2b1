-- The fields that a map announces are those of the definitions.
use Rattle.std.proofs.Common.{◌≡◌, ◌∙◌, ℕ, Bool, true, false, not, cond, [], refl, sym}
use Rattle.refusal.specs.declared.Refusal.TheVariants.{FlowCount, Flow, Ufr, Amount, Shock, People}
use Rattle.model.specs.Constants.{default_ufr, default_equity_correlation}
use Rattle.model.specs.Fields.{number_of, Field, field, counted, optional, ◌then◌}
use Rattle.model.specs.Layout.{days, flow, amounts, no_amounts, shocks, people, equity_correlation, stands, rate_bytes_in, present_in, FirstParts, Parts, layout}
use Rattle.fields.specs.Reading.{IfThere}

abbrev pub first_laid : Bool → Bool → Bool → Bool → Field FirstParts
first_laid u s b a =
    optional u default_ufr (field Ufr (number_of 2 0 5000))
    then optional s [] (days 2)
    then counted 120 FlowCount Flow flow
    then optional b [] (counted 60 FlowCount Flow flow)
    then optional a no_amounts (field Amount amounts)
    then field Shock shocks
    then field People people

abbrev pub laid : Bool → Bool → Bool → Bool → Bool → Bool → Field Parts
laid u s b a l e = first_laid u s b a then optional l [] (days 4) then optional e default_equity_correlation (field Shock equity_correlation)

pub announced-are : (bits : ℕ)
    → laid (stands 0 bits) (not (stands 7 bits)) (stands 3 bits) (stands 4 bits) (stands 7 bits) (stands 8 bits)
    ≡ layout (rate_bytes_in bits) (present_in bits)
announced-are bits = go (stands 7 bits)
  where
    go : (t : Bool) → laid (stands 0 bits) (not t) (stands 3 bits) (stands 4 bits) t (stands 8 bits) ≡ layout (cond t 4 2) (present_in bits)
    go true = refl
    go false = refl

-- a field that need not be there is read as its value
pub read-or-absent : {A : Type 0} (there : Bool) (v x d : A) → IfThere there (v ≡ x) ((v ≡ d) × (x ≡ d)) → v ≡ x
read-or-absent true v x d h = h
read-or-absent false v x d h = h.0 ∙ sym h.1
