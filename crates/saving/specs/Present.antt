-- The optional fields that are written, as the layout has them.
use Rattle.model.specs.Layout.{Present}
use Rattle.saving.specs.declared.included.Included.{Included}

abbrev pub present_of : Included → Present
present_of p = record { ufr = p.ufr; bonds = p.bonds; amounts = p.amounts; equity = p.equity }
