-- What a case as a host hands it in says, as the definitions of saving have it.
use Rattle.model.specs.Case.{FileCase}
use Rattle.savingmodel.specs.Saving.{given}
use Rattle.saving.specs.declared.given.GivenCase.{GivenCase}

abbrev pub said : GivenCase → FileCase
said c = given c.fields.now c.rates.now c.pension.now c.bonds.now
