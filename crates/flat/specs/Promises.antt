-- What is promised of the structs that a host is given. All of it has to be believed: the record is the contract of a function of the crate
-- `promises`. proofs/Plain.antt uses it once more in plain numbers.
use Rattle.std.specs.Prelude.{◌≡◌, Result}
use Rattle.refusal.specs.Numbered.{answer_of}
use Rattle.refusal.specs.declared.Refusal.{Refusal}
use Rattle.model.specs.declared.figures.Valuation.{Valuation}
use Rattle.flat.specs.Flat.{host_valuation, valuation_from}

-- a valuation or a refusal that a host hands back says what it said: so its listing is that of the file
pub record HandedBackAsGiven : Type 0 where
  pub same : (answer : Result Valuation Refusal) → valuation_from (host_valuation answer) ≡ answer_of answer
