-- The law of the first check that fails, as a contract has it.
use Rattle.model.proofs.First.{first-none, first-more}
use Rattle.reader.specs.Answers.{IsFirstOfAll}

pub first_of_all : IsFirstOfAll
first_of_all = record { none = first-none; next = first-more }
