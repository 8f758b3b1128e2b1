-- The case as the engine holds it, of the fields that a host hands in and the sums of some days.
use Rattle.std.specs.Prelude.{ℕ, List}
use Rattle.heldcase.specs.declared.Case.{Case}
use Rattle.model.specs.Case.{FileCase}

abbrev pub joined : FileCase → ℕ → List ℕ → Case
joined k days sums = record {
  ufr = k.ufr;
  per_step = days;
  sums = sums;
  pension = k.pension;
  bonds = k.bonds;
  amounts = k.amounts;
  shocks = k.shocks;
  people = k.people;
}
