-- The case as the engine holds it, with another UFR.
use Rattle.std.specs.Prelude.{ℕ}
use Rattle.heldcase.specs.declared.Case.{Case}

abbrev pub changed : ℕ → Case → Case
changed ufr c = record {
  ufr = ufr;
  per_step = c.per_step;
  sums = c.sums;
  pension = c.pension;
  bonds = c.bonds;
  amounts = c.amounts;
  shocks = c.shocks;
  people = c.people;
}
