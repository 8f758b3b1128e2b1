-- The case as the engine holds it: the struct `Case` of src/lib.rt that represents the case of a file.
use Rattle.std.specs.Prelude.{suc, [], replicate}
use Rattle.model.specs.Constants.{default_ufr}
use Rattle.model.specs.Numbers.{table}
use Rattle.model.specs.Case.{FileCase, per_step}
use Rattle.model.specs.Layout.{no_amounts, default_shocks}
use Rattle.method.specs.Curve.{base, curve, P}
use Rattle.heldcase.specs.declared.Case.{Case}

-- of the days, P(t) of the terms 1 to 60 and what one step adds to it
unfoldable pub held : FileCase → Case
held k = record {
  ufr = k.ufr;
  per_step = per_step k;
  sums = table (λ i. P (curve k base) (suc i)) 60;
  pension = k.pension;
  bonds = k.bonds;
  amounts = k.amounts;
  shocks = k.shocks;
  people = k.people;
}

-- the default case: the UFR and the correlation between the equity classes of a file without these fields, no bonds and no amounts, as a file
-- that lacks them has, and all else 0
unfoldable pub default_case : Case
default_case = record {
  ufr = default_ufr;
  per_step = 0;
  sums = replicate 60 0;
  pension = [];
  bonds = [];
  amounts = no_amounts;
  shocks = default_shocks;
  people = record { heads = 0; pension_age = 0; mean_age = 0 };
}
