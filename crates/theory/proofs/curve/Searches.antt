-- Of every accepted file the search for either zero rate of every term from 1 to 120 keeps its promise. Its rates are those of the rounded
-- working: `zero_rate` of the base curve is `rate_of` of its factors.
-- Assumes nothing.
use Prim.Native.Nat.{ℕ, ◌≤◌}
use mathlib.Core.Path.{◌≡◌}
use mathlib.Core.List.{List}
use Rattle.arith.specs.Rounding.{End}
use Rattle.model.specs.Constants.{last_term}
use Rattle.model.specs.Case.{FileCase}
use Rattle.model.specs.Limits.{WithinLimits}
use Rattle.model.specs.Layout.{case_of}
use Rattle.model.specs.Refusals.{refusal}
use Rattle.method.specs.Curve.{base, curve}
use Rattle.method.specs.Rounded as Rounded
use Rattle.searchmodel.specs.Bisection.{ShortSearch}
use Rattle.theory.proofs.acceptance.Acceptance.{within-limits}
use Rattle.theory.proofs.curve.CaseCurves.{base-within}
use Rattle.theory.proofs.curve.Bisection.{short-search}
use Rattle.theory.proofs.curve.ZeroRate.{rate-exists}

-- of a case within the limits
pub searches-short : (k : FileCase) → WithinLimits k → (e : End) (t : ℕ) → 1 ≤ t → t ≤ last_term → ShortSearch (Rounded.factor (curve k base)) e t
searches-short k w e t least most =
    short-search (Rounded.factor (curve k base)) t e (rate-exists (curve k base) (base-within k w) t most e)

-- from the bytes
pub searches-of-files : (file : List ℕ) → refusal file ≡ 0
    → (e : End) (t : ℕ) → 1 ≤ t → t ≤ last_term → ShortSearch (Rounded.factor (curve (case_of file) base)) e t
searches-of-files file h = searches-short (case_of file) (within-limits file h)
