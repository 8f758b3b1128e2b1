-- Why the valuation of a window is refused, where each of its checks holds or fails. Assumes nothing.
use Prim.Native.Nat.{ℕ, ◌≤◌}
use mathlib.Core.Path.{◌≡◌, sym}
use mathlib.Core.Bool.{true, false, ◌&&◌}
use mathlib.Core.List.{List, [], ◌∷◌, ◌++◌}
use borrow.Author.Tests.{le-leb}
use lib.Dec.{leb, ltb}
use Rattle.std.specs.Prelude.{Option, Some, None}
use Rattle.model.specs.Case.{FileCase}
use Rattle.model.specs.Fields.{Check}
use Rattle.model.specs.Refusals.{failing, forwards_right}
use Rattle.rollingmodel.specs.Rolling.{days_held, rolling_right, rolling_checks}
use Rattle.savingmodel.specs.Saving.{case_checks}
use Rattle.rollingmodel.specs.declared.RollingWindow.{RollingWindow}
use Rattle.refusal.specs.declared.Refusal.{Refusal}
use Rattle.refusal.specs.declared.Refusal.TheVariants.{DayCount, Forward, Buffers, Damaged}
use Rattle.fields.proofs.Steps.{go, stop}

module _ (w : RollingWindow) (k : FileCase) where
  abbrev count : List Check
  count = (ltb 0 w.count, DayCount) ∷ []

  abbrev six : List Check
  six = (forwards_right w.count (days_held w), Forward) ∷ []

  module _ (factors rates : ℕ) where
    pub value-27 : rolling_right w ≡ false → failing (rolling_checks w k factors rates) ≡ Some Damaged
    value-27 h = rw h

    pub value-13 : rolling_right w ≡ true → (leb 240 factors && leb 240 rates) ≡ false → failing (rolling_checks w k factors rates) ≡ Some Buffers
    value-13 right h = rw (right, h)

    -- with both buffers long enough
    pub value-long : 240 ≤ factors → 240 ≤ rates → failing (rolling_checks w k 240 240) ≡ failing (rolling_checks w k factors rates)
    value-long hf hz = rw (le-leb 240 factors hf, le-leb 240 rates hz)

  module _ (right : rolling_right w ≡ true) where
    behind : {o : Option Refusal} → o ≡ failing (case_checks k ++ (count ++ six)) → o ≡ failing (rolling_checks w k 240 240)
    behind h = rw right h

    pub value-case : (e : Refusal) → Some e ≡ failing (case_checks k) → Some e ≡ failing (rolling_checks w k 240 240)
    value-case e h = behind (stop e (case_checks k) (count ++ six) h)

    module _ (own : None ≡ failing (case_checks k)) where
      days-next : {o : Option Refusal} → o ≡ failing (count ++ six) → o ≡ failing (rolling_checks w k 240 240)
      days-next h = behind (go (case_checks k) (count ++ six) (sym own) h)

      pub value-4 : (e : Refusal) → Some e ≡ failing count → Some e ≡ failing (rolling_checks w k 240 240)
      value-4 e h = days-next (stop e count six h)

      -- and by 6
      pub value-6 : failing count ≡ None → {o : Option Refusal} → o ≡ failing six → o ≡ failing (rolling_checks w k 240 240)
      value-6 some h = days-next (go count six some h)
