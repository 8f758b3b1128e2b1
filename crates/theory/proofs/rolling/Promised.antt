-- What is promised of a rolling window, from the theorems of this folder. Assumes nothing.
use Prim.Native.Nat.{ℕ, ◌<◌}
use mathlib.Core.Path.{◌≡◌, refl, ap, subst}
use mathlib.Core.Bool.{Bool, true, ◌&&◌, cond}
use mathlib.Core.List.{List, [], ◌∷◌, ◌++◌}
use native.Mathlib.Omega.{arith}
use borrow.Author.Tests.{lt-ltb}
use lib.Dec.{ltb}
use lib.ListN.{length}
use lib.IntN.{ℤ}
use Rattle.std.proofs.lemmas.Bool.{and_from}
use Rattle.model.specs.Case.{FileCase}
use Rattle.model.specs.Layout.{day}
use Rattle.model.specs.Refusals.{failing, first_of}
use Rattle.rollingmodel.specs.Rolling.{empty_window, days_held, add_refusal, changed, add_day, drop_day, added, dropped}
use Rattle.rollingmodel.specs.Rolling.{rolling_checks, rolling_refusal, rolling_valuation, rolling_factors_after, rolling_rates_after}
use Rattle.rollingmodel.specs.Promises.{RightExactly, Holds, EmptyHoldsNothing, ChangesHold, ChangesOfRightHold}
use Rattle.rollingmodel.specs.Promises.{DamagedAheadOfAll, FullExactly, EmptyExactly, RefusedChangesNothing}
use Rattle.rollingmodel.specs.Promises.{window_case, WindowValuedAsFile, WindowAcceptedExactly, WindowKeepsContainment, RefusedWindowLeavesBuffers}
use Rattle.rollingmodel.specs.Promises.{AlikeAnswers, ChangesAlike, FreeSlotsAlike, AddCall, DropCall, WindowCall, EveryAddCall, EveryDropCall, EveryWindowCall}
use Rattle.rollingmodel.specs.declared.RollingWindow.{RollingWindow}
use Rattle.rollingmodel.proofs.Unchanged.{add-unchanged, drop-unchanged}
use Rattle.theory.proofs.acceptance.Checks.{none-hold, none-fails}
use Rattle.theory.proofs.containment.Valued.{answered-number, case-valued}
use Rattle.theory.proofs.rolling.Held.{held-count}
use Rattle.theory.proofs.rolling.Right.{right-facts, facts-right}
use Rattle.theory.proofs.rolling.Holds.{empty_holds, add_holds, drop-holds, changes-hold, holds_after}
use Rattle.theory.proofs.rolling.Valued.{window-values, long-factors, long-rates, within-limits}
use Rattle.theory.proofs.rolling.Contained.{window-contained}
use Rattle.theory.proofs.rolling.Alike.{alike-answers, changes-alike, free-alike}
use Rattle.theory.proofs.rolling.Refused.{add-damaged, add-full, add-none, drop-damaged, drop-empty, drop-none, value-damaged, value-none, value-refused}

-- ---- what a window holds

pub right_exactly : RightExactly
right_exactly = record { facts = right-facts; test = facts-right }

pub empty_holds_nothing : EmptyHoldsNothing
empty_holds_nothing = record { right = facts-right empty_window empty_holds.right; holds = empty_holds }

pub changes_hold : ChangesHold
changes_hold = record { after = holds_after }

pub changes_of_right_hold : ChangesOfRightHold
changes_of_right_hold = record { after = changes-hold }

-- ---- refusals

pub damaged_ahead_of_all : DamagedAheadOfAll
damaged_ahead_of_all = record { adding = add-damaged; dropping = drop-damaged; valuing = value-damaged }

pub full_exactly : FullExactly
full_exactly = record { full = add-full }

pub empty_exactly : EmptyExactly
empty_exactly = record { empty = drop-empty }

pub refused_changes_nothing : RefusedChangesNothing
refused_changes_nothing = record { adding = add-unchanged; dropping = drop-unchanged }

-- ---- a window that is valued

pub window_valued_as_file : WindowValuedAsFile
window_valued_as_file = record { valued = window-values }

pub window_accepted_exactly : WindowAcceptedExactly
window_accepted_exactly = record { exactly = value-none }

pub window_keeps_containment : WindowKeepsContainment
window_keeps_containment = record { kept = window-contained }

pub refused_window_leaves_buffers : RefusedWindowLeavesBuffers
refused_window_leaves_buffers = record { refused = value-refused }

-- ---- the place of the oldest day, and free slots

pub alike_answers : AlikeAnswers
alike_answers = record { same = alike-answers }

pub changes_alike : ChangesAlike
changes_alike = record { after = λ w v h long other_long cs. changes-alike cs w v h long other_long }

pub free_slots_alike : FreeSlotsAlike
free_slots_alike = record { alike = free-alike }

-- ---- every call

module _ (w : RollingWindow) (long : length w.rates ≡ 4200) where
  added-holds : (new : List ℤ) → add_refusal w new ≡ 0 → Holds (add_day w new).window (days_held w ++ (new ∷ []))
  unfolding add_refusal
  added-holds new e =
      let h = (add-none w new).0 e in
      let own : Holds w (days_held w) = record { long = long; right = h.right; held = refl } in
      subst (λ (b : Bool). Holds (add_day w new).window (cond b (days_held w ++ (new ∷ [])) (days_held w))) (passed e h.room) (add_holds w (days_held w) own new)
    where
      passed : add_refusal w new ≡ 0 → w.count < 70 → (ltb (length (days_held w)) 70 && (day 2).right new) ≡ true
      passed e room =
          and_from (ltb (length (days_held w)) 70) ((day 2).right new) (lt-ltb (length (days_held w)) 70 (omega (arith, room, held-count w)))
          (none-hold _ e).1.1.0

  pub add_call : (new : List ℤ) → AddCall w new
  unfolding add_day
  add_call new = record {
    long = long;
    refused = add-unchanged w new;
    exactly = add-none w new;
    accepted = λ e. ap (λ (r : ℕ). (changed r w (added w new)).refusal) e;
    holds = added-holds new;
  }

  pub drop_call : DropCall w
  unfolding drop_day
  drop_call = record {
    long = long;
    refused = drop-unchanged w;
    exactly = drop-none w;
    accepted = λ e. ap (λ (r : ℕ). (changed r w (dropped w)).refusal) e;
    holds = λ e. drop-holds w (days_held w) (record { long = long; right = ((drop-none w).0 e).0; held = refl });
  }

pub window_call : (w : RollingWindow) (k : FileCase) (factors : List ℕ) (rates : List ℤ) → WindowCall w k factors rates
unfolding rolling_refusal rolling_valuation rolling_factors_after rolling_rates_after first_of
window_call w k factors rates = record {
  number = answered-number (failing (rolling_checks w k (length factors) (length rates))) (window_case w k);
  refused = value-refused w k factors rates;
  exactly = value-none w k (length factors) (length rates);
  valued = λ e.
      let none = none-fails (rolling_checks w k (length factors) (length rates)) e in
      case-valued (window_case w k) (within-limits w k (length factors) (length rates) none)
      (long-factors w k (length factors) (length rates) none) (long-rates w k (length factors) (length rates) none) (rw none) (rw none) (rw none);
  as_file = λ right accepted p agrees. window-values w k right accepted p agrees factors rates;
}

pub every_add_call : EveryAddCall
every_add_call = record { call = λ w new long. add_call w long new }

pub every_drop_call : EveryDropCall
every_drop_call = record { call = drop_call }

pub every_window_call : EveryWindowCall
every_window_call = record { call = window_call }
