-- `window_case` meets its contract, check by check. Assumes nothing. The check leaves each of these goals open without its answer.
use Rattle.std.proofs.Common.{◌≡◌, ◌∙◌, [], ◌∷◌, Bool, Option, None, ℕ, ap, sym, nat_lt}
use Rattle.std.proofs.lemmas.Result.{err_from_is_err_and}
use Rattle.refusal.specs.declared.Refusal.{Refusal}
use Rattle.refusal.specs.declared.Refusal.TheVariants.{DayCount, Forward}
use Rattle.model.specs.Refusals.{failing}
use Rattle.rollingmodel.specs.Rolling.{rolling_checks}
use Rattle.saving.specs.Said.{said}
use Rattle.rolling.proofs.Ordered.{value-case, value-4, value-6}
use Rattle.rolling.proofs.Joined.{six-held, few-flows, case-holds}
use Rattle.rolling.proofs.valued.window_case.Goals.{In_ok-forwards_within}
use Rattle.rolling.proofs.valued.window_case.Goals as goal

-- one check, of a test known otherwise
told-by : (r : Refusal) {a b : Bool} {o : Option Refusal} → a ≡ b → o ≡ failing ((a, r) ∷ []) → o ≡ failing ((b, r) ∷ [])
told-by r e h = h ∙ ap (λ (t : Bool). failing ((t, r) ∷ [])) e

-- past all checks
accepted : (c : In_ok-forwards_within) → None ≡ failing (rolling_checks c.args.w.now (said c.args.given.now) 240 240)
accepted c =
    let some = told-by DayCount (ap (λ (n : ℕ). nat_lt 0 n) c.requires.count) (sym c.in_ok-check.ensures.checked.0) in
    value-6 _ _ c.requires.right c.in_ok-checked_file.ensures.refusal (sym some) (told-by Forward (six-held _ c.requires.right _ _ (c.requires.count, c.requires.sums)) (sym c.in_ok-forwards_within.ensures.0))

pub returns-in_err-checked_file-clause-refusal : goal.returns-in_err-checked_file-clause-refusal
returns-in_err-checked_file-clause-refusal c =
    let p = err_from_is_err_and c.from_residual.result c.from_residual.ensures.1 in
    rw (p.1, p.2) (value-case _ _ c.requires.right c.in_err-checked_file.field-0.0 c.in_err-checked_file.ensures.refusal)

pub returns-in_err-check-clause-refusal : goal.returns-in_err-check-clause-refusal
returns-in_err-check-clause-refusal c =
    let p = err_from_is_err_and c.from_residual-in_err-check.result c.from_residual-in_err-check.ensures.1 in
    rw (p.1, p.2) (value-4 _ _ c.requires.right c.in_ok-checked_file.ensures.refusal c.in_err-check.field-0.0
    (told-by DayCount (ap (λ (n : ℕ). nat_lt 0 n) c.requires.count) c.in_err-check.ensures.checked))

pub returns-in_err-forwards_within-clause-refusal : goal.returns-in_err-forwards_within-clause-refusal
returns-in_err-forwards_within-clause-refusal c =
    let p = err_from_is_err_and c.from_residual-in_err-forwards_within.result c.from_residual-in_err-forwards_within.ensures.1 in
    let some = told-by DayCount (ap (λ (n : ℕ). nat_lt 0 n) c.requires.count) (sym c.in_ok-check.ensures.checked.0) in
    rw (p.1, p.2) (value-6 _ _ c.requires.right c.in_ok-checked_file.ensures.refusal (sym some)
    (told-by Forward (six-held _ c.requires.right _ _ (c.requires.count, c.requires.sums)) c.in_err-forwards_within.ensures))

pub join-requires : goal.join-requires
join-requires c =
    let few = few-flows _ _ 240 240 (accepted (goal.at.join-requires c).In_ok-forwards_within) in
    record { pension = few.0; bonds = few.1 }

pub returns-clause-refusal : goal.returns-clause-refusal
returns-clause-refusal c = accepted (goal.at.returns-clause-refusal c).In_ok-forwards_within

pub returns-clause-case : goal.returns-clause-case
returns-clause-case c = case-holds _ (said c.args.given.now) c.requires.right (c.requires.count, c.requires.sums) c.join.ensures
