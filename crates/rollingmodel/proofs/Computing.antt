-- What the computed statements of this crate compute with: the definitions of specs/, and those of the crates below it. Assumes nothing.
use Prim.Native.Nat.{ℕ}
use Rattle.method.proofs.Computing as Method
use Rattle.savingmodel.proofs.Computing as Saving
use Rattle.rollingmodel.specs.Rolling.{days_held, sums_of, rolling_right, add_refusal, drop_refusal, added, dropped, add_day, drop_day, changed_by, queued_by}
use Rattle.rollingmodel.specs.Rolling.{rolling_refusal, rolling_valuation, rolling_factors_after, rolling_rates_after}

unfoldable pub all : ℕ
unfolding
    Method.all Saving.all
    days_held sums_of rolling_right add_refusal drop_refusal added dropped add_day drop_day changed_by queued_by
    rolling_refusal rolling_valuation rolling_factors_after rolling_rates_after
all = 0
