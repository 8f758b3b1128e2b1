-- A drop from a window of one day and from an empty one, and a window that is valued with a buffer that is too short: what is answered, and
-- what both buffers hold then, each computed. Assumes nothing.
use mathlib.Core.Path.{◌≡◌, refl}
use lib.ListN.{replicate}
use lib.IntN.{pos}
use Rattle.std.specs.Prelude.{Err}
use Rattle.refusal.specs.declared.Refusal.TheVariants.{Buffers}
use Rattle.rollingmodel.specs.Rolling.{empty_window, add_day, drop_refusal, rolling_refusal, rolling_valuation, rolling_factors_after, rolling_rates_after}
use Rattle.savingmodel.proofs.SavedCases.{small}
use Rattle.rollingmodel.proofs.Computing.{all}
use Rattle.rollingmodel.proofs.RollingCases.{flat_days}

last-dropped : (drop_refusal (add_day empty_window (replicate 60 (pos 7))).window ≡ 0) × (drop_refusal empty_window ≡ 16)
unfolding add_day drop_refusal all
last-dropped = (refl, refl)

number-of-too-short : (rolling_refusal flat_days small 239 240 ≡ 13) × (rolling_refusal flat_days small 240 239 ≡ 13)
unfolding rolling_refusal all
number-of-too-short = (refl, refl)

too-short : (rolling_valuation flat_days small 239 240 ≡ Err Buffers) × (rolling_valuation flat_days small 240 239 ≡ Err Buffers)
unfolding rolling_valuation all
too-short = (refl, refl)

factors-left : (rolling_factors_after flat_days small (replicate 239 7) (replicate 240 (pos 8)) ≡ replicate 239 7)
    × (rolling_factors_after flat_days small (replicate 240 7) (replicate 239 (pos 8)) ≡ replicate 240 7)
unfolding rolling_factors_after all
factors-left = (refl, refl)

rates-left : (rolling_rates_after flat_days small (replicate 239 7) (replicate 240 (pos 8)) ≡ replicate 240 (pos 8))
    × (rolling_rates_after flat_days small (replicate 240 7) (replicate 239 (pos 8)) ≡ replicate 239 (pos 8))
unfolding rolling_rates_after all
rates-left = (refl, refl)
