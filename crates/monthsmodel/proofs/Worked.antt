-- A file and a history that are valued with a buffer that is too short: what is answered, and what both buffers hold then, each computed.
-- Assumes nothing.
use mathlib.Core.Path.{◌≡◌, refl}
use lib.ListN.{replicate}
use lib.IntN.{pos}
use Rattle.std.specs.Prelude.{Err}
use Rattle.refusal.specs.declared.Refusal.TheVariants.{Buffers}
use Rattle.monthsmodel.specs.Months.{months_valuation, months_factors_after, months_rates_after}
use Rattle.monthsmodel.proofs.Computing.{all}
use Rattle.monthsmodel.proofs.MonthsCases.{plain_file, found_history}

too-short : (months_valuation plain_file found_history 0 239 240 ≡ Err Buffers)
    × (months_valuation plain_file found_history 0 240 239 ≡ Err Buffers)
unfolding all
too-short = (refl, refl)

factors-left : (months_factors_after plain_file found_history 0 (replicate 239 7) (replicate 240 (pos 8)) ≡ replicate 239 7)
    × (months_factors_after plain_file found_history 0 (replicate 240 7) (replicate 239 (pos 8)) ≡ replicate 240 7)
unfolding all
factors-left = (refl, refl)

rates-left : (months_rates_after plain_file found_history 0 (replicate 239 7) (replicate 240 (pos 8)) ≡ replicate 240 (pos 8))
    × (months_rates_after plain_file found_history 0 (replicate 240 7) (replicate 239 (pos 8)) ≡ replicate 239 (pos 8))
unfolding all
rates-left = (refl, refl)
