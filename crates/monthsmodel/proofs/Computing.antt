-- What the computed statements of this crate compute with: the definitions of specs/, and those of the crates below it. Assumes nothing.
use Prim.Native.Nat.{ℕ}
use Rattle.rollingmodel.proofs.Computing as Rolling
use Rattle.monthsmodel.specs.Months.{months_of, oldest_first, total, rounded_ufr, ufr_refusal, ufr_answer, months_refusal, months_valuation}
use Rattle.monthsmodel.specs.Months.{months_factors_after, months_rates_after, with_ufr_field}

unfoldable pub all : ℕ
unfolding
    Rolling.all
    months_of oldest_first total rounded_ufr ufr_refusal ufr_answer months_refusal months_valuation months_factors_after months_rates_after with_ufr_field
all = 0
