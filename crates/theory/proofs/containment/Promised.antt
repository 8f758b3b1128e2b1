-- What is promised of a valuation, from the theorems of this folder. Assumes nothing.
use mathlib.Core.Path.{refl}
use Rattle.model.specs.Case.{FileCase}
use Rattle.model.specs.Limits.{WithinLimits}
use Rattle.model.specs.Layout.{case_of}
use Rattle.method.specs.Curve.{base, curve}
use Rattle.method.specs.Rounded as Rounded
use Rattle.method.specs.Containment.{Given, ContainmentAndWidth}
use Rattle.method.specs.Promises.{EveryCall, RefusedCallsChangeNothing, AcceptedCallsGiveTheRoundedWorking, EveryFiguresCall, OfEvery, ExactWorkingIsContained}
use Rattle.method.specs.Promises.{FactorsLieInTheirBrackets, ZeroRatesLieInTheirBrackets, MoneyLiesInItsBrackets}
use Rattle.method.specs.Promises.{FactorsAreNarrow, ZeroRatesAreNarrow, MoneyIsNarrow}
use Rattle.method.specs.Promises.{VerdictsAreExact, UndecidedOnlyNearABorder, NothingIsCutOff, TogetherTheClassesAreSummed}
use Rattle.theory.proofs.acceptance.Acceptance.{within-limits}
use Rattle.theory.proofs.containment.Proved.{containment}
use Rattle.theory.proofs.containment.Calls.{call, refused-call, accepted-call, figures-call}
use Rattle.theory.proofs.money.EquityClasses.{summed, absent-together}

-- ---- calls

pub every_call : EveryCall
every_call = record { call = call }

pub a_refused_call_changes_nothing : RefusedCallsChangeNothing
a_refused_call_changes_nothing = record { refused = λ r file factors rates e. refused-call file factors rates r e }

pub an_accepted_call_gives_the_rounded_working : AcceptedCallsGiveTheRoundedWorking
an_accepted_call_gives_the_rounded_working = record { accepted = λ file factors rates b h. accepted-call file factors rates h b }

pub every_call_without_buffers : EveryFiguresCall
every_call_without_buffers = record { call = figures-call }

-- ---- cases

-- what is shown of every case within the limits holds of that of every accepted file
of-every : (Sentence : FileCase → Type 0) → ((k : FileCase) → WithinLimits k → Sentence k) → OfEvery Sentence
of-every Sentence shown = record { within_limits = shown; accepted = λ file h. shown (case_of file) (within-limits file h) }

-- what the rounded working gives
abbrev worked : FileCase → Given
worked k = record {
  figures = Rounded.figures k;
  verdict = Rounded.verdict k;
  factor = Rounded.factor (curve k base);
  rate = Rounded.zero_rate (curve k base);
}

met : (k : FileCase) → WithinLimits k → ContainmentAndWidth k (worked k)
met k w = containment k w (worked k) (record { figures = refl; verdict = refl; factor = λ e t l m. refl; rate = λ e t l m. refl })

pub exact_factors_lie_in_their_brackets : OfEvery FactorsLieInTheirBrackets
exact_factors_lie_in_their_brackets = of-every FactorsLieInTheirBrackets (λ k w. record { factor = (met k w).factor_in })

pub exact_zero_rates_lie_in_their_brackets : OfEvery ZeroRatesLieInTheirBrackets
exact_zero_rates_lie_in_their_brackets = of-every ZeroRatesLieInTheirBrackets (λ k w. record { rate = (met k w).rate_in })

pub exact_money_lies_in_its_brackets : OfEvery MoneyLiesInItsBrackets
exact_money_lies_in_its_brackets = of-every MoneyLiesInItsBrackets (λ k w. let d = met k w in record {
  LIn = d.LIn;
  BIn = d.BIn;
  AIn = d.AIn;
  S1In = d.S1In;
  S2In = d.S2In;
  S3In = d.S3In;
  S4In = d.S4In;
  S5In = d.S5In;
  S6In = d.S6In;
  SIn = d.SIn;
})

pub factors_are_narrow : OfEvery FactorsAreNarrow
factors_are_narrow = of-every FactorsAreNarrow (λ k w. record { factor = (met k w).factor_width })

pub zero_rates_are_narrow : OfEvery ZeroRatesAreNarrow
zero_rates_are_narrow = of-every ZeroRatesAreNarrow (λ k w. record { rate = (met k w).rate_width })

pub money_is_narrow : OfEvery MoneyIsNarrow
money_is_narrow = of-every MoneyIsNarrow (λ k w. let d = met k w in record { LWidth = d.LWidth; BWidth = d.BWidth; AWidth = d.AWidth; SWidth = d.SWidth })

pub each_verdict_is_the_exact_one : OfEvery VerdictsAreExact
each_verdict_is_the_exact_one = of-every VerdictsAreExact (λ k w. record { right = (met k w).right })

pub undecided_only_near_a_border : OfEvery UndecidedOnlyNearABorder
undecided_only_near_a_border = of-every UndecidedOnlyNearABorder (λ k w. record { margin = (met k w).margin })

pub nothing_is_cut_off : OfEvery NothingIsCutOff
nothing_is_cut_off = of-every NothingIsCutOff (λ k w. let d = met k w in record {
  product_real = d.product_real;
  value_real = d.value_real;
  P_uncut = d.PUncut;
  rate_found = d.rate_found;
})

pub the_exact_working_is_contained : OfEvery ExactWorkingIsContained
the_exact_working_is_contained = of-every ExactWorkingIsContained (λ k w. record { given = containment k w })

pub classes_that_fall_together_are_summed : TogetherTheClassesAreSummed
classes_that_fall_together_are_summed = record {
  within_limits = summed;
  without_field = λ file h absent. summed (case_of file) (within-limits file h) (absent-together file h absent);
}
