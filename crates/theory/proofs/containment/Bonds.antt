-- What is promised of bonds off the adjusted curve, from the theorems of `curve` and `money`. Assumes nothing.
use Rattle.method.specs.Curve.{curve}
use Rattle.method.specs.Bonds.{BondsNotByTheUfr, BondsToTerm20AsAdjusted, BondFactorsInBrackets}
use Rattle.theory.proofs.curve.CaseCurves.{curve-within}
use Rattle.theory.proofs.curve.Unadjusted.{unadjusted-in, unadjusted-den, unadjusted-width}
use Rattle.theory.proofs.money.Bonds.{exact-B-any-ufr, B-any-ufr, exact-B-to-20, B-at, figures-to-20, verdict-to-20}
use Rattle.theory.proofs.containment.Proved.{in-units}

pub bonds_are_not_by_the_ufr : BondsNotByTheUfr
bonds_are_not_by_the_ufr = record { exact = exact-B-any-ufr; rounded = B-any-ufr }

pub bonds_to_term_20_are_as_adjusted : BondsToTerm20AsAdjusted
bonds_to_term_20_are_as_adjusted = record { exact = exact-B-to-20; rounded = B-at; figures = figures-to-20; verdict = verdict-to-20 }

pub bond_factors_are_in_brackets : BondFactorsInBrackets
bond_factors_are_in_brackets = record {
  within = λ k w m t h e.
      let c = curve k m in
      let v = curve-within k w m in
      in-units (unadjusted-den c v t h) (unadjusted-in c v e t h);
  width = λ k w m t h. unadjusted-width (curve k m) (curve-within k w m) t h;
}
