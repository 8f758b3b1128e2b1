-- What is promised of the search for a zero rate, from the theorems of this folder. Assumes nothing.
use Rattle.searchmodel.specs.Promises.{SearchesAreShort}
use Rattle.theory.proofs.curve.Searches.{searches-short, searches-of-files}

pub searches_are_short : SearchesAreShort
searches_are_short = record { of_cases = searches-short; of_files = searches-of-files }
