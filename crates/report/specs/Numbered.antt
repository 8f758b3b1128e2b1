-- The numbers by which an office knows its case again. Assumes nothing.
use Rattle.std.specs.Prelude.{ℕ, if◌then◌else◌, List, Option, Some, None, Result, Ok, Err, length, sum}
use Rattle.model.specs.Case.{FileCase, all_except_currency}
use Rattle.model.specs.Layout.{stands, file_map, case_of}
use Rattle.model.specs.Refusals.{failing, checks}
use Rattle.monthsmodel.specs.Months.{ufr_answer}
use Rattle.refusal.specs.declared.Refusal.{Refusal}
use Rattle.report.specs.declared.input.History.{History}
use Rattle.report.specs.declared.numbers.Numbers.{Numbers}
use Rattle.report.specs.declared.numbers.UfrSource.{UfrSource}
use Rattle.report.specs.declared.numbers.UfrSource.TheVariants as source

-- of a case that is valued with this UFR
abbrev pub numbers_in : ℕ → UfrSource → FileCase → Numbers
numbers_in ufr from k = record {
  ufr = ufr;
  ufr_source = from;
  rate_bytes = k.rate_bytes;
  days = length k.days;
  pension_flows = length k.pension;
  pension_sum = sum k.pension;
  bond_flows = length k.bonds;
  bond_sum = sum k.bonds;
  assets_sum = all_except_currency k.amounts;
}

-- of a file with its own UFR: bit 0 of its map says whether the UFR is in it
abbrev pub own_numbers : List ℕ → Numbers
own_numbers file = numbers_in (case_of file).ufr (if stands 0 (file_map file) then source.File else source.Default) (case_of file)

-- the same, none of a refused file
abbrev pub numbers_if : Option Refusal → List ℕ → Option Numbers
numbers_if None file = Some (own_numbers file)
numbers_if (Some r) file = None

-- with the UFR that a history gives, none where the file or the history is refused
abbrev pub found_numbers : Option Refusal → Result ℕ Refusal → List ℕ → Option Numbers
found_numbers None (Ok ufr) file = Some (numbers_in ufr source.History (case_of file))
found_numbers None (Err r) file = None
found_numbers (Some r) ufr file = None

abbrev pub numbers_with : Option History → List ℕ → Option Numbers
numbers_with None file = numbers_if (failing (checks file)) file
numbers_with (Some months) file = found_numbers (failing (checks file)) (ufr_answer months.bytes.now months.start) file
