-- What is printed of several files, and the status to end with. Assumes nothing.
use Rattle.std.specs.Prelude.{ℕ, List, [], ◌∷◌, ◌++◌, Option, Some, None, Bool, false, is_none, is_err, codes, if◌then◌else◌}
use Rattle.std.specs.List.{list_any, flat_map}
use Rattle.std.specs.Result.{result_ok, result_err}
use Rattle.method.specs.Listing.{listing}
use Rattle.refusal.specs.Numbered.{answer_of}
use Rattle.model.specs.declared.figures.Valuation.{Valuation}
use Rattle.refusal.specs.declared.Refusal.{Refusal}
use Rattle.report.specs.declared.input.Told.{Told}
use Rattle.report.specs.declared.numbers.Numbers.{Numbers}
use Rattle.report.specs.declared.text.Row.{Row}

-- what is told of a file that could be read: the numbers of its case, its valuation, and why it is refused
abbrev pub numbers_told : Option Told → Option Numbers
numbers_told (Some told) = told.numbers
numbers_told None = None

abbrev pub valuation_told : Option Told → Option Valuation
valuation_told (Some told) = result_ok told.valuation
valuation_told None = None

abbrev pub refusal_told : Option Told → Option Refusal
refusal_told (Some told) = result_err told.valuation
refusal_told None = None

-- the listing, or other words where nothing is told
abbrev pub answer_text : Option Told → List ℕ → List ℕ
answer_text (Some told) none = listing (answer_of told.valuation)
answer_text None none = none

-- a file's listing under its name
abbrev pub block : Row → List ℕ
block row = row.name.now ++ (codes "\n" ++ answer_text row.told (codes "no answer\n"))

-- one listing as it is; of several, a block for each, with an empty line between
abbrev pub report : List Row → List ℕ
report [] = []
report (row ∷ []) = answer_text row.told []
report (row ∷ rows) = block row ++ flat_map (λ r. codes "\n" ++ block r) rows

-- whether a file is refused
abbrev pub refuses : Option Told → Bool
refuses (Some told) = is_err told.valuation
refuses None = false

-- 2 where nothing is told of a file, else 1 where one is refused, else 0
abbrev pub status : List Row → ℕ
status rows = if list_any (λ row. is_none row.told) rows then 2 else (if list_any (λ row. refuses row.told) rows then 1 else 0)
