-- The part of a file that holds the rates, as a struct that C knows. Assumes nothing.
use Rattle.std.specs.Prelude.{ℕ, List, length}
use Rattle.model.specs.Refusals.{failing, checks, rates_part}
use Rattle.reader.specs.Answers.{rates_from}
use Rattle.flat.specs.declared.part.HostPart.{HostPart}

-- where the part of the file is that holds the rates, and how many bytes it has
abbrev pub host_part : List ℕ → HostPart
host_part file = record { offset = rates_from (failing (checks file)) file; length = length (rates_part file) }
