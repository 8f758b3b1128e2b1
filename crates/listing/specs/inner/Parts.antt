-- A part of a listing, as it is appended. Assumes nothing.
use Rattle.std.specs.Prelude.{ℕ, List, ◌++◌}
use Rattle.method.specs.Listing.{ascii, decimal}

-- a number with a space before it
unfoldable pub spaced : ℕ → List ℕ
spaced n = ascii " " ++ decimal n
