-- A rolling window valued with a case of four-byte rates, as computed statements about the definitions.
-- tests/writers wrote this file, from the reference in Python, which was written without the engine's code (tests/reference): change
-- that, not this. Assumes nothing.
use Prim.Native.String.{String}
use mathlib.Core.Path.{◌≡◌, refl}
use mathlib.Core.List.{List, [], ◌∷◌}
use lib.ListN.{replicate, take}
use lib.IntN.{pos}
use Rattle.refusal.specs.Numbered.{answer_of}
use Rattle.method.specs.Listing.{listing}
use Rattle.method.proofs.Computing.{text}
use Rattle.model.proofs.FourByteCases.{finer_case}
use Rattle.rollingmodel.specs.Rolling.{rolling_valuation, rolling_factors_after}
use Rattle.rollingmodel.proofs.Computing.{all}
use Rattle.rollingmodel.proofs.RollingCases.{flat_days}

-- The fund with the days of a window.
abbrev pub in_window_listing : List String
in_window_listing =
    "L 7464430164 7464430167"
    ∷ "B 5540809346 5540809348"
    ∷ "A 6002648446 6002648448"
    ∷ "S1 3907005 3907015"
    ∷ "S2 89400113 89400114"
    ∷ "S3 2820521328 2820521329"
    ∷ "S4 11237346 11237347"
    ∷ "S5 5701305 5701306"
    ∷ "S6 532818603 532818604"
    ∷ "S 2871877918 2871877921"
    ∷ "V DEKKINGSTEKORT"
    ∷ []

in-window-listing : listing (answer_of (rolling_valuation flat_days finer_case 240 240)) ≡ text in_window_listing
unfolding all
in-window-listing = refl

in-window-factors : take 2 (rolling_factors_after flat_days finer_case (replicate 240 7) (replicate 240 (pos 7))) ≡ (998996009010 ∷ 998996009011 ∷ [])
unfolding all
in-window-factors = refl
