-- The listings of whole case files, and what takes longer to compute of a curve, as computed statements about the definitions.
-- tests/writers wrote this file, from the reference in Python, which was written without the engine's code (tests/reference): change
-- that, not this. Assumes nothing.
use Prim.Native.String.{String}
use mathlib.Core.Path.{◌≡◌, refl}
use mathlib.Core.List.{List, [], ◌∷◌}
use lib.Dec.{lit<}
use lib.IntN.{pos, neg_ℤ}
use Rattle.refusal.specs.Numbered.{answer_of}
use Rattle.arith.specs.Rounding.{low, high}
use Rattle.method.specs.Fraction.{◌//◌, ◌≐◌}
use Rattle.method.specs.Curve.{base, up, down, curve}
use Rattle.method.specs.Exact as Exact
use Rattle.method.specs.Rounded as Rounded
use Rattle.method.specs.Buffers.{valuation_of}
use Rattle.method.specs.Listing.{listing}
use Rattle.method.proofs.Computing.{text, all}
use Rattle.method.proofs.Pinned.{bent_curve, up_file, down_file, deepest_file, deepest_case, long}

abbrev pub up_listing : List String
up_listing =
    "L 7444567283 7444567286"
    ∷ "B 8921231953 8921231956"
    ∷ "A 9383071053 9383071056"
    ∷ "S1 57600402 57600414"
    ∷ "S2 89400113 89400114"
    ∷ "S3 2820521328 2820521329"
    ∷ "S4 11237346 11237347"
    ∷ "S5 5701305 5701306"
    ∷ "S6 531400770 531400771"
    ∷ "S 2872860281 2872860283"
    ∷ "V RESERVETEKORT"
    ∷ []

up-listing : listing (answer_of (valuation_of 240 240 up_file)) ≡ text up_listing
unfolding all
up-listing = refl

abbrev pub down_listing : List String
down_listing =
    "L 12074946603 12074946606"
    ∷ "B 1586365554 1586365557"
    ∷ "A 25007319254 25007319257"
    ∷ "S1 61969548 61969560"
    ∷ "S2 874276515 874276515"
    ∷ "S3 217200171 217200172"
    ∷ "S4 74478516 74478517"
    ∷ "S5 462908664 462908665"
    ∷ "S6 790330318 790330319"
    ∷ "S 1313869065 1313869073"
    ∷ "V VRIJ VERMOGEN"
    ∷ []

down-listing : listing (answer_of (valuation_of 240 240 down_file)) ≡ text down_listing
unfolding all
down-listing = refl

abbrev pub deepest_listing : List String
deepest_listing =
    "L 222632984298 222632984320"
    ∷ "B 18276301930 18276301932"
    ∷ "A 248276301930 248276301932"
    ∷ "S1 10978400432 10978400480"
    ∷ "S2 0 0"
    ∷ "S3 0 0"
    ∷ "S4 0 0"
    ∷ "S5 0 0"
    ∷ "S6 22263298429 22263298432"
    ∷ "S 24822967852 24822967876"
    ∷ "V VRIJ VERMOGEN"
    ∷ []

deepest-listing : listing (answer_of (valuation_of 240 240 deepest_file)) ≡ text deepest_listing
unfolding all
deepest-listing = refl

bent-factor-40 : (Rounded.factor bent_curve low 40 ≡ 536796712985)
    × (Rounded.factor bent_curve high 40 ≡ 536796713129)
unfolding all
bent-factor-40 = (refl, refl)

bent-factor-60 : (Rounded.factor bent_curve low 60 ≡ 235189661055)
    × (Rounded.factor bent_curve high 60 ≡ 235189661143)
unfolding all
bent-factor-60 = (refl, refl)

bent-factor-61 : (Rounded.factor bent_curve low 61 ≡ 225448050780)
    × (Rounded.factor bent_curve high 61 ≡ 225448050866)
unfolding all
bent-factor-61 = (refl, refl)

bent-factor-120 : (Rounded.factor bent_curve low 120 ≡ 18582910617)
    × (Rounded.factor bent_curve high 120 ≡ 18582910646)
unfolding all
bent-factor-120 = (refl, refl)

bent-zero-rate-1 : (Rounded.zero_rate bent_curve low 1 ≡ neg_ℤ (pos 298))
    × (Rounded.zero_rate bent_curve high 1 ≡ neg_ℤ (pos 297))
unfolding all
bent-zero-rate-1 = (refl, refl)

bent-zero-rate-2 : (Rounded.zero_rate bent_curve low 2 ≡ neg_ℤ (pos 238))
    × (Rounded.zero_rate bent_curve high 2 ≡ neg_ℤ (pos 236))
unfolding all
bent-zero-rate-2 = (refl, refl)

bent-zero-rate-3 : (Rounded.zero_rate bent_curve low 3 ≡ neg_ℤ (pos 178))
    × (Rounded.zero_rate bent_curve high 3 ≡ neg_ℤ (pos 177))
unfolding all
bent-zero-rate-3 = (refl, refl)

bent-zero-rate-21 : Rounded.zero_rate bent_curve high 21 ≡ pos 409
unfolding all
bent-zero-rate-21 = refl

long-up-L : (Rounded.L long up low ≡ 74027595428)
    × (Rounded.L long up high ≡ 74027595584)
unfolding all
long-up-L = (refl, refl)

long-down-L : (Rounded.L long down low ≡ 88818888762)
    × (Rounded.L long down high ≡ 88818888920)
unfolding all
long-down-L = (refl, refl)

long-base-B : (Rounded.B long base low ≡ 333945393369)
    × (Rounded.B long base high ≡ 333945393437)
unfolding all
long-base-B = (refl, refl)

long-up-B : (Rounded.B long up low ≡ 314695754322)
    × (Rounded.B long up high ≡ 314695754391)
unfolding all
long-up-B = (refl, refl)

long-down-B : (Rounded.B long down low ≡ 369506823026)
    × (Rounded.B long down high ≡ 369506823095)
unfolding all
long-down-B = (refl, refl)

deepest-down-exact-unadjusted-60 : Exact.unadjusted (curve deepest_case down) 60 ≐ 867361737988403547205962240695953369140625000000000000000000000000000000000000000000000000000000000000 // 258086210989349276047917817413172383631691140276099547911280598425927853437317437263620645695945672001
unfolding all
deepest-down-exact-unadjusted-60 = (lit< tt, lit< tt, refl)

deepest-base-B : (Rounded.B deepest_case base low ≡ 18276301930)
    × (Rounded.B deepest_case base high ≡ 18276301932)
unfolding all
deepest-base-B = (refl, refl)

deepest-up-B : (Rounded.B deepest_case up low ≡ 15520963843)
    × (Rounded.B deepest_case up high ≡ 15520963845)
unfolding all
deepest-up-B = (refl, refl)

deepest-down-B : (Rounded.B deepest_case down low ≡ 33607442050)
    × (Rounded.B deepest_case down high ≡ 33607442052)
unfolding all
deepest-down-B = (refl, refl)
