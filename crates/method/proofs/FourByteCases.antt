-- Rates in four bytes: the curves and figures of a fund none of whose rates is a whole step, and rewritings, as computed statements about the
-- definitions.
-- tests/writers wrote this file, from the reference in Python, which was written without the engine's code (tests/reference): change
-- that, not this. Assumes nothing.
use mathlib.Core.Path.{◌≡◌, refl}
use mathlib.Core.Bool.{true, false}
use mathlib.Core.List.{[], ◌∷◌, ◌++◌}
use lib.Dec.{lit<}
use lib.ListN.{replicate}
use lib.IntN.{pos, neg_ℤ}
use Rattle.arith.specs.Rounding.{low, high}
use Rattle.model.specs.Case.{FileCase, with_days, per_step}
use Rattle.model.specs.Refusals.{forwards_right}
use Rattle.method.specs.Fraction.{◌//◌, ◌≐◌}
use Rattle.method.specs.Curve.{base, up, down, curve, P}
use Rattle.method.specs.Exact as Exact
use Rattle.method.specs.Rounded as Rounded
use Rattle.method.specs.FourBytes.{rewritten, rewritten_file}
use Rattle.method.specs.Listing.{ascii, word}
use Rattle.model.specs.declared.figures.Verdict.TheVariants.{Dekkingstekort}
use Rattle.model.proofs.Computing.{pairs}
use Rattle.model.proofs.FourByteCases.{finer_case, old_case, new_case, old_file, new_file}
use Rattle.method.proofs.Computing.{all}

finer-base-points : ((curve finer_case base).N ≡ 10000000)
    × ((curve finer_case base).ufr ≡ 4321)
    × (P (curve finer_case base) 1 ≡ 9991951)
    × (P (curve finer_case base) 20 ≡ 10074050)
    × (P (curve finer_case base) 60 ≡ 10246890)
unfolding all
finer-base-points = (refl, refl, refl, refl, refl)

finer-up-points : ((curve finer_case up).N ≡ 10000000)
    × ((curve finer_case up).ufr ≡ 4321)
    × (P (curve finer_case up) 1 ≡ 10023951)
    × (P (curve finer_case up) 20 ≡ 10106050)
    × (P (curve finer_case up) 60 ≡ 10278890)
unfolding all
finer-up-points = (refl, refl, refl, refl, refl)

finer-down-points : ((curve finer_case down).N ≡ 10000000)
    × ((curve finer_case down).ufr ≡ 4321)
    × (P (curve finer_case down) 1 ≡ 9973951)
    × (P (curve finer_case down) 20 ≡ 10056050)
    × (P (curve finer_case down) 60 ≡ 10228890)
unfolding all
finer-down-points = (refl, refl, refl, refl, refl)

finer-L : (Rounded.L finer_case base low ≡ 7482179173)
    × (Rounded.L finer_case base high ≡ 7482179176)
unfolding all
finer-L = (refl, refl)

finer-B : (Rounded.B finer_case base low ≡ 5555528571)
    × (Rounded.B finer_case base high ≡ 5555528573)
unfolding all
finer-B = (refl, refl)

finer-S1 : (Rounded.S1 finer_case low ≡ 3916813)
    × (Rounded.S1 finer_case high ≡ 3916823)
unfolding all
finer-S1 = (refl, refl)

finer-S : (Rounded.S finer_case low ≡ 2872113379)
    × (Rounded.S finer_case high ≡ 2872113382)
unfolding all
finer-S = (refl, refl)

finer-factor-1 : (Rounded.factor (curve finer_case base) low 1 ≡ 1000805548385)
    × (Rounded.factor (curve finer_case base) high 1 ≡ 1000805548386)
unfolding all
finer-factor-1 = (refl, refl)

finer-factor-21 : (Rounded.factor (curve finer_case base) low 21 ≡ 846882607144)
    × (Rounded.factor (curve finer_case base) high 21 ≡ 846882607180)
unfolding all
finer-factor-21 = (refl, refl)

finer-exact-factor-1 : Exact.factor (curve finer_case base) 1 ≐ 10000000 // 9991951
unfolding all
finer-exact-factor-1 = (lit< tt, lit< tt, refl)

finer-exact-L : Exact.L finer_case base ≐ 72424711943891693913318150371963067982000000000 // 9679628119496961519676390102263881541
unfolding all
finer-exact-L = (lit< tt, lit< tt, refl)

finer-exact-B : Exact.B finer_case base ≐ 18506815061641751205518786117000000000 // 3331242891164923638699759669
unfolding all
finer-exact-B = (lit< tt, lit< tt, refl)

finer-verdicts : (word (Rounded.verdict finer_case) ≡ ascii "DEKKINGSTEKORT")
    × (Exact.verdict finer_case ≡ Dekkingstekort)
unfolding all
finer-verdicts = (refl, refl)

-- The same fund with its rates rounded to steps: other figures.
abbrev pub rounded_off : FileCase
rounded_off =
    with_days 2 ((neg_ℤ (pos 80) ∷ neg_ℤ (pos 37) ∷ pos 6 ∷ pos 49 ∷ pos 92 ∷ pos 136 ∷ pos 179 ∷ pos 222 ∷ pos 265 ∷ pos 308 ∷ pos 352 ∷ pos 395 ∷ pos 438 ∷ pos 481 ∷ pos 524 ∷ pos 568 ∷ pos 611 ∷ pos 654 ∷ pos 697 ∷ pos 741 ∷ pos 784 ∷ pos 827 ∷ pos 870 ∷ pos 913 ∷ pos 957 ∷ pos 1000 ∷ pos 1043 ∷ pos 1086 ∷ pos 1129 ∷ pos 1173 ∷ pos 1216 ∷ pos 1259 ∷ pos 1302 ∷ pos 1345 ∷ pos 1389 ∷ pos 1432 ∷ pos 1475 ∷ pos 1518 ∷ pos 1561 ∷ pos 1605 ∷ pos 1648 ∷ pos 1691 ∷ pos 1734 ∷ pos 1778 ∷ pos 1821 ∷ pos 1864 ∷ pos 1907 ∷ pos 1950 ∷ pos 1994 ∷ pos 2037 ∷ pos 2080 ∷ pos 2123 ∷ pos 2166 ∷ pos 2210 ∷ pos 2253 ∷ pos 2296 ∷ pos 2339 ∷ pos 2382 ∷ pos 2426 ∷ pos 2469 ∷ []) ∷ []) finer_case

rounded_off-L : (Rounded.L rounded_off base low ≡ 7482145119)
    × (Rounded.L rounded_off base high ≡ 7482145122)
unfolding all
rounded_off-L = (refl, refl)

rounded_off-S1 : (Rounded.S1 rounded_off low ≡ 3916947)
    × (Rounded.S1 rounded_off high ≡ 3916957)
unfolding all
rounded_off-S1 = (refl, refl)

rounded_off-factor-21 : (Rounded.factor (curve rounded_off base) low 21 ≡ 846828538392)
    × (Rounded.factor (curve rounded_off base) high 21 ≡ 846828538430)
unfolding all
rounded_off-factor-21 = (refl, refl)

-- The same fund with a second day, a unit at every term.
abbrev pub two_days : FileCase
two_days =
    with_days 4 ((neg_ℤ (pos 8049) ∷ neg_ℤ (pos 3728) ∷ pos 593 ∷ pos 4914 ∷ pos 9235 ∷ pos 13556 ∷ pos 17877 ∷ pos 22198 ∷ pos 26519 ∷ pos 30840 ∷ pos 35161 ∷ pos 39482 ∷ pos 43803 ∷ pos 48124 ∷ pos 52445 ∷ pos 56766 ∷ pos 61087 ∷ pos 65408 ∷ pos 69729 ∷ pos 74050 ∷ pos 78371 ∷ pos 82692 ∷ pos 87013 ∷ pos 91334 ∷ pos 95655 ∷ pos 99976 ∷ pos 104297 ∷ pos 108618 ∷ pos 112939 ∷ pos 117260 ∷ pos 121581 ∷ pos 125902 ∷ pos 130223 ∷ pos 134544 ∷ pos 138865 ∷ pos 143186 ∷ pos 147507 ∷ pos 151828 ∷ pos 156149 ∷ pos 160470 ∷ pos 164791 ∷ pos 169112 ∷ pos 173433 ∷ pos 177754 ∷ pos 182075 ∷ pos 186396 ∷ pos 190717 ∷ pos 195038 ∷ pos 199359 ∷ pos 203680 ∷ pos 208001 ∷ pos 212322 ∷ pos 216643 ∷ pos 220964 ∷ pos 225285 ∷ pos 229606 ∷ pos 233927 ∷ pos 238248 ∷ pos 242569 ∷ pos 246890 ∷ []) ∷ (replicate 60 (pos 1)) ∷ []) finer_case

per-step : (per_step finer_case ≡ 100)
    × (per_step two_days ≡ 200)
    × (per_step rounded_off ≡ 1)
unfolding all
per-step = (refl, refl, refl)

forwards-per-step : (forwards_right 100 (((pos 1 ∷ []) ++ replicate 59 (pos 600001)) ∷ []) ≡ false)
    × (forwards_right 101 (((pos 1 ∷ []) ++ replicate 59 (pos 600001)) ∷ []) ≡ true)
unfolding all
forwards-per-step = (refl, refl)

two-days-base-points : ((curve two_days base).N ≡ 20000000)
    × ((curve two_days base).ufr ≡ 4321)
    × (P (curve two_days base) 1 ≡ 19991952)
    × (P (curve two_days base) 20 ≡ 20074051)
    × (P (curve two_days base) 60 ≡ 20246891)
unfolding all
two-days-base-points = (refl, refl, refl, refl, refl)

two-days-up-points : ((curve two_days up).N ≡ 20000000)
    × ((curve two_days up).ufr ≡ 4321)
    × (P (curve two_days up) 1 ≡ 20055952)
    × (P (curve two_days up) 20 ≡ 20138051)
    × (P (curve two_days up) 60 ≡ 20310891)
unfolding all
two-days-up-points = (refl, refl, refl, refl, refl)

two-days-down-points : ((curve two_days down).N ≡ 20000000)
    × ((curve two_days down).ufr ≡ 4321)
    × (P (curve two_days down) 1 ≡ 19955952)
    × (P (curve two_days down) 20 ≡ 20038051)
    × (P (curve two_days down) 60 ≡ 20210891)
unfolding all
two-days-down-points = (refl, refl, refl, refl, refl)

rewritten-case : rewritten old_case ≡ new_case
unfolding all
rewritten-case = refl

rewritten-file : rewritten_file old_file ≡ new_file
unfolding all
rewritten-file = refl

rewritten-defaults : rewritten_file ((0x00 ∷ 0x77 ∷ 0x10 ∷ 0x68 ∷ 0x01 ∷ []) ++ pairs 60 0x00 0x00 ++ (0x01 ∷ 0x00 ∷ 0x0f ∷ 0x42 ∷ 0x40 ∷ []) ++ pairs 45 0x00 0x00 ++ (0x00 ∷ 0x64 ∷ 0x03 ∷ 0x0c ∷ 0x01 ∷ 0xcc ∷ [])) ≡ (0x00 ∷ 0xf5 ∷ 0x10 ∷ 0x68 ∷ 0x01 ∷ 0x00 ∷ 0x0f ∷ 0x42 ∷ 0x40 ∷ []) ++ pairs 45 0x00 0x00 ++ (0x00 ∷ 0x64 ∷ 0x03 ∷ 0x0c ∷ 0x01 ∷ 0xcc ∷ 0x01 ∷ []) ++ pairs 120 0x00 0x00
unfolding all
rewritten-defaults = refl
