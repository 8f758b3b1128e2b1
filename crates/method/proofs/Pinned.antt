-- Numbers of case files and cases as computed statements about the definitions: what an edit of a definition is held against. What takes
-- longer to compute is in the crates `pinned` and `accepted`.
-- tests/writers wrote this file, from the reference in Python, which was written without the engine's code (tests/reference): change
-- that, not this. Assumes nothing.
use Prim.Native.Nat.{ℕ, ◌+◌}
use mathlib.Core.Path.{◌≡◌, refl}
use mathlib.Core.Bool.{true, false}
use mathlib.Core.List.{List, [], ◌∷◌, ◌++◌}
use native.Mathlib.Nat.{not-le_of_lt}
use lib.Dec.{lit<, lit≤}
use lib.ListN.{replicate}
use lib.IntN.{pos, neg_ℤ}
use Rattle.arith.specs.Rounding.{low, high}
use Rattle.model.specs.Numbers.{table}
use Rattle.model.specs.Constants.{last_term}
use Rattle.model.specs.Case.{FileCase, s}
use Rattle.model.specs.Layout.{file_of}
use Rattle.method.specs.Fraction.{◌//◌, ◌≐◌, whole, Rooted}
use Rattle.method.specs.Curve.{Curve, base, up, down, curve, P, weight}
use Rattle.method.specs.Exact as Exact
use Rattle.method.specs.Rounded as Rounded
use Rattle.method.specs.Buffers.{entry_of, factor_entries}
use Rattle.method.specs.Margins.{WL, WB, NearFirst, NearSecond, first_margin, second_margin}
use Rattle.method.specs.Containment.{
  least_step,
  most_step,
  factor_width_most,
  rate_width_most,
  L_width_most,
  B_width_most,
  A_width_most,
  S_width_most,
}
use Rattle.method.specs.Listing.{ascii, word}
use Rattle.model.specs.declared.figures.Verdict.TheVariants.{Dekkingstekort, Reservetekort, VrijVermogen}
use Rattle.model.proofs.Computing.{pairs}
use Rattle.method.proofs.Computing.{all}

-- each weight, terms 21 to 60, in thousandths
weights-by-term : table (λ i. weight (21 + i)) 40 ≡ 86 ∷ 186 ∷ 274 ∷ 351 ∷ 420 ∷ 481 ∷ 536 ∷ 584 ∷ 628 ∷ 666
    ∷ 701 ∷ 732 ∷ 760 ∷ 785 ∷ 808 ∷ 828 ∷ 846 ∷ 863 ∷ 878 ∷ 891
    ∷ 903 ∷ 914 ∷ 923 ∷ 932 ∷ 940 ∷ 947 ∷ 954 ∷ 960 ∷ 965 ∷ 970
    ∷ 974 ∷ 978 ∷ 982 ∷ 985 ∷ 988 ∷ 990 ∷ 993 ∷ 995 ∷ 997 ∷ 998
    ∷ []
unfolding all
weights-by-term = refl

-- A bent curve of three days: the rates rise, fall, rise and fall with the term, and the short ones are negative.
abbrev pub bent_file : List ℕ
bent_file =
    (0x00 ∷ 0x77 ∷ 0x10 ∷ 0xe1 ∷ 0x03 ∷ 0xfe ∷ 0xde ∷ 0xff ∷ 0x1a ∷ 0xff ∷ 0x56 ∷ 0xff ∷ 0x92 ∷ 0xff ∷ 0xce ∷ 0x00 ∷ 0x0a ∷ 0x00 ∷ 0x46 ∷ 0x00 ∷ 0x82 ∷ 0x00 ∷ 0xbe ∷ 0x00 ∷ 0xfa ∷ 0x01 ∷ 0x36 ∷ 0x01 ∷ 0x72 ∷ 0x01 ∷ 0xae ∷ 0x01 ∷ 0xea ∷ 0x02 ∷ 0x26 ∷ 0x02 ∷ 0x0d ∷ 0x01 ∷ 0xf4 ∷ 0x01 ∷ 0xdb ∷ 0x01 ∷ 0xc2 ∷ 0x01 ∷ 0xa9 ∷ 0x01 ∷ 0x90 ∷ 0x01 ∷ 0x77 ∷ 0x01 ∷ 0x5e ∷ 0x01 ∷ 0x45 ∷ 0x01 ∷ 0x2c ∷ 0x01 ∷ 0x13 ∷ 0x00 ∷ 0xfa ∷ 0x00 ∷ 0xe1 ∷ 0x00 ∷ 0xc8 ∷ 0x00 ∷ 0xaf ∷ 0x00 ∷ 0xd7 ∷ 0x00 ∷ 0xff ∷ 0x01 ∷ 0x27 ∷ 0x01 ∷ 0x4f ∷ 0x01 ∷ 0x77 ∷ 0x01 ∷ 0x9f ∷ 0x01 ∷ 0xc7 ∷ 0x01 ∷ 0xef ∷ 0x02 ∷ 0x17 ∷ 0x02 ∷ 0x3f ∷ 0x02 ∷ 0x67 ∷ 0x02 ∷ 0x8f ∷ 0x02 ∷ 0xb7 ∷ 0x02 ∷ 0xdf ∷ 0x03 ∷ 0x07 ∷ 0x02 ∷ 0xf8 ∷ 0x02 ∷ 0xe9 ∷ 0x02 ∷ 0xda ∷ 0x02 ∷ 0xcb ∷ 0x02 ∷ 0xbc ∷ 0x02 ∷ 0xad ∷ 0x02 ∷ 0x9e ∷ 0x02 ∷ 0x8f ∷ 0x02 ∷ 0x80 ∷ 0x02 ∷ 0x71 ∷ 0x02 ∷ 0x62 ∷ 0x02 ∷ 0x53 ∷ 0x02 ∷ 0x44 ∷ 0x02 ∷ 0x35 ∷ 0x02 ∷ 0x26 ∷ 0xfe ∷ 0xe8 ∷ 0xff ∷ 0x20 ∷ 0xff ∷ 0x63 ∷ 0xff ∷ 0x9b ∷ 0xff ∷ 0xd3 ∷ 0x00 ∷ 0x16 ∷ 0x00 ∷ 0x4e ∷ 0x00 ∷ 0x86 ∷ 0x00 ∷ 0xc9 ∷ 0x01 ∷ 0x01 ∷ 0x01 ∷ 0x39 ∷ 0x01 ∷ 0x7c ∷ 0x01 ∷ 0xb4 ∷ 0x01 ∷ 0xf7 ∷ 0x02 ∷ 0x2f ∷ 0x02 ∷ 0x12 ∷ 0x02 ∷ 0x00 ∷ 0x01 ∷ 0xe3 ∷ 0x01 ∷ 0xc6 ∷ 0x01 ∷ 0xb4 ∷ 0x01 ∷ 0x97 ∷ 0x01 ∷ 0x7a ∷ 0x01 ∷ 0x68 ∷ 0x01 ∷ 0x4b ∷ 0x01 ∷ 0x39 ∷ 0x01 ∷ 0x1c ∷ 0x00 ∷ 0xff ∷ 0x00 ∷ 0xed ∷ 0x00 ∷ 0xd0 ∷ 0x00 ∷ 0xb3 ∷ 0x00 ∷ 0xe2 ∷ 0x01 ∷ 0x06 ∷ 0x01 ∷ 0x2a ∷ 0x01 ∷ 0x59 ∷ 0x01 ∷ 0x7d ∷ 0x01 ∷ 0xac ∷ 0x01 ∷ 0xd0 ∷ 0x01 ∷ 0xf4 ∷ 0x02 ∷ 0x23 ∷ 0x02 ∷ 0x47 ∷ 0x02 ∷ 0x6b ∷ 0x02 ∷ 0x9a ∷ 0x02 ∷ 0xbe ∷ 0x02 ∷ 0xe2 ∷ 0x03 ∷ 0x11 ∷ 0x02 ∷ 0xfe ∷ 0x02 ∷ 0xf6 ∷ 0x02 ∷ 0xe3 ∷ 0x02 ∷ 0xd0 ∷ 0x02 ∷ 0xc8 ∷ 0x02 ∷ 0xb5 ∷ 0x02 ∷ 0xa2 ∷ 0x02 ∷ 0x9a ∷ 0x02 ∷ 0x87 ∷ 0x02 ∷ 0x74 ∷ 0x02 ∷ 0x6c ∷ 0x02 ∷ 0x59 ∷ 0x02 ∷ 0x51 ∷ 0x02 ∷ 0x3e ∷ 0x02 ∷ 0x2b ∷ 0xfe ∷ 0xbe ∷ 0xfe ∷ 0xff ∷ 0xff ∷ 0x33 ∷ 0xff ∷ 0x74 ∷ 0xff ∷ 0xb5 ∷ 0xff ∷ 0xe9 ∷ 0x00 ∷ 0x2a ∷ 0x00 ∷ 0x5e ∷ 0x00 ∷ 0x9f ∷ 0x00 ∷ 0xe0 ∷ 0x01 ∷ 0x14 ∷ 0x01 ∷ 0x55 ∷ 0x01 ∷ 0x89 ∷ 0x01 ∷ 0xca ∷ 0x02 ∷ 0x0b ∷ 0x01 ∷ 0xea ∷ 0x01 ∷ 0xd6 ∷ 0x01 ∷ 0xc2 ∷ 0x01 ∷ 0xa1 ∷ 0x01 ∷ 0x8d ∷ 0x01 ∷ 0x6c ∷ 0x01 ∷ 0x58 ∷ 0x01 ∷ 0x44 ∷ 0x01 ∷ 0x23 ∷ 0x01 ∷ 0x0f ∷ 0x00 ∷ 0xee ∷ 0x00 ∷ 0xda ∷ 0x00 ∷ 0xc6 ∷ 0x00 ∷ 0xa5 ∷ 0x00 ∷ 0x91 ∷ 0x00 ∷ 0xbe ∷ 0x00 ∷ 0xde ∷ 0x01 ∷ 0x0b ∷ 0x01 ∷ 0x2b ∷ 0x01 ∷ 0x58 ∷ 0x01 ∷ 0x85 ∷ 0x01 ∷ 0xa5 ∷ 0x01 ∷ 0xd2 ∷ 0x01 ∷ 0xf2 ∷ 0x02 ∷ 0x1f ∷ 0x02 ∷ 0x4c ∷ 0x02 ∷ 0x6c ∷ 0x02 ∷ 0x99 ∷ 0x02 ∷ 0xc6 ∷ 0x02 ∷ 0xe6 ∷ 0x02 ∷ 0xdc ∷ 0x02 ∷ 0xc5 ∷ 0x02 ∷ 0xbb ∷ 0x02 ∷ 0xb1 ∷ 0x02 ∷ 0x9a ∷ 0x02 ∷ 0x90 ∷ 0x02 ∷ 0x79 ∷ 0x02 ∷ 0x6f ∷ 0x02 ∷ 0x65 ∷ 0x02 ∷ 0x4e ∷ 0x02 ∷ 0x44 ∷ 0x02 ∷ 0x3a ∷ 0x02 ∷ 0x23 ∷ 0x02 ∷ 0x19 ∷ 0x02 ∷ 0x02 ∷ 0x01 ∷ 0x00 ∷ 0x0f ∷ 0x42 ∷ 0x40 ∷ []) ++ pairs 26 0x00 0x00 ++ (0x00 ∷ 0x10 ∷ 0xc8 ∷ 0xe0 ∷ []) ++ pairs 17 0x00 0x00 ++ (0x00 ∷ 0x64 ∷ 0x03 ∷ 0x0c ∷ 0x01 ∷ 0xcc ∷ [])

-- the case that it holds
abbrev pub bent_case : FileCase
bent_case = record {
  rate_bytes = 2;
  ufr = 4321;
  days = (neg_ℤ (pos 290) ∷ neg_ℤ (pos 230) ∷ neg_ℤ (pos 170) ∷ neg_ℤ (pos 110) ∷ neg_ℤ (pos 50) ∷ pos 10 ∷ pos 70 ∷ pos 130 ∷ pos 190 ∷ pos 250
      ∷ pos 310 ∷ pos 370 ∷ pos 430 ∷ pos 490 ∷ pos 550 ∷ pos 525 ∷ pos 500 ∷ pos 475 ∷ pos 450 ∷ pos 425
      ∷ pos 400 ∷ pos 375 ∷ pos 350 ∷ pos 325 ∷ pos 300 ∷ pos 275 ∷ pos 250 ∷ pos 225 ∷ pos 200 ∷ pos 175
      ∷ pos 215 ∷ pos 255 ∷ pos 295 ∷ pos 335 ∷ pos 375 ∷ pos 415 ∷ pos 455 ∷ pos 495 ∷ pos 535 ∷ pos 575
      ∷ pos 615 ∷ pos 655 ∷ pos 695 ∷ pos 735 ∷ pos 775 ∷ pos 760 ∷ pos 745 ∷ pos 730 ∷ pos 715 ∷ pos 700
      ∷ pos 685 ∷ pos 670 ∷ pos 655 ∷ pos 640 ∷ pos 625 ∷ pos 610 ∷ pos 595 ∷ pos 580 ∷ pos 565 ∷ pos 550
      ∷ [])
      ∷ (neg_ℤ (pos 280) ∷ neg_ℤ (pos 224) ∷ neg_ℤ (pos 157) ∷ neg_ℤ (pos 101) ∷ neg_ℤ (pos 45) ∷ pos 22 ∷ pos 78 ∷ pos 134 ∷ pos 201 ∷ pos 257
      ∷ pos 313 ∷ pos 380 ∷ pos 436 ∷ pos 503 ∷ pos 559 ∷ pos 530 ∷ pos 512 ∷ pos 483 ∷ pos 454 ∷ pos 436
      ∷ pos 407 ∷ pos 378 ∷ pos 360 ∷ pos 331 ∷ pos 313 ∷ pos 284 ∷ pos 255 ∷ pos 237 ∷ pos 208 ∷ pos 179
      ∷ pos 226 ∷ pos 262 ∷ pos 298 ∷ pos 345 ∷ pos 381 ∷ pos 428 ∷ pos 464 ∷ pos 500 ∷ pos 547 ∷ pos 583
      ∷ pos 619 ∷ pos 666 ∷ pos 702 ∷ pos 738 ∷ pos 785 ∷ pos 766 ∷ pos 758 ∷ pos 739 ∷ pos 720 ∷ pos 712
      ∷ pos 693 ∷ pos 674 ∷ pos 666 ∷ pos 647 ∷ pos 628 ∷ pos 620 ∷ pos 601 ∷ pos 593 ∷ pos 574 ∷ pos 555
      ∷ [])
      ∷ (neg_ℤ (pos 322) ∷ neg_ℤ (pos 257) ∷ neg_ℤ (pos 205) ∷ neg_ℤ (pos 140) ∷ neg_ℤ (pos 75) ∷ neg_ℤ (pos 23) ∷ pos 42 ∷ pos 94 ∷ pos 159 ∷ pos 224
      ∷ pos 276 ∷ pos 341 ∷ pos 393 ∷ pos 458 ∷ pos 523 ∷ pos 490 ∷ pos 470 ∷ pos 450 ∷ pos 417 ∷ pos 397
      ∷ pos 364 ∷ pos 344 ∷ pos 324 ∷ pos 291 ∷ pos 271 ∷ pos 238 ∷ pos 218 ∷ pos 198 ∷ pos 165 ∷ pos 145
      ∷ pos 190 ∷ pos 222 ∷ pos 267 ∷ pos 299 ∷ pos 344 ∷ pos 389 ∷ pos 421 ∷ pos 466 ∷ pos 498 ∷ pos 543
      ∷ pos 588 ∷ pos 620 ∷ pos 665 ∷ pos 710 ∷ pos 742 ∷ pos 732 ∷ pos 709 ∷ pos 699 ∷ pos 689 ∷ pos 666
      ∷ pos 656 ∷ pos 633 ∷ pos 623 ∷ pos 613 ∷ pos 590 ∷ pos 580 ∷ pos 570 ∷ pos 547 ∷ pos 537 ∷ pos 514
      ∷ [])
      ∷ [];
  pension = 1000000
      ∷ [];
  bonds = [];
  amounts = record {
    mature = 0;
    emerging = 0;
    private = 0;
    property = 0;
    commodities = 0;
    credit = 0;
    cash = 1100000;
    currency = 0;
  };
  shocks = record {
    up_shift = 0;
    down_shift = 0;
    mature_fall = 0;
    emerging_fall = 0;
    private_fall = 0;
    property_fall = 0;
    currency_fall = 0;
    commodities_fall = 0;
    spread_rise = 0;
    correlation = 0;
    spread = 0;
    duration = 0;
    equity_correlation = 1000;
  };
  people = record {
    heads = 100;
    pension_age = 780;
    mean_age = 460;
  };
}

bent-layout : file_of (record { ufr = true; bonds = false; amounts = true; equity = false }) bent_case ≡ bent_file
unfolding all
bent-layout = refl

abbrev pub bent_curve : Curve
bent_curve = curve bent_case base

bent-sums : (s bent_case.days 0 ≡ pos 0)
    × (s bent_case.days 1 ≡ neg_ℤ (pos 892))
    × (s bent_case.days 20 ≡ pos 1258)
    × (s bent_case.days 21 ≡ pos 1171)
    × (s bent_case.days 60 ≡ pos 1619)
unfolding all
bent-sums = (refl, refl, refl, refl, refl)

bent-growth-21 : (Rounded.growth bent_curve low 21 ≡ 998120888448)
    × (Rounded.growth bent_curve high 21 ≡ 998120888469)
unfolding all
bent-growth-21 = (refl, refl)

bent-growth-60 : (Rounded.growth bent_curve low 60 ≡ 994249977157)
    × (Rounded.growth bent_curve high 60 ≡ 994249977218)
unfolding all
bent-growth-60 = (refl, refl)

bent-weighed-21 : (Rounded.weighed bent_curve low 21 ≡ 1001998552041)
    × (Rounded.weighed bent_curve high 21 ≡ 1001998552061)
unfolding all
bent-weighed-21 = (refl, refl)

bent-weighed-60 : (Rounded.weighed bent_curve low 60 ≡ 1043112079954)
    × (Rounded.weighed bent_curve high 60 ≡ 1043112079955)
unfolding all
bent-weighed-60 = (refl, refl)

bent-weighed-61 : (Rounded.weighed bent_curve low 61 ≡ 1043210000000)
    × (Rounded.weighed bent_curve high 61 ≡ 1043210000000)
unfolding all
bent-weighed-61 = (refl, refl)

bent-factor-1 : (Rounded.factor bent_curve low 1 ≡ 1002982200409)
    × (Rounded.factor bent_curve high 1 ≡ 1002982200410)
unfolding all
bent-factor-1 = (refl, refl)

bent-factor-20 : (Rounded.factor bent_curve low 20 ≡ 919715113381)
    × (Rounded.factor bent_curve high 20 ≡ 919715113401)
unfolding all
bent-factor-20 = (refl, refl)

bent-factor-21 : (Rounded.factor bent_curve low 21 ≡ 917880681054)
    × (Rounded.factor bent_curve high 21 ≡ 917880681093)
unfolding all
bent-factor-21 = (refl, refl)

bent-factor-22 : (Rounded.factor bent_curve low 22 ≡ 911673602049)
    × (Rounded.factor bent_curve high 22 ≡ 911673602105)
unfolding all
bent-factor-22 = (refl, refl)

bent-entries-21 : (entry_of (factor_entries bent_case) low 21 ≡ 917880681054)
    × (entry_of (factor_entries bent_case) high 21 ≡ 917880681093)
unfolding all
bent-entries-21 = (refl, refl)

bent-exact-factor-1 : Exact.factor bent_curve 1 ≐ 75000 // 74777
unfolding all
bent-exact-factor-1 = (lit< tt, lit< tt, refl)

bent-exact-factor-2 : Exact.factor bent_curve 2 ≐ 10000000000 // 9952656169
unfolding all
bent-exact-factor-2 = (lit< tt, lit< tt, refl)

bent-exact-growth-60 : Exact.growth bent_curve 60 ≐ 30713346097476053847218470034110652168611231357108743377869639218509336914967625919076309097026639755663878472405455288614483111103506753210297463153753496229783172139600966375938218476717854714151164605066782290088108277390727636388973868501076221257472601159886439478341099679218763255238924426002759155393675408410954968944992113 // 29443955915858441408310787055741492216376982753922872943594719727089142180986111033948522287094960293452691672086962716923209740679009018954325117657484859555609098431489986126159371082124350153975210765808899712755294734385774295605855261793320761336565691563791894600205077400426599915922276414215911050870918599416374886400000000
unfolding all
bent-exact-growth-60 = (lit< tt, lit< tt, refl)

bent-exact-growth-61 : Exact.growth bent_curve 61 ≐ 104321 // 100000
unfolding all
bent-exact-growth-61 = (lit< tt, lit< tt, refl)

bent-exact-growth-120 : Exact.growth bent_curve 120 ≐ 104321 // 100000
unfolding all
bent-exact-growth-120 = (lit< tt, lit< tt, refl)

-- A fund with another number in every field, whose bonds are longer than its pensions: the up curve decides S1.
abbrev pub up_file : List ℕ
up_file =
    (0x00 ∷ 0x7f ∷ 0x10 ∷ 0xe1 ∷ 0x03 ∷ 0x00 ∷ 0xce ∷ 0x00 ∷ 0xe1 ∷ 0x00 ∷ 0xf4 ∷ 0x01 ∷ 0x07 ∷ 0x01 ∷ 0x1a ∷ 0x01 ∷ 0x2d ∷ 0x01 ∷ 0x40 ∷ 0x01 ∷ 0x53 ∷ 0x01 ∷ 0x66 ∷ 0x01 ∷ 0x79 ∷ 0x01 ∷ 0x8c ∷ 0x01 ∷ 0x9f ∷ 0x01 ∷ 0xb2 ∷ 0x01 ∷ 0xc5 ∷ 0x01 ∷ 0xd8 ∷ 0x01 ∷ 0xeb ∷ 0x01 ∷ 0xfe ∷ 0x02 ∷ 0x11 ∷ 0x02 ∷ 0x24 ∷ 0x02 ∷ 0x37 ∷ 0x02 ∷ 0x4a ∷ 0x02 ∷ 0x5d ∷ 0x02 ∷ 0x70 ∷ 0x02 ∷ 0x83 ∷ 0x02 ∷ 0x96 ∷ 0x02 ∷ 0xa9 ∷ 0x02 ∷ 0xbc ∷ 0x02 ∷ 0xcf ∷ 0x02 ∷ 0xe2 ∷ 0x02 ∷ 0xf5 ∷ 0x02 ∷ 0xf4 ∷ 0x02 ∷ 0xf3 ∷ 0x02 ∷ 0xde ∷ 0x02 ∷ 0xdd ∷ 0x02 ∷ 0xdc ∷ 0x02 ∷ 0xc7 ∷ 0x02 ∷ 0xc6 ∷ 0x02 ∷ 0xc5 ∷ 0x02 ∷ 0xb0 ∷ 0x02 ∷ 0xaf ∷ 0x02 ∷ 0xae ∷ 0x02 ∷ 0x99 ∷ 0x02 ∷ 0x98 ∷ 0x02 ∷ 0x97 ∷ 0x02 ∷ 0x82 ∷ 0x02 ∷ 0x81 ∷ 0x02 ∷ 0x80 ∷ 0x02 ∷ 0x6b ∷ 0x02 ∷ 0x6a ∷ 0x02 ∷ 0x69 ∷ 0x02 ∷ 0x54 ∷ 0x02 ∷ 0x53 ∷ 0x02 ∷ 0x52 ∷ 0x02 ∷ 0x3d ∷ 0x02 ∷ 0x3c ∷ 0x02 ∷ 0x3b ∷ 0x02 ∷ 0x26 ∷ 0x02 ∷ 0x25 ∷ 0x02 ∷ 0x24 ∷ 0x02 ∷ 0x0f ∷ 0x00 ∷ 0xfd ∷ 0x01 ∷ 0x13 ∷ 0x01 ∷ 0x29 ∷ 0x01 ∷ 0x3f ∷ 0x01 ∷ 0x55 ∷ 0x01 ∷ 0x6b ∷ 0x01 ∷ 0x81 ∷ 0x01 ∷ 0x97 ∷ 0x01 ∷ 0xad ∷ 0x01 ∷ 0xc3 ∷ 0x01 ∷ 0xd9 ∷ 0x01 ∷ 0xef ∷ 0x02 ∷ 0x05 ∷ 0x02 ∷ 0x1b ∷ 0x02 ∷ 0x31 ∷ 0x02 ∷ 0x47 ∷ 0x02 ∷ 0x5d ∷ 0x02 ∷ 0x73 ∷ 0x02 ∷ 0x89 ∷ 0x02 ∷ 0x9f ∷ 0x02 ∷ 0xb5 ∷ 0x02 ∷ 0xcb ∷ 0x02 ∷ 0xe1 ∷ 0x02 ∷ 0xf7 ∷ 0x03 ∷ 0x0d ∷ 0x03 ∷ 0x23 ∷ 0x03 ∷ 0x39 ∷ 0x03 ∷ 0x4f ∷ 0x03 ∷ 0x65 ∷ 0x03 ∷ 0x7b ∷ 0x03 ∷ 0x7d ∷ 0x03 ∷ 0x7f ∷ 0x03 ∷ 0x6d ∷ 0x03 ∷ 0x6f ∷ 0x03 ∷ 0x71 ∷ 0x03 ∷ 0x5f ∷ 0x03 ∷ 0x61 ∷ 0x03 ∷ 0x63 ∷ 0x03 ∷ 0x51 ∷ 0x03 ∷ 0x53 ∷ 0x03 ∷ 0x55 ∷ 0x03 ∷ 0x43 ∷ 0x03 ∷ 0x45 ∷ 0x03 ∷ 0x47 ∷ 0x03 ∷ 0x35 ∷ 0x03 ∷ 0x37 ∷ 0x03 ∷ 0x39 ∷ 0x03 ∷ 0x27 ∷ 0x03 ∷ 0x29 ∷ 0x03 ∷ 0x2b ∷ 0x03 ∷ 0x19 ∷ 0x03 ∷ 0x1b ∷ 0x03 ∷ 0x1d ∷ 0x03 ∷ 0x0b ∷ 0x03 ∷ 0x0d ∷ 0x03 ∷ 0x0f ∷ 0x02 ∷ 0xfd ∷ 0x02 ∷ 0xff ∷ 0x03 ∷ 0x01 ∷ 0x02 ∷ 0xef ∷ 0x00 ∷ 0xdd ∷ 0x00 ∷ 0xf0 ∷ 0x01 ∷ 0x03 ∷ 0x01 ∷ 0x16 ∷ 0x01 ∷ 0x29 ∷ 0x01 ∷ 0x3c ∷ 0x01 ∷ 0x4f ∷ 0x01 ∷ 0x62 ∷ 0x01 ∷ 0x75 ∷ 0x01 ∷ 0x88 ∷ 0x01 ∷ 0x9b ∷ 0x01 ∷ 0xae ∷ 0x01 ∷ 0xc1 ∷ 0x01 ∷ 0xd4 ∷ 0x01 ∷ 0xe7 ∷ 0x01 ∷ 0xfa ∷ 0x02 ∷ 0x0d ∷ 0x02 ∷ 0x20 ∷ 0x02 ∷ 0x33 ∷ 0x02 ∷ 0x46 ∷ 0x02 ∷ 0x59 ∷ 0x02 ∷ 0x6c ∷ 0x02 ∷ 0x7f ∷ 0x02 ∷ 0x92 ∷ 0x02 ∷ 0xa5 ∷ 0x02 ∷ 0xb8 ∷ 0x02 ∷ 0xcb ∷ 0x02 ∷ 0xde ∷ 0x02 ∷ 0xf1 ∷ 0x03 ∷ 0x04 ∷ 0x03 ∷ 0x03 ∷ 0x03 ∷ 0x02 ∷ 0x02 ∷ 0xed ∷ 0x02 ∷ 0xec ∷ 0x02 ∷ 0xeb ∷ 0x02 ∷ 0xd6 ∷ 0x02 ∷ 0xd5 ∷ 0x02 ∷ 0xd4 ∷ 0x02 ∷ 0xbf ∷ 0x02 ∷ 0xbe ∷ 0x02 ∷ 0xbd ∷ 0x02 ∷ 0xa8 ∷ 0x02 ∷ 0xa7 ∷ 0x02 ∷ 0xa6 ∷ 0x02 ∷ 0x91 ∷ 0x02 ∷ 0x90 ∷ 0x02 ∷ 0x8f ∷ 0x02 ∷ 0x7a ∷ 0x02 ∷ 0x79 ∷ 0x02 ∷ 0x78 ∷ 0x02 ∷ 0x63 ∷ 0x02 ∷ 0x62 ∷ 0x02 ∷ 0x61 ∷ 0x02 ∷ 0x4c ∷ 0x02 ∷ 0x4b ∷ 0x02 ∷ 0x4a ∷ 0x02 ∷ 0x35 ∷ 0x02 ∷ 0x34 ∷ 0x02 ∷ 0x33 ∷ 0x02 ∷ 0x1e ∷ 0x03 ∷ 0x01 ∷ 0xdf ∷ 0x5e ∷ 0x77 ∷ 0x01 ∷ 0x9e ∷ 0xc6 ∷ 0xe2 ∷ 0x00 ∷ 0xf6 ∷ 0xe4 ∷ 0x73 ∷ 0x05 ∷ 0x00 ∷ 0x96 ∷ 0xb4 ∷ 0x3f ∷ 0x00 ∷ 0x00 ∷ 0x00 ∷ 0x00 ∷ 0x02 ∷ 0xb9 ∷ 0x01 ∷ 0x40 ∷ 0x00 ∷ 0x00 ∷ 0x00 ∷ 0x00 ∷ 0x02 ∷ 0x0f ∷ 0x76 ∷ 0xd3 ∷ 0x00 ∷ 0x00 ∷ 0x00 ∷ 0x00 ∷ 0x00 ∷ 0x12 ∷ 0xd6 ∷ 0x87 ∷ 0x00 ∷ 0x00 ∷ 0x00 ∷ 0x00 ∷ 0x00 ∷ 0x0b ∷ 0xad ∷ 0xf9 ∷ 0x00 ∷ 0x00 ∷ 0x00 ∷ 0x00 ∷ 0x00 ∷ 0x08 ∷ 0x49 ∷ 0xeb ∷ 0x00 ∷ 0x00 ∷ 0x00 ∷ 0x00 ∷ 0x00 ∷ 0x0f ∷ 0x12 ∷ 0x0b ∷ 0x00 ∷ 0x00 ∷ 0x00 ∷ 0x00 ∷ 0x00 ∷ 0x04 ∷ 0xe9 ∷ 0xc3 ∷ 0x00 ∷ 0x00 ∷ 0x00 ∷ 0x00 ∷ 0x00 ∷ 0x09 ∷ 0xfb ∷ 0xf1 ∷ 0x00 ∷ 0x00 ∷ 0x00 ∷ 0x00 ∷ 0x00 ∷ 0x01 ∷ 0xb2 ∷ 0x6d ∷ 0x00 ∷ 0x00 ∷ 0x00 ∷ 0x00 ∷ 0x03 ∷ 0xad ∷ 0xbe ∷ 0xaf ∷ 0x01 ∷ 0x40 ∷ 0x00 ∷ 0xb4 ∷ 0x00 ∷ 0xfb ∷ 0x01 ∷ 0x61 ∷ 0x01 ∷ 0x33 ∷ 0x00 ∷ 0x95 ∷ 0x01 ∷ 0xc9 ∷ 0x01 ∷ 0x5d ∷ 0x01 ∷ 0xfd ∷ 0x01 ∷ 0x91 ∷ 0x09 ∷ 0x29 ∷ 0x00 ∷ 0x49 ∷ 0x00 ∷ 0x00 ∷ 0x04 ∷ 0xd5 ∷ 0x03 ∷ 0x24 ∷ 0x02 ∷ 0x1d ∷ [])

-- the case that it holds
abbrev pub up_case : FileCase
up_case = record {
  rate_bytes = 2;
  ufr = 4321;
  days = (pos 206 ∷ pos 225 ∷ pos 244 ∷ pos 263 ∷ pos 282 ∷ pos 301 ∷ pos 320 ∷ pos 339 ∷ pos 358 ∷ pos 377
      ∷ pos 396 ∷ pos 415 ∷ pos 434 ∷ pos 453 ∷ pos 472 ∷ pos 491 ∷ pos 510 ∷ pos 529 ∷ pos 548 ∷ pos 567
      ∷ pos 586 ∷ pos 605 ∷ pos 624 ∷ pos 643 ∷ pos 662 ∷ pos 681 ∷ pos 700 ∷ pos 719 ∷ pos 738 ∷ pos 757
      ∷ pos 756 ∷ pos 755 ∷ pos 734 ∷ pos 733 ∷ pos 732 ∷ pos 711 ∷ pos 710 ∷ pos 709 ∷ pos 688 ∷ pos 687
      ∷ pos 686 ∷ pos 665 ∷ pos 664 ∷ pos 663 ∷ pos 642 ∷ pos 641 ∷ pos 640 ∷ pos 619 ∷ pos 618 ∷ pos 617
      ∷ pos 596 ∷ pos 595 ∷ pos 594 ∷ pos 573 ∷ pos 572 ∷ pos 571 ∷ pos 550 ∷ pos 549 ∷ pos 548 ∷ pos 527
      ∷ [])
      ∷ (pos 253 ∷ pos 275 ∷ pos 297 ∷ pos 319 ∷ pos 341 ∷ pos 363 ∷ pos 385 ∷ pos 407 ∷ pos 429 ∷ pos 451
      ∷ pos 473 ∷ pos 495 ∷ pos 517 ∷ pos 539 ∷ pos 561 ∷ pos 583 ∷ pos 605 ∷ pos 627 ∷ pos 649 ∷ pos 671
      ∷ pos 693 ∷ pos 715 ∷ pos 737 ∷ pos 759 ∷ pos 781 ∷ pos 803 ∷ pos 825 ∷ pos 847 ∷ pos 869 ∷ pos 891
      ∷ pos 893 ∷ pos 895 ∷ pos 877 ∷ pos 879 ∷ pos 881 ∷ pos 863 ∷ pos 865 ∷ pos 867 ∷ pos 849 ∷ pos 851
      ∷ pos 853 ∷ pos 835 ∷ pos 837 ∷ pos 839 ∷ pos 821 ∷ pos 823 ∷ pos 825 ∷ pos 807 ∷ pos 809 ∷ pos 811
      ∷ pos 793 ∷ pos 795 ∷ pos 797 ∷ pos 779 ∷ pos 781 ∷ pos 783 ∷ pos 765 ∷ pos 767 ∷ pos 769 ∷ pos 751
      ∷ [])
      ∷ (pos 221 ∷ pos 240 ∷ pos 259 ∷ pos 278 ∷ pos 297 ∷ pos 316 ∷ pos 335 ∷ pos 354 ∷ pos 373 ∷ pos 392
      ∷ pos 411 ∷ pos 430 ∷ pos 449 ∷ pos 468 ∷ pos 487 ∷ pos 506 ∷ pos 525 ∷ pos 544 ∷ pos 563 ∷ pos 582
      ∷ pos 601 ∷ pos 620 ∷ pos 639 ∷ pos 658 ∷ pos 677 ∷ pos 696 ∷ pos 715 ∷ pos 734 ∷ pos 753 ∷ pos 772
      ∷ pos 771 ∷ pos 770 ∷ pos 749 ∷ pos 748 ∷ pos 747 ∷ pos 726 ∷ pos 725 ∷ pos 724 ∷ pos 703 ∷ pos 702
      ∷ pos 701 ∷ pos 680 ∷ pos 679 ∷ pos 678 ∷ pos 657 ∷ pos 656 ∷ pos 655 ∷ pos 634 ∷ pos 633 ∷ pos 632
      ∷ pos 611 ∷ pos 610 ∷ pos 609 ∷ pos 588 ∷ pos 587 ∷ pos 586 ∷ pos 565 ∷ pos 564 ∷ pos 563 ∷ pos 542
      ∷ [])
      ∷ [];
  pension = 31415927 ∷ 27182818 ∷ 16180339
      ∷ [];
  bonds = 9876543 ∷ 0 ∷ 45678912 ∷ 0 ∷ 34567891
      ∷ [];
  amounts = record {
    mature = 1234567;
    emerging = 765433;
    private = 543211;
    property = 987659;
    commodities = 321987;
    credit = 654321;
    cash = 111213;
    currency = 61718191;
  };
  shocks = record {
    up_shift = 320;
    down_shift = 180;
    mature_fall = 251;
    emerging_fall = 353;
    private_fall = 307;
    property_fall = 149;
    currency_fall = 457;
    commodities_fall = 349;
    spread_rise = 509;
    correlation = 401;
    spread = 2345;
    duration = 73;
    equity_correlation = 1000;
  };
  people = record {
    heads = 1237;
    pension_age = 804;
    mean_age = 541;
  };
}

up-layout : file_of (record { ufr = true; bonds = true; amounts = true; equity = false }) up_case ≡ up_file
unfolding all
up-layout = refl

up-L : (Rounded.L up_case base low ≡ 7444567283)
    × (Rounded.L up_case base high ≡ 7444567286)
unfolding all
up-L = (refl, refl)

up-B : (Rounded.B up_case base low ≡ 8921231953)
    × (Rounded.B up_case base high ≡ 8921231956)
unfolding all
up-B = (refl, refl)

up-A : (Rounded.A up_case low ≡ 9383071053)
    × (Rounded.A up_case high ≡ 9383071056)
unfolding all
up-A = (refl, refl)

up-S1 : (Rounded.S1 up_case low ≡ 57600402)
    × (Rounded.S1 up_case high ≡ 57600414)
unfolding all
up-S1 = (refl, refl)

up-S2 : (Rounded.S2 up_case low ≡ 89400113)
    × (Rounded.S2 up_case high ≡ 89400114)
unfolding all
up-S2 = (refl, refl)

up-S3 : (Rounded.S3 up_case low ≡ 2820521328)
    × (Rounded.S3 up_case high ≡ 2820521329)
unfolding all
up-S3 = (refl, refl)

up-S4 : (Rounded.S4 up_case low ≡ 11237346)
    × (Rounded.S4 up_case high ≡ 11237347)
unfolding all
up-S4 = (refl, refl)

up-S5 : (Rounded.S5 up_case low ≡ 5701305)
    × (Rounded.S5 up_case high ≡ 5701306)
unfolding all
up-S5 = (refl, refl)

up-S6 : (Rounded.S6 up_case low ≡ 531400770)
    × (Rounded.S6 up_case high ≡ 531400771)
unfolding all
up-S6 = (refl, refl)

up-S : (Rounded.S up_case low ≡ 2872860281)
    × (Rounded.S up_case high ≡ 2872860283)
unfolding all
up-S = (refl, refl)

up-exact-L : Exact.L up_case base ≐ 168155064767139827083435640625 // 22587621057143702912
unfolding all
up-exact-L = (lit< tt, lit< tt, refl)

up-exact-B : Exact.B up_case base ≐ 335543059470507098458367512603970578125 // 37611740305631749979809095826
unfolding all
up-exact-B = (lit< tt, lit< tt, refl)

up-exact-A : Exact.A up_case ≐ 352913631762693790800467563592064174725 // 37611740305631749979809095826
unfolding all
up-exact-A = (lit< tt, lit< tt, refl)

up-exact-S1 : Exact.S1 up_case ≐ 44181224453198451554541098188879867485664651114657644875418062968625957581172747203125 // 767029719523088532586871570344152914215352840585909743515616773144350749426816
unfolding all
up-exact-S1 = (lit< tt, lit< tt, refl)

up-exact-S2² : Exact.S2² up_case ≐ 199809506898321489 // 25
unfolding all
up-exact-S2² = (lit< tt, lit< tt, refl)

up-exact-S3 : Exact.S3 up_case ≐ 28205213287 // 10
unfolding all
up-exact-S3 = (lit< tt, lit< tt, refl)

up-exact-S4 : Exact.S4 up_case ≐ 112373463 // 10
unfolding all
up-exact-S4 = (lit< tt, lit< tt, refl)

up-exact-S5 : Exact.S5 up_case ≐ 11402611931193 // 2000000
unfolding all
up-exact-S5 = (lit< tt, lit< tt, refl)

up-exact-S6² : Exact.S6² up_case ≐ 2919947110411389181796448525006754184145597738064133204504953125 // 10340240148908071860956364157652380467909885952
unfolding all
up-exact-S6² = (lit< tt, lit< tt, refl)

up-exact-S²-plain : (Exact.S² up_case).plain ≐ 2183096975688926910026901926237130098292230318152161331065765793454448513098935459012522040617113663353850855649877369938264520186684801817973954606531583704441175684039964296627702962074023 // 264643595858681143562482928318659749061562834132537287864928333930139057444510644493487991503319183955730837680531967748462774747017079500596080812324310417408000000000000
unfolding all
up-exact-S²-plain = (lit< tt, lit< tt, refl)

up-exact-S²-factor : (Exact.S² up_case).factor ≐ 141733368045860632586967842989926614894012200775821724760341146003352071920402173027625 // 3068118878092354130347486281376611656861411362343638974062467092577402997707264
unfolding all
up-exact-S²-factor = (lit< tt, lit< tt, refl)

up-exact-S²-under : (Exact.S² up_case).under ≐ 199809506898321489 // 25
unfolding all
up-exact-S²-under = (lit< tt, lit< tt, refl)

up-verdicts : (word (Rounded.verdict up_case) ≡ ascii "RESERVETEKORT")
    × (Exact.verdict up_case ≡ Reservetekort)
unfolding all
up-verdicts = (refl, refl)

-- A fund with another number in every field, whose pensions outweigh its bonds: the down curve decides S1. S5 exceeds the credit.
abbrev pub down_file : List ℕ
down_file =
    (0x00 ∷ 0x7f ∷ 0x0f ∷ 0x27 ∷ 0x03 ∷ 0xff ∷ 0x66 ∷ 0xff ∷ 0x79 ∷ 0xff ∷ 0x8c ∷ 0xff ∷ 0x9f ∷ 0xff ∷ 0xb2 ∷ 0xff ∷ 0xc5 ∷ 0xff ∷ 0xd8 ∷ 0xff ∷ 0xeb ∷ 0xff ∷ 0xfe ∷ 0x00 ∷ 0x11 ∷ 0x00 ∷ 0x24 ∷ 0x00 ∷ 0x37 ∷ 0x00 ∷ 0x4a ∷ 0x00 ∷ 0x5d ∷ 0x00 ∷ 0x70 ∷ 0x00 ∷ 0x83 ∷ 0x00 ∷ 0x96 ∷ 0x00 ∷ 0xa9 ∷ 0x00 ∷ 0xbc ∷ 0x00 ∷ 0xcf ∷ 0x00 ∷ 0xe2 ∷ 0x00 ∷ 0xf5 ∷ 0x01 ∷ 0x08 ∷ 0x01 ∷ 0x1b ∷ 0x01 ∷ 0x2e ∷ 0x01 ∷ 0x2d ∷ 0x01 ∷ 0x40 ∷ 0x01 ∷ 0x3f ∷ 0x01 ∷ 0x52 ∷ 0x01 ∷ 0x51 ∷ 0x01 ∷ 0x64 ∷ 0x01 ∷ 0x63 ∷ 0x01 ∷ 0x76 ∷ 0x01 ∷ 0x75 ∷ 0x01 ∷ 0x88 ∷ 0x01 ∷ 0x87 ∷ 0x01 ∷ 0x9a ∷ 0x01 ∷ 0x99 ∷ 0x01 ∷ 0xac ∷ 0x01 ∷ 0xab ∷ 0x01 ∷ 0xbe ∷ 0x01 ∷ 0xbd ∷ 0x01 ∷ 0xd0 ∷ 0x01 ∷ 0xcf ∷ 0x01 ∷ 0xe2 ∷ 0x01 ∷ 0xe1 ∷ 0x01 ∷ 0xf4 ∷ 0x01 ∷ 0xf3 ∷ 0x02 ∷ 0x06 ∷ 0x02 ∷ 0x05 ∷ 0x02 ∷ 0x18 ∷ 0x02 ∷ 0x17 ∷ 0x02 ∷ 0x2a ∷ 0x02 ∷ 0x29 ∷ 0x02 ∷ 0x3c ∷ 0x02 ∷ 0x3b ∷ 0x02 ∷ 0x4e ∷ 0x02 ∷ 0x4d ∷ 0x02 ∷ 0x60 ∷ 0x02 ∷ 0x5f ∷ 0xff ∷ 0x95 ∷ 0xff ∷ 0xab ∷ 0xff ∷ 0xc1 ∷ 0xff ∷ 0xd7 ∷ 0xff ∷ 0xed ∷ 0x00 ∷ 0x03 ∷ 0x00 ∷ 0x19 ∷ 0x00 ∷ 0x2f ∷ 0x00 ∷ 0x45 ∷ 0x00 ∷ 0x5b ∷ 0x00 ∷ 0x71 ∷ 0x00 ∷ 0x87 ∷ 0x00 ∷ 0x9d ∷ 0x00 ∷ 0xb3 ∷ 0x00 ∷ 0xc9 ∷ 0x00 ∷ 0xdf ∷ 0x00 ∷ 0xf5 ∷ 0x01 ∷ 0x0b ∷ 0x01 ∷ 0x21 ∷ 0x01 ∷ 0x37 ∷ 0x01 ∷ 0x4d ∷ 0x01 ∷ 0x63 ∷ 0x01 ∷ 0x79 ∷ 0x01 ∷ 0x8f ∷ 0x01 ∷ 0xa5 ∷ 0x01 ∷ 0xa7 ∷ 0x01 ∷ 0xbd ∷ 0x01 ∷ 0xbf ∷ 0x01 ∷ 0xd5 ∷ 0x01 ∷ 0xd7 ∷ 0x01 ∷ 0xed ∷ 0x01 ∷ 0xef ∷ 0x02 ∷ 0x05 ∷ 0x02 ∷ 0x07 ∷ 0x02 ∷ 0x1d ∷ 0x02 ∷ 0x1f ∷ 0x02 ∷ 0x35 ∷ 0x02 ∷ 0x37 ∷ 0x02 ∷ 0x4d ∷ 0x02 ∷ 0x4f ∷ 0x02 ∷ 0x65 ∷ 0x02 ∷ 0x67 ∷ 0x02 ∷ 0x7d ∷ 0x02 ∷ 0x7f ∷ 0x02 ∷ 0x95 ∷ 0x02 ∷ 0x97 ∷ 0x02 ∷ 0xad ∷ 0x02 ∷ 0xaf ∷ 0x02 ∷ 0xc5 ∷ 0x02 ∷ 0xc7 ∷ 0x02 ∷ 0xdd ∷ 0x02 ∷ 0xdf ∷ 0x02 ∷ 0xf5 ∷ 0x02 ∷ 0xf7 ∷ 0x03 ∷ 0x0d ∷ 0x03 ∷ 0x0f ∷ 0x03 ∷ 0x25 ∷ 0x03 ∷ 0x27 ∷ 0x03 ∷ 0x3d ∷ 0x03 ∷ 0x3f ∷ 0xff ∷ 0x75 ∷ 0xff ∷ 0x88 ∷ 0xff ∷ 0x9b ∷ 0xff ∷ 0xae ∷ 0xff ∷ 0xc1 ∷ 0xff ∷ 0xd4 ∷ 0xff ∷ 0xe7 ∷ 0xff ∷ 0xfa ∷ 0x00 ∷ 0x0d ∷ 0x00 ∷ 0x20 ∷ 0x00 ∷ 0x33 ∷ 0x00 ∷ 0x46 ∷ 0x00 ∷ 0x59 ∷ 0x00 ∷ 0x6c ∷ 0x00 ∷ 0x7f ∷ 0x00 ∷ 0x92 ∷ 0x00 ∷ 0xa5 ∷ 0x00 ∷ 0xb8 ∷ 0x00 ∷ 0xcb ∷ 0x00 ∷ 0xde ∷ 0x00 ∷ 0xf1 ∷ 0x01 ∷ 0x04 ∷ 0x01 ∷ 0x17 ∷ 0x01 ∷ 0x2a ∷ 0x01 ∷ 0x3d ∷ 0x01 ∷ 0x3c ∷ 0x01 ∷ 0x4f ∷ 0x01 ∷ 0x4e ∷ 0x01 ∷ 0x61 ∷ 0x01 ∷ 0x60 ∷ 0x01 ∷ 0x73 ∷ 0x01 ∷ 0x72 ∷ 0x01 ∷ 0x85 ∷ 0x01 ∷ 0x84 ∷ 0x01 ∷ 0x97 ∷ 0x01 ∷ 0x96 ∷ 0x01 ∷ 0xa9 ∷ 0x01 ∷ 0xa8 ∷ 0x01 ∷ 0xbb ∷ 0x01 ∷ 0xba ∷ 0x01 ∷ 0xcd ∷ 0x01 ∷ 0xcc ∷ 0x01 ∷ 0xdf ∷ 0x01 ∷ 0xde ∷ 0x01 ∷ 0xf1 ∷ 0x01 ∷ 0xf0 ∷ 0x02 ∷ 0x03 ∷ 0x02 ∷ 0x02 ∷ 0x02 ∷ 0x15 ∷ 0x02 ∷ 0x14 ∷ 0x02 ∷ 0x27 ∷ 0x02 ∷ 0x26 ∷ 0x02 ∷ 0x39 ∷ 0x02 ∷ 0x38 ∷ 0x02 ∷ 0x4b ∷ 0x02 ∷ 0x4a ∷ 0x02 ∷ 0x5d ∷ 0x02 ∷ 0x5c ∷ 0x02 ∷ 0x6f ∷ 0x02 ∷ 0x6e ∷ 0x03 ∷ 0x01 ∷ 0xaf ∷ 0x95 ∷ 0x6f ∷ 0x02 ∷ 0x3a ∷ 0xee ∷ 0x7d ∷ 0x03 ∷ 0x43 ∷ 0xc2 ∷ 0x1f ∷ 0x05 ∷ 0x00 ∷ 0x6b ∷ 0xe5 ∷ 0x5b ∷ 0x00 ∷ 0x54 ∷ 0xb0 ∷ 0x2b ∷ 0x00 ∷ 0x00 ∷ 0x00 ∷ 0x00 ∷ 0x00 ∷ 0x30 ∷ 0xfe ∷ 0xeb ∷ []) ++ pairs 4 0x00 0x00 ++ (0x00 ∷ 0xbc ∷ 0x61 ∷ 0x4f ∷ 0x00 ∷ 0x00 ∷ 0x00 ∷ 0x00 ∷ 0x00 ∷ 0x85 ∷ 0xbf ∷ 0xf7 ∷ 0x00 ∷ 0x00 ∷ 0x00 ∷ 0x00 ∷ 0x00 ∷ 0x41 ∷ 0xf2 ∷ 0xc3 ∷ 0x00 ∷ 0x00 ∷ 0x00 ∷ 0x00 ∷ 0x00 ∷ 0x63 ∷ 0xd7 ∷ 0x71 ∷ 0x00 ∷ 0x00 ∷ 0x00 ∷ 0x00 ∷ 0x00 ∷ 0x20 ∷ 0x31 ∷ 0xb1 ∷ 0x00 ∷ 0x00 ∷ 0x00 ∷ 0x00 ∷ 0x00 ∷ 0x14 ∷ 0xb8 ∷ 0x59 ∷ 0x00 ∷ 0x00 ∷ 0x00 ∷ 0x00 ∷ 0x0b ∷ 0xd8 ∷ 0xeb ∷ 0x7d ∷ 0x00 ∷ 0x00 ∷ 0x00 ∷ 0x00 ∷ 0x00 ∷ 0x9d ∷ 0x12 ∷ 0x57 ∷ 0x00 ∷ 0x8c ∷ 0x01 ∷ 0x04 ∷ 0x00 ∷ 0xef ∷ 0x01 ∷ 0x51 ∷ 0x01 ∷ 0xa3 ∷ 0x00 ∷ 0x9d ∷ 0x00 ∷ 0xd3 ∷ 0x01 ∷ 0x61 ∷ 0x03 ∷ 0x7a ∷ 0x02 ∷ 0x65 ∷ 0x22 ∷ 0x3d ∷ 0x01 ∷ 0xb5 ∷ 0x00 ∷ 0x00 ∷ 0x10 ∷ 0xe1 ∷ 0x03 ∷ 0x30 ∷ 0x02 ∷ 0x41 ∷ [])

-- the case that it holds
abbrev pub down_case : FileCase
down_case = record {
  rate_bytes = 2;
  ufr = 3879;
  days = (neg_ℤ (pos 154) ∷ neg_ℤ (pos 135) ∷ neg_ℤ (pos 116) ∷ neg_ℤ (pos 97) ∷ neg_ℤ (pos 78) ∷ neg_ℤ (pos 59) ∷ neg_ℤ (pos 40) ∷ neg_ℤ (pos 21) ∷ neg_ℤ (pos 2) ∷ pos 17
      ∷ pos 36 ∷ pos 55 ∷ pos 74 ∷ pos 93 ∷ pos 112 ∷ pos 131 ∷ pos 150 ∷ pos 169 ∷ pos 188 ∷ pos 207
      ∷ pos 226 ∷ pos 245 ∷ pos 264 ∷ pos 283 ∷ pos 302 ∷ pos 301 ∷ pos 320 ∷ pos 319 ∷ pos 338 ∷ pos 337
      ∷ pos 356 ∷ pos 355 ∷ pos 374 ∷ pos 373 ∷ pos 392 ∷ pos 391 ∷ pos 410 ∷ pos 409 ∷ pos 428 ∷ pos 427
      ∷ pos 446 ∷ pos 445 ∷ pos 464 ∷ pos 463 ∷ pos 482 ∷ pos 481 ∷ pos 500 ∷ pos 499 ∷ pos 518 ∷ pos 517
      ∷ pos 536 ∷ pos 535 ∷ pos 554 ∷ pos 553 ∷ pos 572 ∷ pos 571 ∷ pos 590 ∷ pos 589 ∷ pos 608 ∷ pos 607
      ∷ [])
      ∷ (neg_ℤ (pos 107) ∷ neg_ℤ (pos 85) ∷ neg_ℤ (pos 63) ∷ neg_ℤ (pos 41) ∷ neg_ℤ (pos 19) ∷ pos 3 ∷ pos 25 ∷ pos 47 ∷ pos 69 ∷ pos 91
      ∷ pos 113 ∷ pos 135 ∷ pos 157 ∷ pos 179 ∷ pos 201 ∷ pos 223 ∷ pos 245 ∷ pos 267 ∷ pos 289 ∷ pos 311
      ∷ pos 333 ∷ pos 355 ∷ pos 377 ∷ pos 399 ∷ pos 421 ∷ pos 423 ∷ pos 445 ∷ pos 447 ∷ pos 469 ∷ pos 471
      ∷ pos 493 ∷ pos 495 ∷ pos 517 ∷ pos 519 ∷ pos 541 ∷ pos 543 ∷ pos 565 ∷ pos 567 ∷ pos 589 ∷ pos 591
      ∷ pos 613 ∷ pos 615 ∷ pos 637 ∷ pos 639 ∷ pos 661 ∷ pos 663 ∷ pos 685 ∷ pos 687 ∷ pos 709 ∷ pos 711
      ∷ pos 733 ∷ pos 735 ∷ pos 757 ∷ pos 759 ∷ pos 781 ∷ pos 783 ∷ pos 805 ∷ pos 807 ∷ pos 829 ∷ pos 831
      ∷ [])
      ∷ (neg_ℤ (pos 139) ∷ neg_ℤ (pos 120) ∷ neg_ℤ (pos 101) ∷ neg_ℤ (pos 82) ∷ neg_ℤ (pos 63) ∷ neg_ℤ (pos 44) ∷ neg_ℤ (pos 25) ∷ neg_ℤ (pos 6) ∷ pos 13 ∷ pos 32
      ∷ pos 51 ∷ pos 70 ∷ pos 89 ∷ pos 108 ∷ pos 127 ∷ pos 146 ∷ pos 165 ∷ pos 184 ∷ pos 203 ∷ pos 222
      ∷ pos 241 ∷ pos 260 ∷ pos 279 ∷ pos 298 ∷ pos 317 ∷ pos 316 ∷ pos 335 ∷ pos 334 ∷ pos 353 ∷ pos 352
      ∷ pos 371 ∷ pos 370 ∷ pos 389 ∷ pos 388 ∷ pos 407 ∷ pos 406 ∷ pos 425 ∷ pos 424 ∷ pos 443 ∷ pos 442
      ∷ pos 461 ∷ pos 460 ∷ pos 479 ∷ pos 478 ∷ pos 497 ∷ pos 496 ∷ pos 515 ∷ pos 514 ∷ pos 533 ∷ pos 532
      ∷ pos 551 ∷ pos 550 ∷ pos 569 ∷ pos 568 ∷ pos 587 ∷ pos 586 ∷ pos 605 ∷ pos 604 ∷ pos 623 ∷ pos 622
      ∷ [])
      ∷ [];
  pension = 28284271 ∷ 37416573 ∷ 54772255
      ∷ [];
  bonds = 7071067 ∷ 5550123 ∷ 0 ∷ 3210987 ∷ 0
      ∷ [];
  amounts = record {
    mature = 12345679;
    emerging = 8765431;
    private = 4321987;
    property = 6543217;
    commodities = 2109873;
    credit = 1357913;
    cash = 198765437;
    currency = 10293847;
  };
  shocks = record {
    up_shift = 140;
    down_shift = 260;
    mature_fall = 239;
    emerging_fall = 337;
    private_fall = 419;
    property_fall = 157;
    currency_fall = 211;
    commodities_fall = 353;
    spread_rise = 890;
    correlation = 613;
    spread = 8765;
    duration = 437;
    equity_correlation = 1000;
  };
  people = record {
    heads = 4321;
    pension_age = 816;
    mean_age = 577;
  };
}

down-layout : file_of (record { ufr = true; bonds = true; amounts = true; equity = false }) down_case ≡ down_file
unfolding all
down-layout = refl

down-L : (Rounded.L down_case base low ≡ 12074946603)
    × (Rounded.L down_case base high ≡ 12074946606)
unfolding all
down-L = (refl, refl)

down-B : (Rounded.B down_case base low ≡ 1586365554)
    × (Rounded.B down_case base high ≡ 1586365557)
unfolding all
down-B = (refl, refl)

down-A : (Rounded.A down_case low ≡ 25007319254)
    × (Rounded.A down_case high ≡ 25007319257)
unfolding all
down-A = (refl, refl)

down-S1 : (Rounded.S1 down_case low ≡ 61969548)
    × (Rounded.S1 down_case high ≡ 61969560)
unfolding all
down-S1 = (refl, refl)

down-S2 : (Rounded.S2 down_case low ≡ 874276515)
    × (Rounded.S2 down_case high ≡ 874276515)
unfolding all
down-S2 = (refl, refl)

down-S3 : (Rounded.S3 down_case low ≡ 217200171)
    × (Rounded.S3 down_case high ≡ 217200172)
unfolding all
down-S3 = (refl, refl)

down-S4 : (Rounded.S4 down_case low ≡ 74478516)
    × (Rounded.S4 down_case high ≡ 74478517)
unfolding all
down-S4 = (refl, refl)

down-S5 : (Rounded.S5 down_case low ≡ 462908664)
    × (Rounded.S5 down_case high ≡ 462908665)
unfolding all
down-S5 = (refl, refl)

down-S6 : (Rounded.S6 down_case low ≡ 790330318)
    × (Rounded.S6 down_case high ≡ 790330319)
unfolding all
down-S6 = (refl, refl)

down-S : (Rounded.S down_case low ≡ 1313869065)
    × (Rounded.S down_case high ≡ 1313869073)
unfolding all
down-S = (refl, refl)

down-exact-L : Exact.L down_case base ≐ 854145374752962654623118456225000 // 70736989797211365326377
unfolding all
down-exact-L = (lit< tt, lit< tt, refl)

down-exact-B : Exact.B down_case base ≐ 1035690361552856875015924789169325000 // 652869924863788663396396577
unfolding all
down-exact-B = (lit< tt, lit< tt, refl)

down-exact-A : Exact.A down_case ≐ 16326526643910129967007813765924809900 // 652869924863788663396396577
unfolding all
down-exact-A = (lit< tt, lit< tt, refl)

down-exact-S1 : Exact.S1 down_case ≐ 7973440429828132656147514264495952784598757405744483402025860917446084375 // 128667060271084940309734446148854116600973577637906974947910381742
unfolding all
down-exact-S1 = (lit< tt, lit< tt, refl)

down-exact-S2² : Exact.S2² down_case ≐ 764359424680545225 // 1
unfolding all
down-exact-S2² = (lit< tt, lit< tt, refl)

down-exact-S3 : Exact.S3 down_case ≐ 2172001717 // 10
unfolding all
down-exact-S3 = (lit< tt, lit< tt, refl)

down-exact-S4 : Exact.S4 down_case ≐ 744785169 // 10
unfolding all
down-exact-S4 = (lit< tt, lit< tt, refl)

down-exact-S5 : Exact.S5 down_case ≐ 92581732971677 // 200000
unfolding all
down-exact-S5 = (lit< tt, lit< tt, refl)

down-exact-S6² : Exact.S6² down_case ≐ 3457280890298547635662345718738888024718897701474201611342489339655625 // 5534996883504988441482174618616950871351741241192704
unfolding all
down-exact-S6² = (lit< tt, lit< tt, refl)

down-exact-S²-plain : (Exact.S² down_case).plain ≐ 1187359924977946754598815923819463744709178464393456626090547681278936752473777546644992815491303079188279860178449630261463419610839799580487581178077520768055369 // 715350727752277830206841165892995540756292414674804632168243048667673462787686022326051430749895779747649632206102125039714654106710440000000000
unfolding all
down-exact-S²-plain = (lit< tt, lit< tt, refl)

down-exact-S²-factor : (Exact.S² down_case).factor ≐ 39101751867877162545747409953088152455672306317770946603534821939155597775 // 514668241084339761238937784595416466403894310551627899791641526968
unfolding all
down-exact-S²-factor = (lit< tt, lit< tt, refl)

down-exact-S²-under : (Exact.S² down_case).under ≐ 764359424680545225 // 1
unfolding all
down-exact-S²-under = (lit< tt, lit< tt, refl)

down-verdicts : (word (Rounded.verdict down_case) ≡ ascii "VRIJ VERMOGEN")
    × (Exact.verdict down_case ≡ VrijVermogen)
unfolding all
down-verdicts = (refl, refl)

bent-unadjusted-1 : (Rounded.unadjusted bent_curve low 1 ≡ 1002982200409)
    × (Rounded.unadjusted bent_curve high 1 ≡ 1002982200410)
unfolding all
bent-unadjusted-1 = (refl, refl)

bent-unadjusted-20 : (Rounded.unadjusted bent_curve low 20 ≡ 919715113381)
    × (Rounded.unadjusted bent_curve high 20 ≡ 919715113401)
unfolding all
bent-unadjusted-20 = (refl, refl)

bent-unadjusted-21 : (Rounded.unadjusted bent_curve low 21 ≡ 921446614349)
    × (Rounded.unadjusted bent_curve high 21 ≡ 921446614368)
unfolding all
bent-unadjusted-21 = (refl, refl)

bent-unadjusted-60 : (Rounded.unadjusted bent_curve low 60 ≡ 724024961135)
    × (Rounded.unadjusted bent_curve high 60 ≡ 724024961190)
unfolding all
bent-unadjusted-60 = (refl, refl)

bent-exact-unadjusted-1 : Exact.unadjusted bent_curve 1 ≐ 75000 // 74777
unfolding all
bent-exact-unadjusted-1 = (lit< tt, lit< tt, refl)

bent-exact-unadjusted-2 : Exact.unadjusted bent_curve 2 ≐ 10000000000 // 9952656169
unfolding all
bent-exact-unadjusted-2 = (lit< tt, lit< tt, refl)

bent-exact-unadjusted-21 : Exact.unadjusted bent_curve 21 ≐ 10460353203000000000000000000000000000000000000000000000000000000000000000000000000000000000000000000000000000000000 // 11352099014768718363710965998930105574585157985243883365066569855270793637286061405771660888477000971922041986233571
unfolding all
bent-exact-unadjusted-21 = (lit< tt, lit< tt, refl)

-- C1 with shifts and one bond flow, at term 21. The base curve is C6's, the down curve C3's.
abbrev pub past20 : FileCase
past20 = record {
  rate_bytes = 2;
  ufr = 4200;
  days = replicate 60 (pos 0)
      ∷ [];
  pension = 1000000
      ∷ [];
  bonds = 0 ∷ 0 ∷ 0 ∷ 0 ∷ 0 ∷ 0 ∷ 0 ∷ 0 ∷ 0 ∷ 0 ∷ 0 ∷ 0
      ∷ 0 ∷ 0 ∷ 0 ∷ 0 ∷ 0 ∷ 0 ∷ 0 ∷ 0 ∷ 1000000
      ∷ [];
  amounts = record {
    mature = 0;
    emerging = 0;
    private = 0;
    property = 0;
    commodities = 0;
    credit = 0;
    cash = 1100000;
    currency = 0;
  };
  shocks = record {
    up_shift = 1000;
    down_shift = 500;
    mature_fall = 0;
    emerging_fall = 0;
    private_fall = 0;
    property_fall = 0;
    currency_fall = 0;
    commodities_fall = 0;
    spread_rise = 0;
    correlation = 0;
    spread = 0;
    duration = 0;
    equity_correlation = 1000;
  };
  people = record {
    heads = 100;
    pension_age = 780;
    mean_age = 460;
  };
}

past20-base-unadjusted-21 : (Rounded.unadjusted (curve past20 base) low 21 ≡ 1000000000000)
    × (Rounded.unadjusted (curve past20 base) high 21 ≡ 1000000000000)
unfolding all
past20-base-unadjusted-21 = (refl, refl)

past20-base-exact-unadjusted-1 : Exact.unadjusted (curve past20 base) 1 ≐ 1 // 1
unfolding all
past20-base-exact-unadjusted-1 = (lit< tt, lit< tt, refl)

past20-base-exact-unadjusted-21 : Exact.unadjusted (curve past20 base) 21 ≐ 1 // 1
unfolding all
past20-base-exact-unadjusted-21 = (lit< tt, lit< tt, refl)

past20-up-unadjusted-21 : (Rounded.unadjusted (curve past20 up) low 21 ≡ 811430168640)
    × (Rounded.unadjusted (curve past20 up) high 21 ≡ 811430168660)
unfolding all
past20-up-unadjusted-21 = (refl, refl)

past20-up-exact-unadjusted-1 : Exact.unadjusted (curve past20 up) 1 ≐ 100 // 101
unfolding all
past20-up-exact-unadjusted-1 = (lit< tt, lit< tt, refl)

past20-up-exact-unadjusted-21 : Exact.unadjusted (curve past20 up) 21 ≐ 1000000000000000000000000000000000000000000 // 1232391940347446492727576582468089832102101
unfolding all
past20-up-exact-unadjusted-21 = (lit< tt, lit< tt, refl)

past20-down-unadjusted-21 : (Rounded.unadjusted (curve past20 down) low 21 ≡ 1111003185939)
    × (Rounded.unadjusted (curve past20 down) high 21 ≡ 1111003185960)
unfolding all
past20-down-unadjusted-21 = (refl, refl)

past20-down-exact-unadjusted-1 : Exact.unadjusted (curve past20 down) 1 ≐ 200 // 199
unfolding all
past20-down-exact-unadjusted-1 = (lit< tt, lit< tt, refl)

past20-down-exact-unadjusted-21 : Exact.unadjusted (curve past20 down) 21 ≐ 2097152000000000000000000000000000000000000000000 // 1887620149539230539058375534310517606114631604199
unfolding all
past20-down-exact-unadjusted-21 = (lit< tt, lit< tt, refl)

past20-base-B : (Rounded.B past20 base low ≡ 100000000)
    × (Rounded.B past20 base high ≡ 100000000)
unfolding all
past20-base-B = (refl, refl)

past20-base-exact-B : Exact.B past20 base ≐ 100000000 // 1
unfolding all
past20-base-exact-B = (lit< tt, lit< tt, refl)

past20-up-B : (Rounded.B past20 up low ≡ 81143016)
    × (Rounded.B past20 up high ≡ 81143017)
unfolding all
past20-up-B = (refl, refl)

past20-up-exact-B : Exact.B past20 up ≐ 100000000000000000000000000000000000000000000000000 // 1232391940347446492727576582468089832102101
unfolding all
past20-up-exact-B = (lit< tt, lit< tt, refl)

past20-down-B : (Rounded.B past20 down low ≡ 111100318)
    × (Rounded.B past20 down high ≡ 111100319)
unfolding all
past20-down-B = (refl, refl)

past20-down-exact-B : Exact.B past20 down ≐ 209715200000000000000000000000000000000000000000000000000 // 1887620149539230539058375534310517606114631604199
unfolding all
past20-down-exact-B = (lit< tt, lit< tt, refl)

past20-S1 : (Rounded.S1 past20 low ≡ 17866883)
    × (Rounded.S1 past20 high ≡ 17866885)
unfolding all
past20-S1 = (refl, refl)

past20-exact-S1 : Exact.S1 past20 ≐ 22019003994796682448274909155256419020010000000000 // 1232391940347446492727576582468089832102101
unfolding all
past20-exact-S1 = (lit< tt, lit< tt, refl)

-- A bond flow at term 2 between pensions at terms 1 and 3: B - L falls on both curves, more on the up curve.
abbrev pub both_fall : FileCase
both_fall = record {
  rate_bytes = 2;
  ufr = 4200;
  days = replicate 60 (pos 0)
      ∷ [];
  pension = 30000000 ∷ 0 ∷ 20000000
      ∷ [];
  bonds = 0 ∷ 45000000
      ∷ [];
  amounts = record {
    mature = 0;
    emerging = 0;
    private = 0;
    property = 0;
    commodities = 0;
    credit = 0;
    cash = 1100000;
    currency = 0;
  };
  shocks = record {
    up_shift = 1000;
    down_shift = 500;
    mature_fall = 0;
    emerging_fall = 0;
    private_fall = 0;
    property_fall = 0;
    currency_fall = 0;
    commodities_fall = 0;
    spread_rise = 0;
    correlation = 0;
    spread = 0;
    duration = 0;
    equity_correlation = 1000;
  };
  people = record {
    heads = 100;
    pension_age = 780;
    mean_age = 460;
  };
}

both_fall-up-fall : (Rounded.fall both_fall up low ≡ 145101)
    × (Rounded.fall both_fall up high ≡ 145104)
unfolding all
both_fall-up-fall = (refl, refl)

both_fall-up-exact-fall : Exact.fall both_fall up ≐ 149500000000 // 1030301
unfolding all
both_fall-up-exact-fall = (lit< tt, lit< tt, refl)

both_fall-down-fall : (Rounded.fall both_fall down low ≡ 38129)
    × (Rounded.fall both_fall down high ≡ 38132)
unfolding all
both_fall-down-fall = (refl, refl)

both_fall-down-exact-fall : Exact.fall both_fall down ≐ 300500000000 // 7880599
unfolding all
both_fall-down-exact-fall = (lit< tt, lit< tt, refl)

both_fall-S1 : (Rounded.S1 both_fall low ≡ 145101)
    × (Rounded.S1 both_fall high ≡ 145104)
unfolding all
both_fall-S1 = (refl, refl)

both_fall-exact-S1 : Exact.S1 both_fall ≐ 149500000000 // 1030301
unfolding all
both_fall-exact-S1 = (lit< tt, lit< tt, refl)

-- A bond flow at term 2 between pensions at terms 1 and 3: B - L falls on both curves, more on the down curve.
abbrev pub both_fall_down : FileCase
both_fall_down = record {
  rate_bytes = 2;
  ufr = 4200;
  days = replicate 60 (pos 0)
      ∷ [];
  pension = 30000000 ∷ 0 ∷ 20000000
      ∷ [];
  bonds = 0 ∷ 45000000
      ∷ [];
  amounts = record {
    mature = 0;
    emerging = 0;
    private = 0;
    property = 0;
    commodities = 0;
    credit = 0;
    cash = 1100000;
    currency = 0;
  };
  shocks = record {
    up_shift = 500;
    down_shift = 1000;
    mature_fall = 0;
    emerging_fall = 0;
    private_fall = 0;
    property_fall = 0;
    currency_fall = 0;
    commodities_fall = 0;
    spread_rise = 0;
    correlation = 0;
    spread = 0;
    duration = 0;
    equity_correlation = 1000;
  };
  people = record {
    heads = 100;
    pension_age = 780;
    mean_age = 460;
  };
}

both_fall_down-up-fall : (Rounded.fall both_fall_down up low ≡ 36880)
    × (Rounded.fall both_fall_down up high ≡ 36883)
unfolding all
both_fall_down-up-fall = (refl, refl)

both_fall_down-up-exact-fall : Exact.fall both_fall_down up ≐ 299500000000 // 8120601
unfolding all
both_fall_down-up-exact-fall = (lit< tt, lit< tt, refl)

both_fall_down-down-fall : (Rounded.fall both_fall_down down low ≡ 155106)
    × (Rounded.fall both_fall_down down high ≡ 155109)
unfolding all
both_fall_down-down-fall = (refl, refl)

both_fall_down-down-exact-fall : Exact.fall both_fall_down down ≐ 150500000000 // 970299
unfolding all
both_fall_down-down-exact-fall = (lit< tt, lit< tt, refl)

both_fall_down-S1 : (Rounded.S1 both_fall_down low ≡ 155106)
    × (Rounded.S1 both_fall_down high ≡ 155109)
unfolding all
both_fall_down-S1 = (refl, refl)

both_fall_down-exact-S1 : Exact.S1 both_fall_down ≐ 150500000000 // 970299
unfolding all
both_fall_down-exact-S1 = (lit< tt, lit< tt, refl)

-- A fund with the lowest rates, the largest down shift and one bond flow, at term 60: no bond factor is larger than that of the down curve.
abbrev pub deepest_file : List ℕ
deepest_file =
    (0x00 ∷ 0x7f ∷ 0x10 ∷ 0x68 ∷ 0x01 ∷ []) ++ pairs 60 0xfc 0x18 ++ (0x14 ∷ 0x05 ∷ 0xf5 ∷ 0xe1 ∷ 0x00 ∷ 0x05 ∷ 0xf5 ∷ 0xe1 ∷ 0x00 ∷ 0x05 ∷ 0xf5 ∷ 0xe1 ∷ 0x00 ∷ 0x05 ∷ 0xf5 ∷ 0xe1 ∷ 0x00 ∷ 0x05 ∷ 0xf5 ∷ 0xe1 ∷ 0x00 ∷ 0x05 ∷ 0xf5 ∷ 0xe1 ∷ 0x00 ∷ 0x05 ∷ 0xf5 ∷ 0xe1 ∷ 0x00 ∷ 0x05 ∷ 0xf5 ∷ 0xe1 ∷ 0x00 ∷ 0x05 ∷ 0xf5 ∷ 0xe1 ∷ 0x00 ∷ 0x05 ∷ 0xf5 ∷ 0xe1 ∷ 0x00 ∷ 0x05 ∷ 0xf5 ∷ 0xe1 ∷ 0x00 ∷ 0x05 ∷ 0xf5 ∷ 0xe1 ∷ 0x00 ∷ 0x05 ∷ 0xf5 ∷ 0xe1 ∷ 0x00 ∷ 0x05 ∷ 0xf5 ∷ 0xe1 ∷ 0x00 ∷ 0x05 ∷ 0xf5 ∷ 0xe1 ∷ 0x00 ∷ 0x05 ∷ 0xf5 ∷ 0xe1 ∷ 0x00 ∷ 0x05 ∷ 0xf5 ∷ 0xe1 ∷ 0x00 ∷ 0x05 ∷ 0xf5 ∷ 0xe1 ∷ 0x00 ∷ 0x05 ∷ 0xf5 ∷ 0xe1 ∷ 0x00 ∷ 0x05 ∷ 0xf5 ∷ 0xe1 ∷ 0x00 ∷ 0x3c ∷ []) ++ pairs 118 0x00 0x00 ++ (0x05 ∷ 0xf5 ∷ 0xe1 ∷ []) ++ pairs 26 0x00 0x00 ++ (0x00 ∷ 0x89 ∷ 0x17 ∷ 0x37 ∷ []) ++ pairs 4 0x00 0x00 ++ (0x00 ∷ 0x01 ∷ 0x0e ∷ 0x03 ∷ 0xe8 ∷ []) ++ pairs 11 0x00 0x00 ++ (0x00 ∷ 0x64 ∷ 0x03 ∷ 0x0c ∷ 0x01 ∷ 0xcc ∷ [])

-- the case that it holds
abbrev pub deepest_case : FileCase
deepest_case = record {
  rate_bytes = 2;
  ufr = 4200;
  days = replicate 60 (neg_ℤ (pos 1000))
      ∷ [];
  pension = 100000000 ∷ 100000000 ∷ 100000000 ∷ 100000000 ∷ 100000000 ∷ 100000000 ∷ 100000000 ∷ 100000000 ∷ 100000000 ∷ 100000000 ∷ 100000000 ∷ 100000000
      ∷ 100000000 ∷ 100000000 ∷ 100000000 ∷ 100000000 ∷ 100000000 ∷ 100000000 ∷ 100000000 ∷ 100000000
      ∷ [];
  bonds = 0 ∷ 0 ∷ 0 ∷ 0 ∷ 0 ∷ 0 ∷ 0 ∷ 0 ∷ 0 ∷ 0 ∷ 0 ∷ 0
      ∷ 0 ∷ 0 ∷ 0 ∷ 0 ∷ 0 ∷ 0 ∷ 0 ∷ 0 ∷ 0 ∷ 0 ∷ 0 ∷ 0
      ∷ 0 ∷ 0 ∷ 0 ∷ 0 ∷ 0 ∷ 0 ∷ 0 ∷ 0 ∷ 0 ∷ 0 ∷ 0 ∷ 0
      ∷ 0 ∷ 0 ∷ 0 ∷ 0 ∷ 0 ∷ 0 ∷ 0 ∷ 0 ∷ 0 ∷ 0 ∷ 0 ∷ 0
      ∷ 0 ∷ 0 ∷ 0 ∷ 0 ∷ 0 ∷ 0 ∷ 0 ∷ 0 ∷ 0 ∷ 0 ∷ 0 ∷ 100000000
      ∷ [];
  amounts = record {
    mature = 0;
    emerging = 0;
    private = 0;
    property = 0;
    commodities = 0;
    credit = 0;
    cash = 2300000000;
    currency = 0;
  };
  shocks = record {
    up_shift = 270;
    down_shift = 1000;
    mature_fall = 0;
    emerging_fall = 0;
    private_fall = 0;
    property_fall = 0;
    currency_fall = 0;
    commodities_fall = 0;
    spread_rise = 0;
    correlation = 0;
    spread = 0;
    duration = 0;
    equity_correlation = 1000;
  };
  people = record {
    heads = 100;
    pension_age = 780;
    mean_age = 460;
  };
}

deepest-layout : file_of (record { ufr = true; bonds = true; amounts = true; equity = false }) deepest_case ≡ deepest_file
unfolding all
deepest-layout = refl

deepest-base-unadjusted-60 : (Rounded.unadjusted (curve deepest_case base) low 60 ≡ 1827630193082)
    × (Rounded.unadjusted (curve deepest_case base) high 60 ≡ 1827630193166)
unfolding all
deepest-base-unadjusted-60 = (refl, refl)

deepest-up-unadjusted-60 : (Rounded.unadjusted (curve deepest_case up) low 60 ≡ 1552096384368)
    × (Rounded.unadjusted (curve deepest_case up) high 60 ≡ 1552096384445)
unfolding all
deepest-up-unadjusted-60 = (refl, refl)

deepest-down-unadjusted-60 : (Rounded.unadjusted (curve deepest_case down) low 60 ≡ 3360744205004)
    × (Rounded.unadjusted (curve deepest_case down) high 60 ≡ 3360744205119)
unfolding all
deepest-down-unadjusted-60 = (refl, refl)

deepest-widths : (WL deepest_case ≡ 155)
    × (WB deepest_case ≡ 264)
unfolding all
deepest-widths = (refl, refl)

-- A fund with 120 pension and 60 bond flows and both shifts. Most of its large flows lie past term 60, so that WL and WB are large.
abbrev pub long : FileCase
long = record {
  rate_bytes = 2;
  ufr = 3333;
  days = (pos 217 ∷ pos 234 ∷ pos 251 ∷ pos 268 ∷ pos 285 ∷ pos 302 ∷ pos 319 ∷ pos 336 ∷ pos 353 ∷ pos 370
      ∷ pos 387 ∷ pos 404 ∷ pos 421 ∷ pos 438 ∷ pos 455 ∷ pos 472 ∷ pos 489 ∷ pos 506 ∷ pos 523 ∷ pos 540
      ∷ pos 557 ∷ pos 574 ∷ pos 591 ∷ pos 608 ∷ pos 625 ∷ pos 642 ∷ pos 659 ∷ pos 676 ∷ pos 693 ∷ pos 710
      ∷ pos 727 ∷ pos 744 ∷ pos 761 ∷ pos 778 ∷ pos 795 ∷ pos 812 ∷ pos 829 ∷ pos 846 ∷ pos 863 ∷ pos 880
      ∷ pos 897 ∷ pos 914 ∷ pos 931 ∷ pos 948 ∷ pos 965 ∷ pos 982 ∷ pos 999 ∷ pos 1016 ∷ pos 1033 ∷ pos 1050
      ∷ pos 1067 ∷ pos 1084 ∷ pos 1101 ∷ pos 1118 ∷ pos 1135 ∷ pos 1152 ∷ pos 1169 ∷ pos 1186 ∷ pos 1203 ∷ pos 1220
      ∷ [])
      ∷ (pos 276 ∷ pos 290 ∷ pos 306 ∷ pos 320 ∷ pos 336 ∷ pos 350 ∷ pos 366 ∷ pos 380 ∷ pos 396 ∷ pos 410
      ∷ pos 426 ∷ pos 440 ∷ pos 456 ∷ pos 470 ∷ pos 486 ∷ pos 500 ∷ pos 516 ∷ pos 530 ∷ pos 546 ∷ pos 560
      ∷ pos 576 ∷ pos 590 ∷ pos 606 ∷ pos 620 ∷ pos 636 ∷ pos 650 ∷ pos 666 ∷ pos 680 ∷ pos 696 ∷ pos 710
      ∷ pos 726 ∷ pos 740 ∷ pos 756 ∷ pos 770 ∷ pos 786 ∷ pos 800 ∷ pos 816 ∷ pos 830 ∷ pos 846 ∷ pos 860
      ∷ pos 876 ∷ pos 890 ∷ pos 906 ∷ pos 920 ∷ pos 936 ∷ pos 950 ∷ pos 966 ∷ pos 980 ∷ pos 996 ∷ pos 1010
      ∷ pos 1026 ∷ pos 1040 ∷ pos 1056 ∷ pos 1070 ∷ pos 1086 ∷ pos 1100 ∷ pos 1116 ∷ pos 1130 ∷ pos 1146 ∷ pos 1160
      ∷ [])
      ∷ [];
  pension = 1010007 ∷ 1020014 ∷ 1030021 ∷ 1040028 ∷ 1050035 ∷ 1060042 ∷ 1070049 ∷ 1080056 ∷ 1090063 ∷ 1100070 ∷ 1110077 ∷ 1120084
      ∷ 1130091 ∷ 1140098 ∷ 1150105 ∷ 1160112 ∷ 1170119 ∷ 1180126 ∷ 1190133 ∷ 1200140 ∷ 1210147 ∷ 1220154 ∷ 1230161 ∷ 1240168
      ∷ 1250175 ∷ 1260182 ∷ 1270189 ∷ 1280196 ∷ 1290203 ∷ 1300210 ∷ 1310217 ∷ 1320224 ∷ 1330231 ∷ 1340238 ∷ 1350245 ∷ 1360252
      ∷ 1370259 ∷ 1380266 ∷ 1390273 ∷ 1400280 ∷ 1410287 ∷ 1420294 ∷ 1430301 ∷ 1440308 ∷ 1450315 ∷ 1460322 ∷ 1470329 ∷ 1480336
      ∷ 1490343 ∷ 1500350 ∷ 1510357 ∷ 1520364 ∷ 1530371 ∷ 1540378 ∷ 1550385 ∷ 1560392 ∷ 1570399 ∷ 1580406 ∷ 1590413 ∷ 1600420
      ∷ 99969989 ∷ 99939978 ∷ 99909967 ∷ 99879956 ∷ 99849945 ∷ 99819934 ∷ 99789923 ∷ 99759912 ∷ 99729901 ∷ 99699890 ∷ 99669879 ∷ 99639868
      ∷ 99609857 ∷ 99579846 ∷ 99549835 ∷ 99519824 ∷ 99489813 ∷ 99459802 ∷ 99429791 ∷ 99399780 ∷ 99369769 ∷ 99339758 ∷ 99309747 ∷ 99279736
      ∷ 99249725 ∷ 99219714 ∷ 99189703 ∷ 99159692 ∷ 99129681 ∷ 99099670 ∷ 99069659 ∷ 99039648 ∷ 99009637 ∷ 98979626 ∷ 98949615 ∷ 98919604
      ∷ 98889593 ∷ 98859582 ∷ 98829571 ∷ 98799560 ∷ 98769549 ∷ 98739538 ∷ 98709527 ∷ 98679516 ∷ 98649505 ∷ 98619494 ∷ 98589483 ∷ 98559472
      ∷ 98529461 ∷ 98499450 ∷ 98469439 ∷ 98439428 ∷ 98409417 ∷ 98379406 ∷ 98349395 ∷ 98319384 ∷ 98289373 ∷ 98259362 ∷ 98229351 ∷ 98199340
      ∷ [];
  bonds = 89299999 ∷ 88599998 ∷ 87899997 ∷ 87199996 ∷ 86499995 ∷ 85799994 ∷ 85099993 ∷ 84399992 ∷ 83699991 ∷ 82999990 ∷ 82299989 ∷ 81599988
      ∷ 80899987 ∷ 80199986 ∷ 79499985 ∷ 78799984 ∷ 78099983 ∷ 77399982 ∷ 76699981 ∷ 75999980 ∷ 75299979 ∷ 74599978 ∷ 73899977 ∷ 73199976
      ∷ 72499975 ∷ 71799974 ∷ 71099973 ∷ 70399972 ∷ 69699971 ∷ 68999970 ∷ 68299969 ∷ 67599968 ∷ 66899967 ∷ 66199966 ∷ 65499965 ∷ 64799964
      ∷ 64099963 ∷ 63399962 ∷ 62699961 ∷ 61999960 ∷ 61299959 ∷ 60599958 ∷ 59899957 ∷ 59199956 ∷ 58499955 ∷ 57799954 ∷ 57099953 ∷ 56399952
      ∷ 55699951 ∷ 54999950 ∷ 54299949 ∷ 53599948 ∷ 52899947 ∷ 52199946 ∷ 51499945 ∷ 50799944 ∷ 50099943 ∷ 49399942 ∷ 48699941 ∷ 47999940
      ∷ [];
  amounts = record {
    mature = 2345678901;
    emerging = 987654321;
    private = 123456789;
    property = 345678912;
    commodities = 45678913;
    credit = 567891234;
    cash = 678912345;
    currency = 789123456;
  };
  shocks = record {
    up_shift = 250;
    down_shift = 410;
    mature_fall = 251;
    emerging_fall = 353;
    private_fall = 307;
    property_fall = 149;
    currency_fall = 457;
    commodities_fall = 349;
    spread_rise = 509;
    correlation = 401;
    spread = 2345;
    duration = 73;
    equity_correlation = 1000;
  };
  people = record {
    heads = 54321;
    pension_age = 811;
    mean_age = 563;
  };
}

long-widths : (WL long ≡ 20434)
    × (WB long ≡ 1840)
unfolding all
long-widths = (refl, refl)

-- C1 with flows of 0 on both sides: Q is 0.
abbrev pub no_flows : FileCase
no_flows = record {
  rate_bytes = 2;
  ufr = 4200;
  days = replicate 60 (pos 0)
      ∷ [];
  pension = 0 ∷ 0 ∷ 0
      ∷ [];
  bonds = 0 ∷ 0
      ∷ [];
  amounts = record {
    mature = 0;
    emerging = 0;
    private = 0;
    property = 0;
    commodities = 0;
    credit = 0;
    cash = 1100000;
    currency = 0;
  };
  shocks = record {
    up_shift = 0;
    down_shift = 0;
    mature_fall = 0;
    emerging_fall = 0;
    private_fall = 0;
    property_fall = 0;
    currency_fall = 0;
    commodities_fall = 0;
    spread_rise = 0;
    correlation = 0;
    spread = 0;
    duration = 0;
    equity_correlation = 1000;
  };
  people = record {
    heads = 100;
    pension_age = 780;
    mean_age = 460;
  };
}

no_flows-widths : (WL no_flows ≡ 6)
    × (WB no_flows ≡ 4)
unfolding all
no_flows-widths = (refl, refl)

-- C1 with a flow whose 4 × t × t × flow is 10^10: Q is 1, with nothing to round.
abbrev pub whole_quotient : FileCase
whole_quotient = record {
  rate_bytes = 2;
  ufr = 4200;
  days = replicate 60 (pos 0)
      ∷ [];
  pension = 0 ∷ 0 ∷ 0 ∷ 0 ∷ 100000000
      ∷ [];
  bonds = [];
  amounts = record {
    mature = 0;
    emerging = 0;
    private = 0;
    property = 0;
    commodities = 0;
    credit = 0;
    cash = 1100000;
    currency = 0;
  };
  shocks = record {
    up_shift = 0;
    down_shift = 0;
    mature_fall = 0;
    emerging_fall = 0;
    private_fall = 0;
    property_fall = 0;
    currency_fall = 0;
    commodities_fall = 0;
    spread_rise = 0;
    correlation = 0;
    spread = 0;
    duration = 0;
    equity_correlation = 1000;
  };
  people = record {
    heads = 100;
    pension_age = 780;
    mean_age = 460;
  };
}

whole_quotient-widths : (WL whole_quotient ≡ 11)
    × (WB whole_quotient ≡ 0)
unfolding all
whole_quotient-widths = (refl, refl)

containment-ranges : (last_term ≡ 120)
    × (least_step ≡ neg_ℤ (pos 2000))
    × (most_step ≡ pos 20000)
unfolding all
containment-ranges = (refl, refl, refl)

containment-widths : (factor_width_most 1 ≡ 4)
    × (factor_width_most 60 ≡ 14400)
    × (factor_width_most 120 ≡ 57600)
    × (rate_width_most ≡ 2)
unfolding all
containment-widths = (refl, refl, refl, refl)

long-money-widths : (L_width_most long ≡ 20434)
    × (B_width_most long ≡ 1840)
    × (A_width_most long ≡ 1840)
    × (S_width_most long ≡ 64990)
unfolding all
long-money-widths = (refl, refl, refl, refl)

long-base-points : ((curve long base).N ≡ 200000)
    × ((curve long base).ufr ≡ 3333)
    × (P (curve long base) 1 ≡ 200493)
    × (P (curve long base) 20 ≡ 201100)
    × (P (curve long base) 60 ≡ 202380)
unfolding all
long-base-points = (refl, refl, refl, refl, refl)

long-base-weighed-21 : (Rounded.weighed (curve long base) low 21 ≡ 1011065592379)
    × (Rounded.weighed (curve long base) high 21 ≡ 1011065592399)
unfolding all
long-base-weighed-21 = (refl, refl)

long-base-weighed-60 : (Rounded.weighed (curve long base) low 60 ≡ 1033305514310)
    × (Rounded.weighed (curve long base) high 60 ≡ 1033305514311)
unfolding all
long-base-weighed-60 = (refl, refl)

long-base-weighed-61 : (Rounded.weighed (curve long base) low 61 ≡ 1033330000000)
    × (Rounded.weighed (curve long base) high 61 ≡ 1033330000000)
unfolding all
long-base-weighed-61 = (refl, refl)

long-base-exact-growth-1 : Exact.growth (curve long base) 1 ≐ 200493 // 200000
unfolding all
long-base-exact-growth-1 = (lit< tt, lit< tt, refl)

long-base-exact-growth-21 : Exact.growth (curve long base) 21 ≐ 1183098062349542247639252779766274778347196109417485628938969391635684325837787099555419147167298945401395461153381 // 1170149663143972628252939373366245040559394070561429938959971649201000000000000000000000000000000000000000000000000
unfolding all
long-base-exact-growth-21 = (lit< tt, lit< tt, refl)

long-base-exact-growth-61 : Exact.growth (curve long base) 61 ≐ 103333 // 100000
unfolding all
long-base-exact-growth-61 = (lit< tt, lit< tt, refl)

long-up-points : ((curve long up).N ≡ 200000)
    × ((curve long up).ufr ≡ 3333)
    × (P (curve long up) 1 ≡ 200993)
    × (P (curve long up) 20 ≡ 201600)
    × (P (curve long up) 60 ≡ 202880)
unfolding all
long-up-points = (refl, refl, refl, refl, refl)

long-up-weighed-21 : (Rounded.weighed (curve long up) low 21 ≡ 1013350579461)
    × (Rounded.weighed (curve long up) high 21 ≡ 1013350579481)
unfolding all
long-up-weighed-21 = (refl, refl)

long-up-weighed-60 : (Rounded.weighed (curve long up) low 60 ≡ 1033310514102)
    × (Rounded.weighed (curve long up) high 60 ≡ 1033310514103)
unfolding all
long-up-weighed-60 = (refl, refl)

long-up-weighed-61 : (Rounded.weighed (curve long up) low 61 ≡ 1033330000000)
    × (Rounded.weighed (curve long up) high 61 ≡ 1033330000000)
unfolding all
long-up-weighed-61 = (refl, refl)

long-up-exact-growth-1 : Exact.growth (curve long up) 1 ≐ 200993 // 200000
unfolding all
long-up-exact-growth-1 = (lit< tt, lit< tt, refl)

long-up-exact-growth-21 : Exact.growth (curve long up) 21 ≐ 119130763879045873348052205722158947020485393788704829061730269303394635808989360776162538214274097251827 // 117561253027661141479633899655985880693149472626250350592000000000000000000000000000000000000000000000000
unfolding all
long-up-exact-growth-21 = (lit< tt, lit< tt, refl)

long-up-exact-growth-61 : Exact.growth (curve long up) 61 ≐ 103333 // 100000
unfolding all
long-up-exact-growth-61 = (lit< tt, lit< tt, refl)

long-down-points : ((curve long down).N ≡ 200000)
    × ((curve long down).ufr ≡ 3333)
    × (P (curve long down) 1 ≡ 199673)
    × (P (curve long down) 20 ≡ 200280)
    × (P (curve long down) 60 ≡ 201560)
unfolding all
long-down-points = (refl, refl, refl, refl, refl)

long-down-weighed-21 : (Rounded.weighed (curve long down) low 21 ≡ 1007318213701)
    × (Rounded.weighed (curve long down) high 21 ≡ 1007318213721)
unfolding all
long-down-weighed-21 = (refl, refl)

long-down-weighed-60 : (Rounded.weighed (curve long down) low 60 ≡ 1033297314654)
    × (Rounded.weighed (curve long down) high 60 ≡ 1033297314655)
unfolding all
long-down-weighed-60 = (refl, refl)

long-down-weighed-61 : (Rounded.weighed (curve long down) low 61 ≡ 1033330000000)
    × (Rounded.weighed (curve long down) high 61 ≡ 1033330000000)
unfolding all
long-down-weighed-61 = (refl, refl)

long-down-exact-growth-1 : Exact.growth (curve long down) 1 ≐ 199673 // 200000
unfolding all
long-down-exact-growth-1 = (lit< tt, lit< tt, refl)

long-down-exact-growth-21 : Exact.growth (curve long down) 21 ≐ 311525245408012009766239704210266669378169948289173668486457806216380663684255418596633169703561765455441 // 309261999999499559449385802837797252236144848160890062248256482552380664053760000000000000000000000000000
unfolding all
long-down-exact-growth-21 = (lit< tt, lit< tt, refl)

long-down-exact-growth-61 : Exact.growth (curve long down) 61 ≐ 103333 // 100000
unfolding all
long-down-exact-growth-61 = (lit< tt, lit< tt, refl)

long-margins : (first_margin long ≡ 465914)
    × (second_margin long ≡ 87264)
unfolding all
long-margins = (refl, refl)

first-border-within-above : NearFirst (first_margin long) (whole 209999534086) (whole 199999534086)
unfolding all
first-border-within-above = record { above = lit≤ tt; below = lit≤ tt }

first-border-within-below : NearFirst (first_margin long) (whole 210000465914) (whole 200000465914)
unfolding all
first-border-within-below = record { above = lit≤ tt; below = lit≤ tt }

first-border-beyond-above : NearFirst (first_margin long) (whole 209999534085) (whole 199999534085) → ⊥
unfolding all
first-border-beyond-above near = not-le_of_lt (lit< tt) near.above

first-border-beyond-below : NearFirst (first_margin long) (whole 210000465915) (whole 200000465915) → ⊥
unfolding all
first-border-beyond-below near = not-le_of_lt (lit< tt) near.below

-- The square of an S of 700,000,000 cents, a part of it as a root, and that of an S of 0.
abbrev pub seven_million² : Rooted
seven_million² =
    record { plain = whole 480000000000000000; factor = whole 5000000000000000; under = whole 4 }

abbrev pub none² : Rooted
none² =
    record { plain = whole 0; factor = whole 0; under = whole 0 }

second-border-within-above : NearSecond (second_margin long) (whole 1700087264) (whole 1000000000) seven_million²
unfolding all
second-border-within-above = record { above = lit≤ tt; positive = lit≤ tt; below = (lit≤ tt, lit≤ tt) }

second-border-within-below : NearSecond (second_margin long) (whole 1699912736) (whole 1000000000) seven_million²
unfolding all
second-border-within-below = record { above = lit≤ tt; positive = lit≤ tt; below = (lit≤ tt, lit≤ tt) }

second-border-beyond-above : NearSecond (second_margin long) (whole 1700087265) (whole 1000000000) seven_million² → ⊥
unfolding all
second-border-beyond-above near = not-le_of_lt (lit< tt) near.above

second-border-beyond-below : NearSecond (second_margin long) (whole 1699912735) (whole 1000000000) seven_million² → ⊥
unfolding all
second-border-beyond-below near = not-le_of_lt (lit< tt) near.below.1

second-border-within-without-S : NearSecond (second_margin long) (whole 999912736) (whole 1000000000) none²
unfolding all
second-border-within-without-S = record { above = lit≤ tt; positive = lit≤ tt; below = (lit≤ tt, lit≤ tt) }

second-border-beyond-without-S : NearSecond (second_margin long) (whole 999912735) (whole 1000000000) none² → ⊥
unfolding all
second-border-beyond-without-S near = not-le_of_lt (lit< tt) near.positive

-- C1 with cash 1,049,999: one euro below the first border.
abbrev pub shortage : FileCase
shortage = record {
  rate_bytes = 2;
  ufr = 4200;
  days = replicate 60 (pos 0)
      ∷ [];
  pension = 1000000
      ∷ [];
  bonds = [];
  amounts = record {
    mature = 0;
    emerging = 0;
    private = 0;
    property = 0;
    commodities = 0;
    credit = 0;
    cash = 1049999;
    currency = 0;
  };
  shocks = record {
    up_shift = 0;
    down_shift = 0;
    mature_fall = 0;
    emerging_fall = 0;
    private_fall = 0;
    property_fall = 0;
    currency_fall = 0;
    commodities_fall = 0;
    spread_rise = 0;
    correlation = 0;
    spread = 0;
    duration = 0;
    equity_correlation = 1000;
  };
  people = record {
    heads = 100;
    pension_age = 780;
    mean_age = 460;
  };
}

shortage-verdicts : (word (Rounded.verdict shortage) ≡ ascii "DEKKINGSTEKORT")
    × (Exact.verdict shortage ≡ Dekkingstekort)
unfolding all
shortage-verdicts = (refl, refl)

-- "Else ONBESLIST, which is undecided.": C1 with flat 100, at the first border, which the exact figures do not reach.
abbrev pub first_below : FileCase
first_below = record {
  rate_bytes = 2;
  ufr = 4200;
  days = replicate 60 (pos 100)
      ∷ [];
  pension = 1000040
      ∷ [];
  bonds = [];
  amounts = record {
    mature = 0;
    emerging = 0;
    private = 0;
    property = 0;
    commodities = 0;
    credit = 0;
    cash = 1048993;
    currency = 0;
  };
  shocks = record {
    up_shift = 0;
    down_shift = 0;
    mature_fall = 0;
    emerging_fall = 0;
    private_fall = 0;
    property_fall = 0;
    currency_fall = 0;
    commodities_fall = 0;
    spread_rise = 0;
    correlation = 0;
    spread = 0;
    duration = 0;
    equity_correlation = 1000;
  };
  people = record {
    heads = 100;
    pension_age = 780;
    mean_age = 460;
  };
}

first_below-verdicts : (word (Rounded.verdict first_below) ≡ ascii "ONBESLIST")
    × (Exact.verdict first_below ≡ Dekkingstekort)
unfolding all
first_below-verdicts = (refl, refl)

-- "Else ONBESLIST, which is undecided.": C1 with flat 100, at the first border, which the exact figures reach.
abbrev pub first_above : FileCase
first_above = record {
  rate_bytes = 2;
  ufr = 4200;
  days = replicate 60 (pos 100)
      ∷ [];
  pension = 1000142
      ∷ [];
  bonds = [];
  amounts = record {
    mature = 0;
    emerging = 0;
    private = 0;
    property = 0;
    commodities = 0;
    credit = 0;
    cash = 1049100;
    currency = 0;
  };
  shocks = record {
    up_shift = 0;
    down_shift = 0;
    mature_fall = 0;
    emerging_fall = 0;
    private_fall = 0;
    property_fall = 0;
    currency_fall = 0;
    commodities_fall = 0;
    spread_rise = 0;
    correlation = 0;
    spread = 0;
    duration = 0;
    equity_correlation = 1000;
  };
  people = record {
    heads = 100;
    pension_age = 780;
    mean_age = 460;
  };
}

first_above-verdicts : (word (Rounded.verdict first_above) ≡ ascii "ONBESLIST")
    × (Exact.verdict first_above ≡ Reservetekort)
unfolding all
first_above-verdicts = (refl, refl)

-- "Else ONBESLIST, which is undecided.": C1 with flat 100, at the second border, which the exact figures do not reach.
abbrev pub second_below : FileCase
second_below = record {
  rate_bytes = 2;
  ufr = 4200;
  days = replicate 60 (pos 100)
      ∷ [];
  pension = 1000080
      ∷ [];
  bonds = [];
  amounts = record {
    mature = 0;
    emerging = 0;
    private = 0;
    property = 0;
    commodities = 0;
    credit = 0;
    cash = 1098989;
    currency = 0;
  };
  shocks = record {
    up_shift = 0;
    down_shift = 0;
    mature_fall = 0;
    emerging_fall = 0;
    private_fall = 0;
    property_fall = 0;
    currency_fall = 0;
    commodities_fall = 0;
    spread_rise = 0;
    correlation = 0;
    spread = 0;
    duration = 0;
    equity_correlation = 1000;
  };
  people = record {
    heads = 100;
    pension_age = 780;
    mean_age = 460;
  };
}

second_below-verdicts : (word (Rounded.verdict second_below) ≡ ascii "ONBESLIST")
    × (Exact.verdict second_below ≡ Reservetekort)
unfolding all
second_below-verdicts = (refl, refl)

-- "Else ONBESLIST, which is undecided.": C1 with flat 100, at the second border, which the exact figures reach.
abbrev pub second_above : FileCase
second_above = record {
  rate_bytes = 2;
  ufr = 4200;
  days = replicate 60 (pos 100)
      ∷ [];
  pension = 1000009
      ∷ [];
  bonds = [];
  amounts = record {
    mature = 0;
    emerging = 0;
    private = 0;
    property = 0;
    commodities = 0;
    credit = 0;
    cash = 1098911;
    currency = 0;
  };
  shocks = record {
    up_shift = 0;
    down_shift = 0;
    mature_fall = 0;
    emerging_fall = 0;
    private_fall = 0;
    property_fall = 0;
    currency_fall = 0;
    commodities_fall = 0;
    spread_rise = 0;
    correlation = 0;
    spread = 0;
    duration = 0;
    equity_correlation = 1000;
  };
  people = record {
    heads = 100;
    pension_age = 780;
    mean_age = 460;
  };
}

second_above-verdicts : (word (Rounded.verdict second_above) ≡ ascii "ONBESLIST")
    × (Exact.verdict second_above ≡ VrijVermogen)
unfolding all
second_above-verdicts = (refl, refl)
