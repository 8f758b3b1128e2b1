-- The correlation between the equity classes: S2 of four losses none of which is like another; S2 and S of two funds, in both workings, and
-- with S2 the sum of their losses; funds on both sides of the second border; and a file that is rewritten. All of it as computed statements
-- about the definitions.
-- tests/writers wrote this file, from the reference in Python, which was written without the engine's code (tests/reference): change
-- that, not this. Assumes nothing.
use Prim.Native.Nat.{ℕ, ◌*◌}
use mathlib.Core.Path.{◌≡◌, refl}
use mathlib.Core.List.{[], ◌∷◌, ◌++◌}
use lib.Dec.{lit<, lit≤}
use lib.ListN.{replicate}
use lib.IntN.{pos}
use Rattle.arith.specs.Rounding.{low, high}
use Rattle.model.specs.Case.{FileCase}
use Rattle.model.specs.declared.figures.Verdict.TheVariants.{Dekkingstekort, Reservetekort, VrijVermogen}
use Rattle.method.specs.Fraction.{◌//◌, ◌≐◌, whole, ◌≤ʳ◌, ◌ʳ≤◌}
use Rattle.method.specs.Exact as Exact
use Rattle.method.specs.Rounded as Rounded
use Rattle.method.specs.EquityClasses.{summed_loss, summed_S², judge_by_fraction, summed_equity_loss, summed_buffer}
use Rattle.method.specs.FourBytes.{rewritten_file}
use Rattle.method.specs.Listing.{ascii, word}
use Rattle.model.proofs.Computing.{pairs}
use Rattle.method.proofs.Computing.{all}
use Rattle.method.proofs.Pinned.{up_case, down_case}

-- a fund with another correlation between its equity classes, and one with other cash
abbrev pub with_equity : ℕ → FileCase → FileCase
with_equity c k = record k { shocks = record k.shocks { equity_correlation = c } }

abbrev pub with_cash : ℕ → FileCase → FileCase
with_cash c k = record k { amounts = record k.amounts { cash = c } }

-- Losses of 2,107, 4,983, 2,691 and 2,567 tenths of a cent, and no other.
abbrev pub classes_case : FileCase
classes_case = record {
  rate_bytes = 2;
  ufr = 4200;
  days = replicate 60 (pos 0)
      ∷ [];
  pension = 7
      ∷ [];
  bonds = [];
  amounts = record {
    mature = 7;
    emerging = 11;
    private = 13;
    property = 17;
    commodities = 0;
    credit = 0;
    cash = 0;
    currency = 0;
  };
  shocks = record {
    up_shift = 0;
    down_shift = 0;
    mature_fall = 301;
    emerging_fall = 453;
    private_fall = 207;
    property_fall = 151;
    currency_fall = 0;
    commodities_fall = 0;
    spread_rise = 0;
    correlation = 0;
    spread = 0;
    duration = 0;
    equity_correlation = 1000;
  };
  people = record {
    heads = 1;
    pension_age = 0;
    mean_age = 0;
  };
}

equity-rounded : (Rounded.S2 (with_equity 0 classes_case) low ≡ 656)
    × (Rounded.S2 (with_equity 0 classes_case) high ≡ 657)
    × (Rounded.S2 (with_equity 1 classes_case) low ≡ 657)
    × (Rounded.S2 (with_equity 1 classes_case) high ≡ 658)
    × (Rounded.S2 (with_equity 500 classes_case) low ≡ 988)
    × (Rounded.S2 (with_equity 500 classes_case) high ≡ 989)
    × (Rounded.S2 (with_equity 999 classes_case) low ≡ 1234)
    × (Rounded.S2 (with_equity 999 classes_case) high ≡ 1235)
    × (Rounded.S2 (with_equity 1000 classes_case) low ≡ 1234)
    × (Rounded.S2 (with_equity 1000 classes_case) high ≡ 1235)
unfolding all
equity-rounded = (refl, refl, refl, refl, refl, refl, refl, refl, refl, refl)

equity-exact : (Exact.S2² (with_equity 0 classes_case) ≐ 10775177 // 25)
    × (Exact.S2² (with_equity 1 classes_case) ≐ 10802520099 // 25000)
    × (Exact.S2² (with_equity 500 classes_case) ≐ 48893453 // 50)
    × (Exact.S2² (with_equity 999 classes_case) ≐ 38090932901 // 25000)
    × (Exact.S2² (with_equity 1000 classes_case) ≐ 38118276 // 25)
unfolding all
equity-exact = ((lit< tt, lit< tt, refl), (lit< tt, lit< tt, refl), (lit< tt, lit< tt, refl), (lit< tt, lit< tt, refl), (lit< tt, lit< tt, refl))

up-equity-rounded : (Rounded.S1 (with_equity 0 up_case) low ≡ 57600402)
    × (Rounded.S1 (with_equity 0 up_case) high ≡ 57600414)
    × (Rounded.S2 (with_equity 0 up_case) low ≡ 46743710)
    × (Rounded.S2 (with_equity 0 up_case) high ≡ 46743711)
    × (Rounded.S (with_equity 0 up_case) low ≡ 2871506269)
    × (Rounded.S (with_equity 0 up_case) high ≡ 2871506271)
    × (Rounded.S1 (with_equity 500 up_case) low ≡ 57600402)
    × (Rounded.S1 (with_equity 500 up_case) high ≡ 57600414)
    × (Rounded.S2 (with_equity 500 up_case) low ≡ 71334966)
    × (Rounded.S2 (with_equity 500 up_case) high ≡ 71334967)
    × (Rounded.S (with_equity 500 up_case) low ≡ 2872209595)
    × (Rounded.S (with_equity 500 up_case) high ≡ 2872209598)
    × (Rounded.S1 (with_equity 999 up_case) low ≡ 57600402)
    × (Rounded.S1 (with_equity 999 up_case) high ≡ 57600414)
    × (Rounded.S2 (with_equity 999 up_case) low ≡ 89367627)
    × (Rounded.S2 (with_equity 999 up_case) high ≡ 89367628)
    × (Rounded.S (with_equity 999 up_case) low ≡ 2872859009)
    × (Rounded.S (with_equity 999 up_case) high ≡ 2872859011)
unfolding all
up-equity-rounded = (refl, refl, refl, refl, refl, refl, refl, refl, refl, refl, refl, refl, refl, refl, refl, refl, refl, refl)

up-equity-exact : (Exact.S2² (with_equity 0 up_case) ≐ 2184974499566635 // 1)
    × ((Exact.S² (with_equity 0 up_case)).under ≐ 2184974499566635 // 1)
    × (whole (2871506270 * 2871506270) ≤ʳ Exact.S² (with_equity 0 up_case))
    × (Exact.S² (with_equity 0 up_case) ʳ≤ whole (2871506271 * 2871506271))
    × (Exact.S2² (with_equity 500 up_case) ≐ 127216934693743682 // 25)
    × ((Exact.S² (with_equity 500 up_case)).under ≐ 127216934693743682 // 25)
    × (whole (2872209596 * 2872209596) ≤ʳ Exact.S² (with_equity 500 up_case))
    × (Exact.S² (with_equity 500 up_case) ʳ≤ whole (2872209597 * 2872209597))
    × (Exact.S2² (with_equity 999 up_case) ≐ 99832160876956166693 // 12500)
    × ((Exact.S² (with_equity 999 up_case)).under ≐ 99832160876956166693 // 12500)
    × (whole (2872859010 * 2872859010) ≤ʳ Exact.S² (with_equity 999 up_case))
    × (Exact.S² (with_equity 999 up_case) ʳ≤ whole (2872859011 * 2872859011))
unfolding all
up-equity-exact = ((lit< tt, lit< tt, refl), (lit< tt, lit< tt, refl), lit≤ tt, (lit≤ tt, lit≤ tt), (lit< tt, lit< tt, refl), (lit< tt, lit< tt, refl), lit≤ tt, (lit≤ tt, lit≤ tt), (lit< tt, lit< tt, refl), (lit< tt, lit< tt, refl), lit≤ tt, (lit≤ tt, lit≤ tt))

down-equity-rounded : (Rounded.S1 (with_equity 0 down_case) low ≡ 61969548)
    × (Rounded.S1 (with_equity 0 down_case) high ≡ 61969560)
    × (Rounded.S2 (with_equity 0 down_case) low ≡ 466547781)
    × (Rounded.S2 (with_equity 0 down_case) high ≡ 466547782)
    × (Rounded.S (with_equity 0 down_case) low ≡ 1071719307)
    × (Rounded.S (with_equity 0 down_case) high ≡ 1071719314)
    × (Rounded.S1 (with_equity 500 down_case) low ≡ 61969548)
    × (Rounded.S1 (with_equity 500 down_case) high ≡ 61969560)
    × (Rounded.S2 (with_equity 500 down_case) low ≡ 700723289)
    × (Rounded.S2 (with_equity 500 down_case) high ≡ 700723290)
    × (Rounded.S (with_equity 500 down_case) low ≡ 1199883317)
    × (Rounded.S (with_equity 500 down_case) high ≡ 1199883325)
    × (Rounded.S1 (with_equity 999 down_case) low ≡ 61969548)
    × (Rounded.S1 (with_equity 999 down_case) high ≡ 61969560)
    × (Rounded.S2 (with_equity 999 down_case) low ≡ 873963804)
    × (Rounded.S2 (with_equity 999 down_case) high ≡ 873963805)
    × (Rounded.S (with_equity 999 down_case) low ≡ 1313651959)
    × (Rounded.S (with_equity 999 down_case) high ≡ 1313651967)
unfolding all
down-equity-rounded = (refl, refl, refl, refl, refl, refl, refl, refl, refl, refl, refl, refl, refl, refl, refl, refl, refl, refl)

down-equity-exact : (Exact.S2² (with_equity 0 down_case) ≐ 1088334164414525327 // 5)
    × ((Exact.S² (with_equity 0 down_case)).under ≐ 1088334164414525327 // 5)
    × (whole (1071719311 * 1071719311) ≤ʳ Exact.S² (with_equity 0 down_case))
    × (Exact.S² (with_equity 0 down_case) ʳ≤ whole (1071719312 * 1071719312))
    × (Exact.S2² (with_equity 500 down_case) ≐ 2455065643908625726 // 5)
    × ((Exact.S² (with_equity 500 down_case)).under ≐ 2455065643908625726 // 5)
    × (whole (1199883321 * 1199883321) ≤ʳ Exact.S² (with_equity 500 down_case))
    × (Exact.S² (with_equity 500 down_case) ʳ≤ whole (1199883322 * 1199883322))
    × (Exact.S2² (with_equity 999 down_case) ≐ 1909531830221868962101 // 2500)
    × ((Exact.S² (with_equity 999 down_case)).under ≐ 1909531830221868962101 // 2500)
    × (whole (1313651963 * 1313651963) ≤ʳ Exact.S² (with_equity 999 down_case))
    × (Exact.S² (with_equity 999 down_case) ʳ≤ whole (1313651964 * 1313651964))
unfolding all
down-equity-exact = ((lit< tt, lit< tt, refl), (lit< tt, lit< tt, refl), lit≤ tt, (lit≤ tt, lit≤ tt), (lit< tt, lit< tt, refl), (lit< tt, lit< tt, refl), lit≤ tt, (lit≤ tt, lit≤ tt), (lit< tt, lit< tt, refl), (lit< tt, lit< tt, refl), lit≤ tt, (lit≤ tt, lit≤ tt))

-- A loss of 6,327 tenths of a cent on commodities, and no other.
abbrev pub commodities_case : FileCase
commodities_case = record {
  rate_bytes = 2;
  ufr = 4200;
  days = replicate 60 (pos 0)
      ∷ [];
  pension = 7
      ∷ [];
  bonds = [];
  amounts = record {
    mature = 0;
    emerging = 0;
    private = 0;
    property = 0;
    commodities = 19;
    credit = 0;
    cash = 0;
    currency = 0;
  };
  shocks = record {
    up_shift = 0;
    down_shift = 0;
    mature_fall = 301;
    emerging_fall = 453;
    private_fall = 207;
    property_fall = 151;
    currency_fall = 0;
    commodities_fall = 333;
    spread_rise = 0;
    correlation = 0;
    spread = 0;
    duration = 0;
    equity_correlation = 1000;
  };
  people = record {
    heads = 1;
    pension_age = 0;
    mean_age = 0;
  };
}

small-summed : (summed_buffer classes_case low ≡ 1303)
    × (summed_buffer classes_case high ≡ 1305)
    × (summed_buffer commodities_case low ≡ 758)
    × (summed_buffer commodities_case high ≡ 761)
unfolding all
small-summed = (refl, refl, refl, refl)

up-summed : (summed_equity_loss up_case.amounts up_case.shocks low ≡ 89400113)
    × (summed_equity_loss up_case.amounts up_case.shocks high ≡ 89400114)
    × (summed_buffer up_case low ≡ 2872860281)
    × (summed_buffer up_case high ≡ 2872860283)
    × (summed_loss up_case.amounts up_case.shocks ≐ 447000567 // 5)
    × (summed_S² up_case ≐ 2184189923395775883784794193202266610101016240870692246306451158013145723577213778082391822303829593776645095328082991674383715581132122712148411299026366615859154770044581554227702962074023 // 264643595858681143562482928318659749061562834132537287864928333930139057444510644493487991503319183955730837680531967748462774747017079500596080812324310417408000000000000)
unfolding all
up-summed = (refl, refl, refl, refl, (lit< tt, lit< tt, refl), (lit< tt, lit< tt, refl))

down-summed : (summed_equity_loss down_case.amounts down_case.shocks low ≡ 874276515)
    × (summed_equity_loss down_case.amounts down_case.shocks high ≡ 874276515)
    × (summed_buffer down_case low ≡ 1313869065)
    × (summed_buffer down_case high ≡ 1313869073)
    × (summed_loss down_case.amounts down_case.shocks ≐ 874276515 // 1)
    × (summed_S² down_case ≐ 1234875575710765426925949233835776981888776792015642360414151426925723122848560953427089946963497252354080348872932491921867608597990427490599967502141895768055369 // 715350727752277830206841165892995540756292414674804632168243048667673462787686022326051430749895779747649632206102125039714654106710440000000000)
unfolding all
down-summed = (refl, refl, refl, refl, (lit< tt, lit< tt, refl), (lit< tt, lit< tt, refl))

judged-by-fractions : (judge_by_fraction (2099 // 100) (whole 20) (0 // 1) ≡ Dekkingstekort)
    × (judge_by_fraction (21 // 1) (whole 20) (0 // 1) ≡ VrijVermogen)
    × (judge_by_fraction (2219 // 100) (whole 20) (121 // 25) ≡ Reservetekort)
    × (judge_by_fraction (111 // 5) (whole 20) (121 // 25) ≡ VrijVermogen)
unfolding all
judged-by-fractions = (refl, refl, refl, refl)

-- Cash on both sides of the second border at 500; at 1,000 the same cash is not enough.
equity-border : (word (Rounded.verdict (with_cash 9448271 (with_equity 500 up_case))) ≡ ascii "RESERVETEKORT")
    × (Exact.verdict (with_cash 9448271 (with_equity 500 up_case)) ≡ Reservetekort)
    × (word (Rounded.verdict (with_cash 9448272 (with_equity 500 up_case))) ≡ ascii "VRIJ VERMOGEN")
    × (Exact.verdict (with_cash 9448272 (with_equity 500 up_case)) ≡ VrijVermogen)
    × (word (Rounded.verdict (with_cash 9448272 up_case)) ≡ ascii "RESERVETEKORT")
    × (Exact.verdict (with_cash 9448272 up_case) ≡ Reservetekort)
unfolding all
equity-border = (refl, refl, refl, refl, refl, refl)

-- At 0, on both sides of the second border and undecided between, where the exact figures do not reach the border.
equity-undecided-below : (word (Rounded.verdict (with_cash 9441237 (with_equity 0 up_case))) ≡ ascii "RESERVETEKORT")
    × (Exact.verdict (with_cash 9441237 (with_equity 0 up_case)) ≡ Reservetekort)
    × (word (Rounded.verdict (with_cash 9441238 (with_equity 0 up_case))) ≡ ascii "ONBESLIST")
    × (Exact.verdict (with_cash 9441238 (with_equity 0 up_case)) ≡ Reservetekort)
    × (word (Rounded.verdict (with_cash 9441239 (with_equity 0 up_case))) ≡ ascii "VRIJ VERMOGEN")
    × (Exact.verdict (with_cash 9441239 (with_equity 0 up_case)) ≡ VrijVermogen)
unfolding all
equity-undecided-below = (refl, refl, refl, refl, refl, refl)

-- The same, where they reach it: the first fund with a larger flow of which that is so.
abbrev pub larger_case : FileCase
larger_case =
    with_equity 0 (record up_case { pension = 31416016 ∷ 27182818 ∷ 16180339 ∷ [] })

equity-undecided-above : (word (Rounded.verdict (with_cash 9441327 larger_case)) ≡ ascii "RESERVETEKORT")
    × (Exact.verdict (with_cash 9441327 larger_case) ≡ Reservetekort)
    × (word (Rounded.verdict (with_cash 9441328 larger_case)) ≡ ascii "ONBESLIST")
    × (Exact.verdict (with_cash 9441328 larger_case) ≡ VrijVermogen)
    × (word (Rounded.verdict (with_cash 9441329 larger_case)) ≡ ascii "VRIJ VERMOGEN")
    × (Exact.verdict (with_cash 9441329 larger_case) ≡ VrijVermogen)
unfolding all
equity-undecided-above = (refl, refl, refl, refl, refl, refl)

equity-rewritten-500 : rewritten_file ((0x01 ∷ 0x76 ∷ 0x01 ∷ []) ++ pairs 60 0x00 0x00 ++ (0x01 ∷ 0x00 ∷ 0x00 ∷ 0x00 ∷ 0x07 ∷ 0x00 ∷ 0x00 ∷ 0x00 ∷ 0x00 ∷ 0x00 ∷ 0x00 ∷ 0x00 ∷ 0x07 ∷ 0x00 ∷ 0x00 ∷ 0x00 ∷ 0x00 ∷ 0x00 ∷ 0x00 ∷ 0x00 ∷ 0x0b ∷ 0x00 ∷ 0x00 ∷ 0x00 ∷ 0x00 ∷ 0x00 ∷ 0x00 ∷ 0x00 ∷ 0x0d ∷ 0x00 ∷ 0x00 ∷ 0x00 ∷ 0x00 ∷ 0x00 ∷ 0x00 ∷ 0x00 ∷ 0x11 ∷ []) ++ pairs 18 0x00 0x00 ++ (0x01 ∷ 0x2d ∷ 0x01 ∷ 0xc5 ∷ 0x00 ∷ 0xcf ∷ 0x00 ∷ 0x97 ∷ []) ++ pairs 7 0x00 0x00 ++ (0x00 ∷ 0x01 ∷ 0x00 ∷ 0x00 ∷ 0x00 ∷ 0x00 ∷ 0x01 ∷ 0xf4 ∷ [])) ≡ (0x01 ∷ 0xf4 ∷ 0x01 ∷ 0x00 ∷ 0x00 ∷ 0x00 ∷ 0x07 ∷ 0x00 ∷ 0x00 ∷ 0x00 ∷ 0x00 ∷ 0x00 ∷ 0x00 ∷ 0x00 ∷ 0x07 ∷ 0x00 ∷ 0x00 ∷ 0x00 ∷ 0x00 ∷ 0x00 ∷ 0x00 ∷ 0x00 ∷ 0x0b ∷ 0x00 ∷ 0x00 ∷ 0x00 ∷ 0x00 ∷ 0x00 ∷ 0x00 ∷ 0x00 ∷ 0x0d ∷ 0x00 ∷ 0x00 ∷ 0x00 ∷ 0x00 ∷ 0x00 ∷ 0x00 ∷ 0x00 ∷ 0x11 ∷ []) ++ pairs 18 0x00 0x00 ++ (0x01 ∷ 0x2d ∷ 0x01 ∷ 0xc5 ∷ 0x00 ∷ 0xcf ∷ 0x00 ∷ 0x97 ∷ []) ++ pairs 7 0x00 0x00 ++ (0x00 ∷ 0x01 ∷ 0x00 ∷ 0x00 ∷ 0x00 ∷ 0x00 ∷ 0x01 ∷ []) ++ pairs 120 0x00 0x00 ++ (0x01 ∷ 0xf4 ∷ [])
unfolding all
equity-rewritten-500 = refl

equity-rewritten-1000 : rewritten_file ((0x01 ∷ 0x76 ∷ 0x01 ∷ []) ++ pairs 60 0x00 0x00 ++ (0x01 ∷ 0x00 ∷ 0x00 ∷ 0x00 ∷ 0x07 ∷ 0x00 ∷ 0x00 ∷ 0x00 ∷ 0x00 ∷ 0x00 ∷ 0x00 ∷ 0x00 ∷ 0x07 ∷ 0x00 ∷ 0x00 ∷ 0x00 ∷ 0x00 ∷ 0x00 ∷ 0x00 ∷ 0x00 ∷ 0x0b ∷ 0x00 ∷ 0x00 ∷ 0x00 ∷ 0x00 ∷ 0x00 ∷ 0x00 ∷ 0x00 ∷ 0x0d ∷ 0x00 ∷ 0x00 ∷ 0x00 ∷ 0x00 ∷ 0x00 ∷ 0x00 ∷ 0x00 ∷ 0x11 ∷ []) ++ pairs 18 0x00 0x00 ++ (0x01 ∷ 0x2d ∷ 0x01 ∷ 0xc5 ∷ 0x00 ∷ 0xcf ∷ 0x00 ∷ 0x97 ∷ []) ++ pairs 7 0x00 0x00 ++ (0x00 ∷ 0x01 ∷ 0x00 ∷ 0x00 ∷ 0x00 ∷ 0x00 ∷ 0x03 ∷ 0xe8 ∷ [])) ≡ (0x01 ∷ 0xf4 ∷ 0x01 ∷ 0x00 ∷ 0x00 ∷ 0x00 ∷ 0x07 ∷ 0x00 ∷ 0x00 ∷ 0x00 ∷ 0x00 ∷ 0x00 ∷ 0x00 ∷ 0x00 ∷ 0x07 ∷ 0x00 ∷ 0x00 ∷ 0x00 ∷ 0x00 ∷ 0x00 ∷ 0x00 ∷ 0x00 ∷ 0x0b ∷ 0x00 ∷ 0x00 ∷ 0x00 ∷ 0x00 ∷ 0x00 ∷ 0x00 ∷ 0x00 ∷ 0x0d ∷ 0x00 ∷ 0x00 ∷ 0x00 ∷ 0x00 ∷ 0x00 ∷ 0x00 ∷ 0x00 ∷ 0x11 ∷ []) ++ pairs 18 0x00 0x00 ++ (0x01 ∷ 0x2d ∷ 0x01 ∷ 0xc5 ∷ 0x00 ∷ 0xcf ∷ 0x00 ∷ 0x97 ∷ []) ++ pairs 7 0x00 0x00 ++ (0x00 ∷ 0x01 ∷ 0x00 ∷ 0x00 ∷ 0x00 ∷ 0x00 ∷ 0x01 ∷ []) ++ pairs 120 0x00 0x00 ++ (0x03 ∷ 0xe8 ∷ [])
unfolding all
equity-rewritten-1000 = refl
