-- The margins of a verdict, of funds that are far from both borders: a valuation that answers undecided for them would break them.
-- tests/writers wrote this file, from the reference in Python, which was written without the engine's code (tests/reference): change
-- that, not this. Assumes nothing.
use Prim.Native.Nat.{ℕ}
use mathlib.Core.Path.{◌≡◌}
use mathlib.Core.Logic.{◌⊎◌}
use mathlib.Core.List.{[], ◌∷◌}
use native.Mathlib.Nat.{not-le_of_lt}
use native.Mathlib.Omega.{arith}
use lib.Dec.{lit<}
use lib.ListN.{replicate}
use lib.IntN.{pos}
use Rattle.std.specs.Prelude.{None, Result, Ok, Err}
use Rattle.refusal.specs.declared.Refusal.{Refusal}
use Rattle.model.specs.Case.{FileCase}
use Rattle.method.specs.Curve.{base}
use Rattle.method.specs.Exact as Exact
use Rattle.method.specs.Buffers.{answered}
use Rattle.method.specs.Margins.{NearFirst, NearSecond, first_margin, second_margin}
use Rattle.model.specs.declared.figures.Valuation.{Valuation}
use Rattle.model.specs.declared.figures.Verdict.TheVariants.{Onbeslist}
use Rattle.method.proofs.Computing.{all}

-- undecided is said only within the margins of a border, by the exact figures
abbrev pub Near : FileCase → Type 0
Near k = NearFirst (first_margin k) (Exact.A k) (Exact.L k base) ⊎ NearSecond (second_margin k) (Exact.A k) (Exact.L k base) (Exact.S² k)

-- of what a valuation answers; a refusal has no verdict
abbrev pub UndecidedNear : FileCase → Result Valuation Refusal → Type 0
UndecidedNear k (Err refusal) = ⊥
UndecidedNear k (Ok v) = v.verdict ≡ Onbeslist → Near k

-- C1 with other cash
abbrev pub with_cash : ℕ → FileCase
with_cash cash = record {
  rate_bytes = 2;
  ufr = 4200;
  days = replicate 60 (pos 0)
      ∷ [];
  pension = 1000000
      ∷ [];
  bonds = [];
  amounts = record {
    mature = 0;
    emerging = 0;
    private = 0;
    property = 0;
    commodities = 0;
    credit = 0;
    cash = cash;
    currency = 0;
  };
  shocks = record {
    up_shift = 0;
    down_shift = 0;
    mature_fall = 0;
    emerging_fall = 0;
    private_fall = 0;
    property_fall = 0;
    currency_fall = 0;
    commodities_fall = 0;
    spread_rise = 0;
    correlation = 0;
    spread = 0;
    duration = 0;
    equity_correlation = 1000;
  };
  people = record {
    heads = 100;
    pension_age = 780;
    mean_age = 460;
  };
}

-- a fund below the first border
short-far-from-first : NearFirst (first_margin (with_cash 900000)) (Exact.A (with_cash 900000)) (Exact.L (with_cash 900000) base) → ⊥
unfolding all
short-far-from-first near = not-le_of_lt (lit< tt) near.below

short-far-from-second : NearSecond (second_margin (with_cash 900000)) (Exact.A (with_cash 900000)) (Exact.L (with_cash 900000) base) (Exact.S² (with_cash 900000)) → ⊥
unfolding all
short-far-from-second near = not-le_of_lt (lit< tt) near.positive

short-decided : UndecidedNear (with_cash 900000) (answered None (with_cash 900000))
unfolding all
short-decided undecided = absurd (let told : ◌≡◌ {A = ℕ} 0 1 = cc in omega (arith, told))

-- a fund above the first border and below the second
middling-far-from-first : NearFirst (first_margin (with_cash 1075000)) (Exact.A (with_cash 1075000)) (Exact.L (with_cash 1075000) base) → ⊥
unfolding all
middling-far-from-first near = not-le_of_lt (lit< tt) near.above

middling-far-from-second : NearSecond (second_margin (with_cash 1075000)) (Exact.A (with_cash 1075000)) (Exact.L (with_cash 1075000) base) (Exact.S² (with_cash 1075000)) → ⊥
unfolding all
middling-far-from-second near = not-le_of_lt (lit< tt) near.below.0

middling-decided : UndecidedNear (with_cash 1075000) (answered None (with_cash 1075000))
unfolding all
middling-decided undecided = absurd (let told : ◌≡◌ {A = ℕ} 0 1 = cc in omega (arith, told))

-- a fund above both borders
rich-far-from-first : NearFirst (first_margin (with_cash 1200000)) (Exact.A (with_cash 1200000)) (Exact.L (with_cash 1200000) base) → ⊥
unfolding all
rich-far-from-first near = not-le_of_lt (lit< tt) near.above

rich-far-from-second : NearSecond (second_margin (with_cash 1200000)) (Exact.A (with_cash 1200000)) (Exact.L (with_cash 1200000) base) (Exact.S² (with_cash 1200000)) → ⊥
unfolding all
rich-far-from-second near = not-le_of_lt (lit< tt) near.above

rich-decided : UndecidedNear (with_cash 1200000) (answered None (with_cash 1200000))
unfolding all
rich-decided undecided = absurd (let told : ◌≡◌ {A = ℕ} 0 1 = cc in omega (arith, told))
