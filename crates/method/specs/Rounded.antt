-- The rounded working, at both ends of each bracket (METHOD, The rounded working). Factors count 10^-12, money counts cents, zero
-- rates count steps. "A lower number rounds down at every step, an upper one up."
use Rattle.std.specs.Prelude.{ℕ, zero, suc, ◌+◌, ◌*◌, ◌-◌, ◌^◌, max, Bool, if◌then◌else◌, List, [], ◌∷◌, nat_le, nat_lt, ℤ, pos, ◌-ℤ◌}
use Rattle.arith.specs.Rounding.{End, low, high, other, divide}
use Rattle.arith.specs.Root.{root}
use Rattle.model.specs.Constants.{steps_per_one, unit, last_unweighed_term, last_market_term}
use Rattle.model.specs.Case.{FileCase, all_except_currency, age_gap}
use Rattle.arith.specs.Brackets.{bracket}
use Rattle.method.specs.Brackets.{largest, smallest}
use Rattle.method.specs.Curve.{Curve, Move, base, up, down, curve, P, weight}
use Rattle.model.specs.declared.case.Amounts.{Amounts}
use Rattle.model.specs.declared.case.Shocks.{Shocks}
use Rattle.model.specs.declared.case.People.{People}
use Rattle.model.specs.declared.figures.Figures.{Figures}
use Rattle.model.specs.declared.figures.Verdict.{Verdict}
use Rattle.model.specs.declared.figures.Verdict.TheVariants.{Dekkingstekort, Reservetekort, VrijVermogen, Onbeslist}

-- from 10^12, j times × a ÷ b: that of j - 1 times, taken once more
unfoldable pub scaled : End → ℕ → ℕ → ℕ → ℕ
scaled e a b zero = unit
scaled e a b (suc j) = divide e (scaled e a b j * a) b

-- "The growth over j years is that over j - 1 years taken once more (one × P(t) ÷ P(t-1); over 0 years it is 10^12 ..)"
abbrev pub growth_over : Curve → End → ℕ → ℕ → ℕ
growth_over c e t j = scaled e (P c t) (P c (t - 1)) j

-- "Growth: from 10^12, t - 1 times × P(t) ÷ P(t-1), then × P(t) ÷ N."
unfoldable pub growth : Curve → End → ℕ → ℕ
growth c e t = divide e (growth_over c e t (t - 1) * P c t) c.N

-- "10^12 + UFR × 10^7"
abbrev pub ufr_growth : Curve → ℕ
ufr_growth c = unit + c.ufr * 10 ^ 7

-- "Terms 21 to 60: weigh the growth with 10^12 + UFR × 10^7, ÷ 1,000 .. From 61: the UFR growth."
unfoldable pub weighed : Curve → End → ℕ → ℕ
weighed c e t =
    if nat_le t last_market_term then divide e ((1000 - weight t) * growth c e t + weight t * ufr_growth c) 1000 else ufr_growth c

-- "From 10^12, t times N ÷ P(t), rounded each time.": the rule of the adjusted factors to term 20, and of bond flows at every term to 60
-- (METHOD, Bonds off the adjusted curve)
unfoldable pub unadjusted : Curve → End → ℕ → ℕ
unadjusted c e t = scaled e c.N (P c t) t

-- The adjusted factor, by that rule to 20; then "new lower factor = old lower × 10^12 ÷ upper growth, and crosswise"
unfoldable pub factor : Curve → End → ℕ → ℕ
factor c e zero = unit
factor c e (suc t) =
    if nat_le (suc t) last_unweighed_term then unadjusted c e (suc t)
    else divide e (factor c e t * unit) (weighed c (other e) (suc t))

-- "Zero rate: test steps z from -2,000 to 20,000. Multiply 10^12 t times by 100,000 ÷ (100,000 + z)." The steps are counted from 0:
-- step i is z = i - 2,000, so that 100,000 + z is 98,000 + i, and the 22,001 steps are 0 to 22,000.
abbrev pub step_at : ℕ → ℤ
step_at i = pos i -ℤ pos 2000

abbrev pub tested : End → ℕ → ℕ → ℕ
tested e t i = scaled e steps_per_one (98000 + i) t

-- "whose lower result is at least the upper factor"; "whose upper result is at most the lower factor", by the factors at both ends
abbrev pub lower_test : (End → ℕ → ℕ) → ℕ → ℕ → Bool
lower_test factor t i = nat_le (factor high t) (tested low t i)

abbrev pub upper_test : (End → ℕ → ℕ) → ℕ → ℕ → Bool
upper_test factor t i = nat_le (tested high t i) (factor low t)

-- "Lower rate: the largest z .. Upper rate: the smallest z ..". Where no step passes, it is 20,001, which is no step; that both
-- rates of an accepted file's base curve are steps is part of ContainmentAndWidth.
unfoldable pub rate_of : (End → ℕ → ℕ) → End → ℕ → ℤ
rate_of factor low t = step_at (largest (lower_test factor t) 22001 22001)
rate_of factor high t = step_at (smallest (upper_test factor t) 0 22001 22001)

abbrev pub zero_rate : Curve → End → ℕ → ℤ
zero_rate c = rate_of (factor c)

-- "Flow: euros × factor ÷ 10^10, rounded each; then summed.", by the factors of the terms at an end, the first flow at term t
unfoldable pub worth : End → (ℕ → ℕ) → ℕ → List ℕ → ℕ
worth e factors t [] = 0
worth e factors t (euros ∷ flows) = divide e (euros * factors t) (10 ^ 10) + worth e factors (suc t) flows

-- The money figures, by the parts that each reads. `l` and `b` are what pension flows and bonds are worth on the three curves, at both
-- ends.
-- A: the bonds, and the amounts except currency exposure, which are whole cents
abbrev pub assets : (End → ℕ) → Amounts → End → ℕ
assets bonds a e = bonds e + 100 * all_except_currency a

-- "differences pair a lower with an upper end": (B - L) - (B' - L'), and 0 where that is below 0
abbrev pub fall_of : (End → ℕ) → (End → ℕ) → (End → ℕ) → (End → ℕ) → End → ℕ
fall_of l b l' b' e = (b e + l' e) - (b' (other e) + l (other e))

-- S1: "the maximum with 0 is taken of each end"
abbrev pub interest_loss : (Move → End → ℕ) → (Move → End → ℕ) → End → ℕ
interest_loss l b e = max 0 (max (fall_of (l base) (b base) (l up) (b up) e) (fall_of (l base) (b base) (l down) (b down) e))

-- 1,000 times "the sum of the squares of the four class losses, plus twice the equity correlation times the product of each pair", which
-- is whole: "euros times thousandths are whole tenths of a cent", and the correlation is in thousandths
abbrev pub class_squares : ℕ → ℕ → ℕ → ℕ → ℕ → ℕ
class_squares c m e v p = 1000 * (m * m + e * e + v * v + p * p) + 2 * c * (m * e + m * v + m * p + e * v + e * p + v * p)

-- S2: "rounded once, the lower end down and the upper end up to a cent"; a square of tenths of a cent is one of cents over 100, and so over
-- 100,000 for the correlation in thousandths
abbrev pub equity_loss : Amounts → Shocks → End → ℕ
equity_loss a x e =
    root e
    (class_squares x.equity_correlation (a.mature * x.mature_fall) (a.emerging * x.emerging_fall)
    (a.private * x.private_fall) (a.property * x.property_fall))
    100000

-- S3 and S4: "S2 to S5 round once.", euros and thousandths to cents
abbrev pub currency_loss : Amounts → Shocks → End → ℕ
currency_loss a x e = divide e (100 * (a.currency * x.currency_fall)) 1000

abbrev pub commodity_loss : Amounts → Shocks → End → ℕ
commodity_loss a x e = divide e (100 * (a.commodities * x.commodities_fall)) 1000

-- S5: tenths of a year, steps and thousandths, so 10 × 100,000 × 1,000 is 10^9
abbrev pub credit_loss : Amounts → Shocks → End → ℕ
credit_loss a x e = divide e (100 * (a.credit * x.duration * x.spread * x.spread_rise)) (10 ^ 9)

-- "floor and ceiling root of L² × (H × (320 + 3d)² + 92,160,000) ÷ (256,000,000 × H), d the age gap in months"
abbrev pub mortality : ℕ → ℕ → ℕ
mortality h d = h * ((320 + 3 * d) * (320 + 3 * d)) + 92160000

-- S6
abbrev pub mortality_loss : (End → ℕ) → People → End → ℕ
mortality_loss l p e = root e (l e * l e * mortality p.heads (age_gap p)) (256000000 * p.heads)

-- "S: floor and ceiling root from the lower or upper S1 to S6.", over 1,000 for the correlation in thousandths
abbrev pub buffer : End → ℕ → ℕ → ℕ → ℕ → ℕ → ℕ → ℕ → ℕ
buffer e correlation s1 s2 s3 s4 s5 s6 =
    root e
    (1000 * (s1 * s1 + s2 * s2 + s3 * s3 + s4 * s4 + s5 * s5 + s6 * s6) + 2 * correlation * (s1 * s2))
    1000

-- S, from the parts of the six losses
abbrev pub buffer_of : (Move → End → ℕ) → (Move → End → ℕ) → Amounts → Shocks → People → End → ℕ
buffer_of l b a x p e =
    buffer e x.correlation (interest_loss l b e) (equity_loss a x e) (currency_loss a x e) (commodity_loss a x e) (credit_loss a x e)
    (mortality_loss (l base) p e)

-- "DEKKINGSTEKORT if 20 × upper A < 21 × lower L. Else, if 20 × lower A is at least 21 × upper L: RESERVETEKORT if upper A < lower L +
-- lower S, VRIJ VERMOGEN if lower A reaches upper L + upper S. Else ONBESLIST, which is undecided."
unfoldable pub judge : (End → ℕ) → (End → ℕ) → (End → ℕ) → Verdict
judge a l s =
    let by_buffer =
    if nat_lt (a high) (l low + s low) then Reservetekort
    else if nat_le (l high + s high) (a low) then VrijVermogen
    else Onbeslist in
    if nat_lt (20 * a high) (21 * l low) then Dekkingstekort
    else if nat_le (21 * l high) (20 * a low) then by_buffer
    else Onbeslist

-- the ten brackets, and the verdict
abbrev pub figures_of : (Move → End → ℕ) → (Move → End → ℕ) → Amounts → Shocks → People → Figures
figures_of l b a x p = record {
  l = bracket (l base);
  b = bracket (b base);
  a = bracket (assets (b base) a);
  s1 = bracket (interest_loss l b);
  s2 = bracket (equity_loss a x);
  s3 = bracket (currency_loss a x);
  s4 = bracket (commodity_loss a x);
  s5 = bracket (credit_loss a x);
  s6 = bracket (mortality_loss (l base) p);
  s = bracket (buffer_of l b a x p);
}

abbrev pub verdict_of : (Move → End → ℕ) → (Move → End → ℕ) → Amounts → Shocks → People → Verdict
verdict_of l b a x p = judge (assets (b base) a) (l base) (buffer_of l b a x p)

-- All of these of a case, by the letters of the figures
abbrev pub L : FileCase → Move → End → ℕ
L k m e = worth e (factor (curve k m) e) 1 k.pension

-- bond flows at every term use the bond factor, on all three curves (METHOD, Bonds off the adjusted curve)
abbrev pub B : FileCase → Move → End → ℕ
B k m e = worth e (unadjusted (curve k m) e) 1 k.bonds

abbrev pub A : FileCase → End → ℕ
A k = assets (B k base) k.amounts

abbrev pub fall : FileCase → Move → End → ℕ
fall k m = fall_of (L k base) (B k base) (L k m) (B k m)

abbrev pub S1 : FileCase → End → ℕ
S1 k = interest_loss (L k) (B k)

abbrev pub S2 : FileCase → End → ℕ
S2 k = equity_loss k.amounts k.shocks

abbrev pub S3 : FileCase → End → ℕ
S3 k = currency_loss k.amounts k.shocks

abbrev pub S4 : FileCase → End → ℕ
S4 k = commodity_loss k.amounts k.shocks

abbrev pub S5 : FileCase → End → ℕ
S5 k = credit_loss k.amounts k.shocks

abbrev pub S6 : FileCase → End → ℕ
S6 k = mortality_loss (L k base) k.people

abbrev pub S : FileCase → End → ℕ
S k = buffer_of (L k) (B k) k.amounts k.shocks k.people

abbrev pub figures : FileCase → Figures
figures k = figures_of (L k) (B k) k.amounts k.shocks k.people

abbrev pub verdict : FileCase → Verdict
verdict k = verdict_of (L k) (B k) k.amounts k.shocks k.people
