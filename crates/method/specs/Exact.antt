-- The exact working, over fractions (METHOD, The exact working). The curve is that of DNB's note of 2012, steps 2 to 4, and the mortality
-- margin that of den Butter's thesis of 2007, section 9.3 (METHOD, Sources). Money is in cents.
use Rattle.std.specs.Prelude.{ℕ, zero, suc, ◌+◌, ◌*◌, ◌-◌, if◌then◌else◌, List, [], ◌∷◌, nat_le}
use Rattle.model.specs.Constants.{steps_per_one, last_unweighed_term, last_market_term}
use Rattle.method.specs.Fraction.{Fraction, ◌//◌, ◌+ᶠ◌, ◌∸ᶠ◌, ◌*ᶠ◌, ◌÷ᶠ◌, ◌^ᶠ◌, square, whole, less, larger, Rooted, rooted_at_most}
use Rattle.model.specs.Case.{FileCase, all_except_currency, age_gap}
use Rattle.method.specs.Curve.{Curve, Move, base, up, down, curve, P, weight}
use Rattle.model.specs.declared.figures.Verdict.{Verdict}
use Rattle.model.specs.declared.figures.Verdict.TheVariants.{Dekkingstekort, Reservetekort, VrijVermogen}

-- 1 + R(t), where R(t) = s(t) ÷ (100,000 × n); and 1 + UFR
abbrev pub one_plus_r : Curve → ℕ → Fraction
one_plus_r c t = P c t // c.N

abbrev pub one_plus_ufr : Curve → Fraction
one_plus_ufr c = (steps_per_one + c.ufr) // steps_per_one

-- "G(t) = (1 + R(t))^t ÷ (1 + R(t-1))^(t-1)"
unfoldable pub G : Curve → ℕ → Fraction
G c t = (one_plus_r c t ^ᶠ t) ÷ᶠ (one_plus_r c (t - 1) ^ᶠ (t - 1))

-- "(1 - w) × G(t) + w × (1 + UFR)"
unfoldable pub weighed : Curve → ℕ → Fraction
weighed c t = ((1000 - weight t) // 1000) *ᶠ G c t +ᶠ (weight t // 1000) *ᶠ one_plus_ufr c

-- "the adjusted growth is G(t) up to 20, .. for 21 to 60, and 1 + UFR for 61 to 120"
unfoldable pub growth : Curve → ℕ → Fraction
growth c t = if nat_le t last_unweighed_term then G c t else if nat_le t last_market_term then weighed c t else one_plus_ufr c

-- "the product of growths 1 to t", of any growths
unfoldable pub product_of : (ℕ → Fraction) → ℕ → Fraction
product_of growth zero = whole 1
product_of growth (suc t) = product_of growth t *ᶠ growth (suc t)

-- of the adjusted growths. The zero rate is "the number above -1 whose (1 + rate)^t is that product".
abbrev pub product : Curve → ℕ → Fraction
product c = product_of (growth c)

-- "Factor: one over the product of growths 1 to t."
unfoldable pub factor : Curve → ℕ → Fraction
factor c t = whole 1 ÷ᶠ product c t

-- The factor that bond flows use (METHOD, Bonds off the adjusted curve): the rule of the adjusted factors up to term 20, at every term to
-- 60. Up to 20 no growth is adjusted, so this is one over the product of the growths G(1) to G(t), and no UFR is in it.
unfoldable pub unadjusted : Curve → ℕ → Fraction
unadjusted c t = whole 1 ÷ᶠ product_of (G c) t

-- "flows times factors", by the factors of the terms, the first flow at term t
unfoldable pub worth : (ℕ → Fraction) → ℕ → List ℕ → Fraction
worth factors t [] = whole 0
worth factors t (euros ∷ flows) = whole (100 * euros) *ᶠ factors t +ᶠ worth factors (suc t) flows

abbrev pub L : FileCase → Move → Fraction
L k m = worth (factor (curve k m)) 1 k.pension

-- "every bond flow the bond factor of its term", on all three curves
abbrev pub B : FileCase → Move → Fraction
B k m = worth (unadjusted (curve k m)) 1 k.bonds

-- "B plus all amounts except currency exposure"
abbrev pub A : FileCase → Fraction
A k = B k base +ᶠ whole (100 * all_except_currency k.amounts)

-- the fall of B - L from the base curve to another, (B - L) - (B' - L'), or 0 if it does not fall
abbrev pub fall : FileCase → Move → Fraction
fall k m = (B k base +ᶠ L k m) ∸ᶠ (B k m +ᶠ L k base)

-- "the larger fall of B - L from the base curve to the up or the down curve, or 0 if neither falls"
abbrev pub S1 : FileCase → Fraction
S1 k = larger (whole 0) (larger (fall k up) (fall k down))

-- an amount in euros times thousandths
abbrev pub loss : ℕ → ℕ → Fraction
loss euros thousandths = whole (100 * euros) *ᶠ (thousandths // 1000)

-- of the losses of the four equity and property classes, the sum of their squares and that of the products of their six pairs
abbrev pub squares_of : Fraction → Fraction → Fraction → Fraction → Fraction
squares_of m e v p = square m +ᶠ square e +ᶠ square v +ᶠ square p

abbrev pub pairs_of : Fraction → Fraction → Fraction → Fraction → Fraction
pairs_of m e v p = m *ᶠ e +ᶠ m *ᶠ v +ᶠ m *ᶠ p +ᶠ e *ᶠ v +ᶠ e *ᶠ p +ᶠ v *ᶠ p

-- the square of S2, "the root of the sum of the squares of the four class losses, plus twice the equity correlation times the product of
-- each pair"
abbrev pub S2² : FileCase → Fraction
S2² k =
    let a = k.amounts in
    let x = k.shocks in
    let mature = loss a.mature x.mature_fall in
    let emerging = loss a.emerging x.emerging_fall in
    let private = loss a.private x.private_fall in
    let property = loss a.property x.property_fall in
    squares_of mature emerging private property
    +ᶠ ((2 * x.equity_correlation) // 1000) *ᶠ pairs_of mature emerging private property

-- "S3: the currency exposure times its thousandths. S4: commodities likewise."
abbrev pub S3 : FileCase → Fraction
S3 k = loss k.amounts.currency k.shocks.currency_fall

abbrev pub S4 : FileCase → Fraction
S4 k = loss k.amounts.commodities k.shocks.commodities_fall

-- "credit × duration × spread × spread rise, not capped"; tenths of a year, steps, thousandths
abbrev pub S5 : FileCase → Fraction
S5 k =
    let x = k.shocks in
    whole (100 * k.amounts.credit) *ᶠ (x.duration // 10) *ᶠ (x.spread // steps_per_one) *ᶠ (x.spread_rise // 1000)

-- "TSO = 2 + 9/40 × years by which pension age exceeds mean age (0 if it doesn't)", and the square of "NSA = 60 ÷ root of H", in percent
abbrev pub TSO : FileCase → Fraction
TSO k = whole 2 +ᶠ (9 // 40) *ᶠ (age_gap k.people // 12)

abbrev pub NSA² : FileCase → Fraction
NSA² k = 3600 // k.people.heads

-- the square of "L × the root of (TSO² + NSA²), in percent"
abbrev pub S6² : FileCase → Fraction
S6² k = square (L k base) *ᶠ ((square (TSO k) +ᶠ NSA² k) ÷ᶠ whole (100 * 100))

-- the square of "the root of S1² + S2² + 2 × correlation × S1 × S2 + S3² + S4² + S5² + S6²", which holds a root itself: S2, with the factor
-- 2 × correlation × S1
abbrev pub S² : FileCase → Rooted
S² k = record {
  plain = square (S1 k) +ᶠ S2² k +ᶠ square (S3 k) +ᶠ square (S4 k) +ᶠ square (S5 k) +ᶠ S6² k;
  factor = ((2 * k.shocks.correlation) // 1000) *ᶠ S1 k;
  under = S2² k;
}

-- "DEKKINGSTEKORT if 20 × A < 21 × L; else RESERVETEKORT if A < L + S; else VRIJ VERMOGEN", by A, L and S².
-- A < L + S is (A - L)² < S², since A is at least L where 20 × A is at least 21 × L: A below L cannot reach the squares. S² holds a root,
-- so it is compared "by squaring twice".
unfoldable pub judge : Fraction → Fraction → Rooted → Verdict
judge a l s² =
    if less (whole 20 *ᶠ a) (whole 21 *ᶠ l) then Dekkingstekort
    else if rooted_at_most s² (square (a ∸ᶠ l)) then VrijVermogen
    else Reservetekort

abbrev pub verdict : FileCase → Verdict
verdict k = judge (A k) (L k base) (S² k)
