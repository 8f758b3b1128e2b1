-- Each promise of specs/Promises.antt used once in plain numbers, at its largest and its smallest, and containment and width in whole
-- numbers: fractions multiplied out, and each number written where it is used. Nothing else rests on this. It is here so that a promise
-- that said less (a range that begins later, a bracket that may be wider, a premise more, a field less) would not give it. Assumes nothing.
use Prim.Native.Nat.{ℕ, ◌+◌, ◌-◌, ◌*◌, ◌^◌, ◌≤◌, ◌<◌}
use mathlib.Core.Path.{◌≡◌, ap, sym, ◌∙◌}
use mathlib.Core.List.{List}
use mathlib.Core.Logic.{◌≢◌, ◌⊎◌}
use native.Mathlib.Omega.{arith}
use native.Mathlib.Nat.{mul-one, one-mul}
use lib.IntN.{ℤ, pos, neg_ℤ, ◌+ℤ◌}
use lib.ListN.{length, get_or}
use lib.Signed.{◌≤ℤ◌, ◌<ℤ◌}
use Rattle.std.proofs.lemmas.List.{get_or-drop}
use Rattle.std.specs.Prelude.{Some, Ok, Err}
use Rattle.refusal.specs.declared.Refusal.{Refusal}
use Rattle.arith.specs.Rounding.{End, low, high}
use Rattle.model.specs.Limits.{WithinLimits}
use Rattle.model.specs.Layout.{Keeps, case_of}
use Rattle.model.specs.Refusals.{failing, checks, refusal}
use Rattle.method.specs.Fraction.{Fraction, ◌+ᶠ◌, ◌∸ᶠ◌, ◌*ᶠ◌, square, whole, ◌≤ᶠ◌, Rooted, ◌≤ʳ◌, ◌ʳ≤◌}
use Rattle.model.specs.Case.{FileCase}
use Rattle.method.specs.Curve.{Move, base, curve, natural, P}
use Rattle.method.specs.Exact as Exact
use Rattle.method.specs.Rounded as Rounded
use Rattle.arith.specs.Brackets.{end_of}
use Rattle.method.specs.Margins.{WL, WB, NearFirst, NearSecond}
use Rattle.method.specs.Containment.{In, RootedSquareIn, RateBounds, Given, ContainmentAndWidth}
use Rattle.method.specs.Buffers.{valuation_checks, valuation_refusal, valuation_of, answered, refusal_number, factors_after, rates_after}
use Rattle.method.specs.Promises.{given, figures_given, AcceptedCall, Call, FiguresCall}
use Rattle.method.specs.Promises.{EveryCall, RefusedCallsChangeNothing, AcceptedCallsGiveTheRoundedWorking, EveryFiguresCall, OfEvery, ExactWorkingIsContained}
use Rattle.method.specs.Promises.{FactorsLieInTheirBrackets, ZeroRatesLieInTheirBrackets, MoneyLiesInItsBrackets}
use Rattle.method.specs.Promises.{FactorsAreNarrow, ZeroRatesAreNarrow, MoneyIsNarrow}
use Rattle.method.specs.Promises.{VerdictsAreExact, UndecidedOnlyNearABorder, NothingIsCutOff}
use Rattle.model.specs.declared.figures.Valuation.{Valuation}
use Rattle.model.specs.declared.figures.Figures.{Figures}
use Rattle.model.specs.declared.figures.Verdict.TheVariants.{Onbeslist}

-- ---- containment and width

-- a fraction between two numbers that count it, `scale` to 1
abbrev Held : ℕ → ℕ → ℕ → Fraction → Type 0
Held scale l u x = (0 < x.den) × (l * x.den ≤ scale * x.num) × (scale * x.num ≤ u * x.den)

held : (b : End → ℕ) (x : Fraction) → In b x → Held 1 (b low) (b high) x
held b x h = ((h low).real, omega (arith, (h low).order), omega (arith, (h high).order))

-- the same of a factor, which counts 10^-12
held-units : (b : End → ℕ) (x : Fraction) → In b (whole 1000000000000 *ᶠ x) → Held 1000000000000 (b low) (b high) x
held-units b x h = (
  (let r = (h low).real in omega (arith, r)),
  (let o = (h low).order in omega (arith, o)),
  (let o = (h high).order in omega (arith, o)),
)

-- n ÷ d + (f ÷ g) × the root of m ÷ k, between two whole numbers: the differences from n ÷ d are squared
abbrev HeldRooted : ℕ → ℕ → Rooted → Type 0
HeldRooted l u r =
    let n = r.plain.num in
    let d = r.plain.den in
    let f = r.factor.num in
    let g = r.factor.den in
    let m = r.under.num in
    let k = r.under.den in
    ((0 < d) × (0 < g) × (0 < k))
    × ((l * d - n) * (l * d - n) * (g * g * k) ≤ f * f * m * (d * d))
    × (n ≤ u * d)
    × (f * f * m * (d * d) ≤ (u * d - n) * (u * d - n) * (g * g * k))

held-rooted : (b : End → ℕ) (r : Rooted) → RootedSquareIn b r → HeldRooted (b low * b low) (b high * b high) r
held-rooted b r h =
    let n = r.plain.num in
    let d = r.plain.den in (
      (h low).real,
      rw (mul-one n, one-mul d) at (h low).order,
      (let o = (h high).order.0 in omega (arith, o)),
      rw (mul-one n, one-mul d) at (h high).order.1,
    )

-- a product between the powers of two rates, which count steps
abbrev Compounds : ℤ → ℤ → ℕ → Fraction → Type 0
Compounds l u t x =
    (neg_ℤ (pos 100000) <ℤ l) × (neg_ℤ (pos 100000) <ℤ u) × (0 < x.den)
    × (natural (pos 100000 +ℤ l) ^ t * x.den ≤ x.num * 100000 ^ t) × (x.num * 100000 ^ t ≤ natural (pos 100000 +ℤ u) ^ t * x.den)

compounds : (z : End → ℤ) (t : ℕ) (x : Fraction) → ((e : End) → RateBounds e (z e) t x) → Compounds (z low) (z high) t x
compounds z t x h = ((h low).above_minus_one, (h high).above_minus_one, (h low).real, (h low).order, (h high).order)

-- the margins, a side each
near-first : (m : ℕ) (a l : Fraction) → NearFirst m a l
    → (whole 20 *ᶠ a ≤ᶠ whole 21 *ᶠ l +ᶠ whole m) × (whole 21 *ᶠ l ≤ᶠ whole 20 *ᶠ a +ᶠ whole m)
near-first m a l n = (n.above, n.below)

near-second : (m : ℕ) (a l : Fraction) (s² : Rooted) → NearSecond m a l s²
    → (square (a ∸ᶠ (l +ᶠ whole m)) ≤ʳ s²) × (l ≤ᶠ a +ᶠ whole m) × (s² ʳ≤ square ((a +ᶠ whole m) ∸ᶠ l))
near-second m a l s² n = (n.above, n.positive, n.below)

-- the money figures in their brackets, and their widths
abbrev MoneyHeld : FileCase → Figures → Type 0
MoneyHeld k v =
    Held 1 v.l.lower v.l.upper (Exact.L k base)
    × Held 1 v.b.lower v.b.upper (Exact.B k base)
    × Held 1 v.a.lower v.a.upper (Exact.A k)
    × Held 1 v.s1.lower v.s1.upper (Exact.S1 k)
    × Held 1 (v.s2.lower * v.s2.lower) (v.s2.upper * v.s2.upper) (Exact.S2² k)
    × Held 1 v.s3.lower v.s3.upper (Exact.S3 k)
    × Held 1 v.s4.lower v.s4.upper (Exact.S4 k)
    × Held 1 v.s5.lower v.s5.upper (Exact.S5 k)
    × Held 1 (v.s6.lower * v.s6.lower) (v.s6.upper * v.s6.upper) (Exact.S6² k)
    × HeldRooted (v.s.lower * v.s.lower) (v.s.upper * v.s.upper) (Exact.S² k)

abbrev MoneyNarrow : FileCase → Figures → Type 0
MoneyNarrow k v =
    (v.l.upper ≤ v.l.lower + WL k)
    × (v.b.upper ≤ v.b.lower + WB k)
    × (v.a.upper ≤ v.a.lower + WB k)
    × (v.s.upper ≤ v.s.lower + (3 * WL k + 2 * WB k + 8))

abbrev Near : FileCase → Type 0
Near k =
    NearFirst (20 * WB k + 21 * WL k) (Exact.A k) (Exact.L k base)
    ⊎ NearSecond (4 * WL k + 3 * WB k + 8) (Exact.A k) (Exact.L k base) (Exact.S² k)

module _ (k : FileCase) (g : Given) (d : ContainmentAndWidth k g) where
  product-above-0 : (m : Move) (t : ℕ) → t < 121 → (0 < (Exact.product (curve k m) t).num) × (0 < (Exact.product (curve k m) t).den)
  product-above-0 m t h = d.product_real m t (omega (arith, h))

  values-real : (m : Move) → (0 < (Exact.L k m).den) × (0 < (Exact.B k m).den)
  values-real m = d.value_real m

  P-is : (m : Move) (t : ℕ) → t < 61 → pos (P (curve k m) t) ≡ pos (curve k m).N +ℤ (curve k m).sum t
  P-is m t h = d.PUncut m t (omega (arith, h))

  factor-held : (t : ℕ) → 0 < t → t < 121 → Held 1000000000000 (g.factor low t) (g.factor high t) (Exact.factor (curve k base) t)
  factor-held t p q = held-units (λ e. g.factor e t) (Exact.factor (curve k base) t) (d.factor_in t (omega (arith, p)) (omega (arith, q)))

  factor-width : (t : ℕ) → 0 < t → t < 121 → g.factor high t ≤ g.factor low t + 4 * (t * t)
  factor-width t p q = let w = d.factor_width t (omega (arith, p)) (omega (arith, q)) in omega (arith, w)

  rate-found : (e : End) (t : ℕ) → 0 < t → t < 121 → (neg_ℤ (pos 2000) ≤ℤ g.rate e t) × (g.rate e t ≤ℤ pos 20000)
  rate-found e t p q = let f = d.rate_found e t (omega (arith, p)) (omega (arith, q)) in (f.least, f.most)

  rate-held : (t : ℕ) → 0 < t → t < 121 → Compounds (g.rate low t) (g.rate high t) t (Exact.product (curve k base) t)
  rate-held t p q =
      compounds (λ e. g.rate e t) t (Exact.product (curve k base) t) (λ e. d.rate_in e t (omega (arith, p)) (omega (arith, q)))

  rate-width : (t : ℕ) → 0 < t → t < 121 → g.rate high t ≤ℤ (g.rate low t +ℤ pos 2)
  rate-width t p q = d.rate_width t (omega (arith, p)) (omega (arith, q))

  money-held : MoneyHeld k g.figures
  money-held = (
    held (end_of g.figures.l) (Exact.L k base) d.LIn,
    held (end_of g.figures.b) (Exact.B k base) d.BIn,
    held (end_of g.figures.a) (Exact.A k) d.AIn,
    held (end_of g.figures.s1) (Exact.S1 k) d.S1In,
    held (λ e. end_of g.figures.s2 e * end_of g.figures.s2 e) (Exact.S2² k) d.S2In,
    held (end_of g.figures.s3) (Exact.S3 k) d.S3In,
    held (end_of g.figures.s4) (Exact.S4 k) d.S4In,
    held (end_of g.figures.s5) (Exact.S5 k) d.S5In,
    held (λ e. end_of g.figures.s6 e * end_of g.figures.s6 e) (Exact.S6² k) d.S6In,
    held-rooted (end_of g.figures.s) (Exact.S² k) d.SIn,
  )

  money-widths : MoneyNarrow k g.figures
  money-widths = (d.LWidth, d.BWidth, d.AWidth, d.SWidth)

  verdict-exact : g.verdict ≢ Onbeslist → g.verdict ≡ Exact.verdict k
  verdict-exact = d.right

  undecided-near : g.verdict ≡ Onbeslist → Near k
  undecided-near = d.margin

-- ---- a call with both buffers

-- with the shortest buffers that are long enough
shortest-buffers : (file : List ℕ) (factors : List ℕ) (rates : List ℤ) → Call file factors rates → length factors ≡ 240 → length rates ≡ 240
    → Keeps file → refusal_number (valuation_of (length factors) (length rates) file) ≡ 0
shortest-buffers file factors rates c f z k = c.number ∙ c.exactly.keeps_accepted (omega (arith, f)) (omega (arith, z)) k

module _ (file : List ℕ) (factors : List ℕ) (rates : List ℤ) (c : Call file factors rates) where
  of-bytes : (i : ℕ) → get_or file i 0 ≤ 255
  of-bytes i = let b = c.bytes.small i in omega (arith, b)

  keeps-layout : valuation_refusal (length factors) (length rates) file ≡ 0 → Keeps file
  keeps-layout h = c.exactly.accepted_keeps h

  gives-its-working : valuation_refusal (length factors) (length rates) file ≡ 0 → AcceptedCall file factors rates
  gives-its-working h = c.accepted h

  -- every refusal, and both buffers
  changes-nothing : (r : Refusal) → failing (valuation_checks (length factors) (length rates) file) ≡ Some r
      → (valuation_of (length factors) (length rates) file ≡ Err r)
      × (factors_after file factors rates ≡ factors)
      × (rates_after file factors rates ≡ rates)
  changes-nothing r e = let n = c.refused r e in (n.answered, n.factors_kept, n.rates_kept)

module _ (file : List ℕ) (factors : List ℕ) (rates : List ℤ) (a : AcceptedCall file factors rates) where
  abbrev k : FileCase
  k = case_of file

  abbrev f : ℕ → ℕ
  f i = get_or (factors_after file factors rates) i 0

  abbrev z : ℕ → ℤ
  z i = get_or (rates_after file factors rates) i (pos 0)

  within-the-limits : WithinLimits k
  within-the-limits = a.valued.within

  long-enough : (239 < length factors) × (239 < length rates)
  long-enough = (omega (arith, a.valued.factors_enough), omega (arith, a.valued.rates_enough))

  holds-its-case : (x : Keeps file) × (x.held ≡ case_of file)
  holds-its-case = (a.keeps, a.held)

  rounded-answer : valuation_of (length factors) (length rates) file ≡ Ok (record { figures = Rounded.figures k; verdict = Rounded.verdict k })
  rounded-answer = a.valued.answered

  -- term 1 and term 120
  first-factors : (f 0 ≡ Rounded.factor (curve k base) low 1) × (f 1 ≡ Rounded.factor (curve k base) high 1)
  first-factors = (a.valued.lower_factor 0 (omega arith), a.valued.upper_factor 0 (omega arith))

  last-factors : (f 238 ≡ Rounded.factor (curve k base) low 120) × (f 239 ≡ Rounded.factor (curve k base) high 120)
  last-factors = (a.valued.lower_factor 119 (omega arith), a.valued.upper_factor 119 (omega arith))

  first-rates : (z 0 ≡ Rounded.zero_rate (curve k base) low 1) × (z 1 ≡ Rounded.zero_rate (curve k base) high 1)
  first-rates = (a.valued.lower_rate 0 (omega arith), a.valued.upper_rate 0 (omega arith))

  last-rates : (z 238 ≡ Rounded.zero_rate (curve k base) low 120) × (z 239 ≡ Rounded.zero_rate (curve k base) high 120)
  last-rates = (a.valued.lower_rate 119 (omega arith), a.valued.upper_rate 119 (omega arith))

  -- buffers of 241 entries: the last one keeps what it held
  later-kept : (f 240 ≡ get_or factors 240 0) × (z 240 ≡ get_or rates 240 (pos 0))
  later-kept = (
    sym (get_or-drop 240 (factors_after file factors rates) 0 0) ∙ ap (λ (l : List ℕ). get_or l 0 0) a.valued.later_factors ∙ get_or-drop 240 factors 0 0,
    sym (get_or-drop 240 (rates_after file factors rates) 0 (pos 0)) ∙ ap (λ (l : List ℤ). get_or l 0 (pos 0)) a.valued.later_rates
        ∙ get_or-drop 240 rates 0 (pos 0),
  )

  -- containment and width, of what is answered and of the entries that stand in both buffers
  module _ (v : Valuation) (e : valuation_of (length factors) (length rates) file ≡ Ok v) where
    abbrev g : Given
    g = given v (factors_after file factors rates) (rates_after file factors rates)

    first-held : Held 1000000000000 (f 0) (f 1) (Exact.factor (curve k base) 1)
    first-held = factor-held k g (a.valued.containment_and_width v e) 1 (omega arith) (omega arith)

    last-held : Held 1000000000000 (f 238) (f 239) (Exact.factor (curve k base) 120)
    last-held = factor-held k g (a.valued.containment_and_width v e) 120 (omega arith) (omega arith)

    last-rate-held : Compounds (z 238) (z 239) 120 (Exact.product (curve k base) 120)
    last-rate-held = rate-held k g (a.valued.containment_and_width v e) 120 (omega arith) (omega arith)

    all-money-held : MoneyHeld k v.figures × MoneyNarrow k v.figures
    all-money-held = (money-held k g (a.valued.containment_and_width v e), money-widths k g (a.valued.containment_and_width v e))

-- ---- a file that is valued without buffers

module _ (file : List ℕ) (c : FiguresCall file) where
  of-bytes-alone : (i : ℕ) → get_or file i 0 ≤ 255
  of-bytes-alone i = let b = c.bytes.small i in omega (arith, b)

  refused-alone : (r : Refusal) → failing (checks file) ≡ Some r → answered (failing (checks file)) (case_of file) ≡ Err r
  refused-alone = c.refused

  exactly-alone : (Keeps file → refusal file ≡ 0) × (refusal file ≡ 0 → Keeps file) × ((x : Keeps file) → case_of file ≡ x.held)
  exactly-alone = (c.keeps_accepted, c.accepted_keeps, c.held)

  figures-alone : refusal file ≡ 0
      → answered (failing (checks file)) (case_of file)
      ≡ Ok (record { figures = Rounded.figures (case_of file); verdict = Rounded.verdict (case_of file) })
  figures-alone = c.answer

  held-alone : (v : Valuation) → answered (failing (checks file)) (case_of file) ≡ Ok v
      → MoneyHeld (case_of file) v.figures × (v.verdict ≡ Onbeslist → Near (case_of file))
  held-alone v e =
      let g = figures_given v (case_of file) in
      (money-held (case_of file) g (c.containment_and_width v e), undecided-near (case_of file) g (c.containment_and_width v e))

  factors-alone : (v : Valuation) → answered (failing (checks file)) (case_of file) ≡ Ok v → (t : ℕ) → 0 < t → t < 121
      → Held 1000000000000 (Rounded.factor (curve (case_of file) base) low t) (Rounded.factor (curve (case_of file) base) high t)
      (Exact.factor (curve (case_of file) base) t)
  factors-alone v e = factor-held (case_of file) (figures_given v (case_of file)) (c.containment_and_width v e)

  rates-alone : (v : Valuation) → answered (failing (checks file)) (case_of file) ≡ Ok v → (t : ℕ) → 0 < t → t < 121
      → Compounds (Rounded.zero_rate (curve (case_of file) base) low t) (Rounded.zero_rate (curve (case_of file) base) high t) t
      (Exact.product (curve (case_of file) base) t)
  rates-alone v e = rate-held (case_of file) (figures_given v (case_of file)) (c.containment_and_width v e)

-- ---- what is promised of every call: with no premise on the buffers, and after every refusal

every-call : EveryCall → (file factors : List ℕ) (rates : List ℤ) → ((i : ℕ) → get_or file i 0 < 256) → Call file factors rates
every-call p file factors rates b = p.call file factors rates (record { small = b })

every-refusal : RefusedCallsChangeNothing → (r : Refusal) (file factors : List ℕ) (rates : List ℤ)
    → failing (valuation_checks (length factors) (length rates) file) ≡ Some r
    → (factors_after file factors rates ≡ factors) × (rates_after file factors rates ≡ rates)
every-refusal p r file factors rates e = let n = p.refused r file factors rates e in (n.factors_kept, n.rates_kept)

every-accepted : AcceptedCallsGiveTheRoundedWorking → (file factors : List ℕ) (rates : List ℤ) → ((i : ℕ) → get_or file i 0 < 256)
    → valuation_refusal (length factors) (length rates) file ≡ 0 → AcceptedCall file factors rates
every-accepted p file factors rates b h = p.accepted file factors rates (record { small = b }) h

every-figures : EveryFiguresCall → (file : List ℕ) → ((i : ℕ) → get_or file i 0 < 256) → FiguresCall file
every-figures p file b = p.call file (record { small = b })

-- ---- what is promised of every case within the limits, and of that of every accepted file

of-every-case : (Sentence : FileCase → Type 0) → OfEvery Sentence
    → ((k : FileCase) → WithinLimits k → Sentence k) × ((file : List ℕ) → refusal file ≡ 0 → Sentence (case_of file))
of-every-case Sentence p = (p.within_limits, p.accepted)

module _ (k : FileCase) where
  abbrev factor_of : End → ℕ → ℕ
  factor_of = Rounded.factor (curve k base)

  abbrev rate_at : End → ℕ → ℤ
  rate_at = Rounded.zero_rate (curve k base)

  all-factors : FactorsLieInTheirBrackets k → (t : ℕ) → 0 < t → t < 121
      → Held 1000000000000 (factor_of low t) (factor_of high t) (Exact.factor (curve k base) t)
  all-factors s t p q = held-units (λ e. factor_of e t) (Exact.factor (curve k base) t) (s.factor t (omega (arith, p)) (omega (arith, q)))

  all-rates : ZeroRatesLieInTheirBrackets k → (t : ℕ) → 0 < t → t < 121
      → Compounds (rate_at low t) (rate_at high t) t (Exact.product (curve k base) t)
  all-rates s t p q =
      compounds (λ e. rate_at e t) t (Exact.product (curve k base) t) (λ e. s.rate e t (omega (arith, p)) (omega (arith, q)))

  all-money : MoneyLiesInItsBrackets k → MoneyHeld k (Rounded.figures k)
  all-money s =
      let v = Rounded.figures k in (
        held (end_of v.l) (Exact.L k base) s.LIn,
        held (end_of v.b) (Exact.B k base) s.BIn,
        held (end_of v.a) (Exact.A k) s.AIn,
        held (end_of v.s1) (Exact.S1 k) s.S1In,
        held (λ e. end_of v.s2 e * end_of v.s2 e) (Exact.S2² k) s.S2In,
        held (end_of v.s3) (Exact.S3 k) s.S3In,
        held (end_of v.s4) (Exact.S4 k) s.S4In,
        held (end_of v.s5) (Exact.S5 k) s.S5In,
        held (λ e. end_of v.s6 e * end_of v.s6 e) (Exact.S6² k) s.S6In,
        held-rooted (end_of v.s) (Exact.S² k) s.SIn,
      )

  narrow-factors : FactorsAreNarrow k
      → (factor_of high 1 ≤ factor_of low 1 + 4) × (factor_of high 60 ≤ factor_of low 60 + 14400) × (factor_of high 120 ≤ factor_of low 120 + 57600)
  narrow-factors s = (s.factor 1 (omega arith) (omega arith), s.factor 60 (omega arith) (omega arith), s.factor 120 (omega arith) (omega arith))

  narrow-rates : ZeroRatesAreNarrow k → (rate_at high 1 ≤ℤ (rate_at low 1 +ℤ pos 2)) × (rate_at high 120 ≤ℤ (rate_at low 120 +ℤ pos 2))
  narrow-rates s = (s.rate 1 (omega arith) (omega arith), s.rate 120 (omega arith) (omega arith))

  narrow-money : MoneyIsNarrow k → MoneyNarrow k (Rounded.figures k)
  narrow-money s = (s.LWidth, s.BWidth, s.AWidth, s.SWidth)

  exact-verdict : VerdictsAreExact k → Rounded.verdict k ≢ Onbeslist → Rounded.verdict k ≡ Exact.verdict k
  exact-verdict s = s.right

  within-margins : UndecidedOnlyNearABorder k → Rounded.verdict k ≡ Onbeslist → Near k
  within-margins s = s.margin

  uncut : NothingIsCutOff k → (m : Move)
      → ((0 < (Exact.product (curve k m) 120).num) × (0 < (Exact.product (curve k m) 120).den))
      × ((0 < (Exact.L k m).den) × (0 < (Exact.B k m).den))
      × (pos (P (curve k m) 60) ≡ pos (curve k m).N +ℤ (curve k m).sum 60)
  uncut s m = (s.product_real m 120 (omega arith), s.value_real m, s.P_uncut m 60 (omega arith))

  found : NothingIsCutOff k → (e : End) (t : ℕ) → 0 < t → t < 121 → (neg_ℤ (pos 2000) ≤ℤ rate_at e t) × (rate_at e t ≤ℤ pos 20000)
  found s e t p q = let r = s.rate_found e t (omega (arith, p)) (omega (arith, q)) in (r.least, r.most)

  -- what is given of a case: its rounded working at the terms 1 to 120, and nothing is asked of other terms
  containment-met : ExactWorkingIsContained k → (g : Given)
      → g.figures ≡ Rounded.figures k
      → g.verdict ≡ Rounded.verdict k
      → ((e : End) (t : ℕ) → 1 ≤ t → t ≤ 120 → g.factor e t ≡ factor_of e t)
      → ((e : End) (t : ℕ) → 1 ≤ t → t ≤ 120 → g.rate e t ≡ rate_at e t)
      → ContainmentAndWidth k g
  containment-met s g figures verdict factor rate = s.given g (record { figures = figures; verdict = verdict; factor = factor; rate = rate })
