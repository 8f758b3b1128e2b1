-- The page to open first: what is promised of a valuation. All of it has to be believed. `Call file factors rates` is what holds of every call
-- `value(file, factors, rates)`; its contract says that it answers `valuation_of (length factors) (length rates) file`, that it leaves
-- `factors_after file factors rates` and `rates_after file factors rates` in the buffers, and that `Call file factors rates` holds. So nothing
-- is asked of a host: that the file is a list of bytes is known of the lent slice, whose type is `&[u8]`. `FiguresCall file` is the same of a
-- file that is valued without buffers. Behind them stands each promise of every file and of every case within the limits: it is the contract of
-- a function of the crate `promises`. proofs/Plain.antt uses each once more in plain numbers, so that a record that says less is refused.
use Rattle.std.specs.Prelude.{ℕ, suc, false, Some, ◌+◌, ◌*◌, ◌≤◌, ◌<◌, ◌≡◌, ◌≢◌, ◌⊎◌, List, ℤ, pos, ◌+ℤ◌, ◌≤ℤ◌, length, slice_index, slice_index_or, drop, Result, Ok, Err}
use Rattle.refusal.specs.declared.Refusal.{Refusal}
use Rattle.arith.specs.Rounding.{End, low, high}
use Rattle.arith.specs.Brackets.{end_of}
use Rattle.model.specs.Constants.{default_equity_correlation, unit, last_market_term, last_term}
use Rattle.model.specs.Numbers.{Bytes}
use Rattle.model.specs.Case.{FileCase}
use Rattle.model.specs.Limits.{Between, WithinLimits}
use Rattle.model.specs.Layout.{Keeps, stands, file_map, case_of}
use Rattle.model.specs.Refusals.{failing, checks, refusal}
use Rattle.model.specs.declared.figures.Valuation.{Valuation}
use Rattle.model.specs.declared.figures.Verdict.TheVariants.{Onbeslist}
use Rattle.method.specs.Fraction.{◌*ᶠ◌, whole, Real}
use Rattle.method.specs.Curve.{Move, base, curve, P}
use Rattle.method.specs.Exact as Exact
use Rattle.method.specs.Rounded as Rounded
use Rattle.method.specs.EquityClasses.{SummedValuation, Summed}
use Rattle.method.specs.Margins.{NearFirst, NearSecond, first_margin, second_margin}
use Rattle.method.specs.Containment.{Given, ContainmentAndWidth, In, SquareIn, RootedSquareIn, RateBounds, WideAtMost, least_step, most_step, factor_width_most, rate_width_most}
use Rattle.method.specs.Containment.{L_width_most, B_width_most, A_width_most, S_width_most}
use Rattle.method.specs.Buffers.{valuation_checks, valuation_refusal, valuation_of, answered, refusal_number, factors_after, rates_after, entry_of, rate_entry_of}

-- ---- a call with both buffers

-- what a call gives: the figures and the verdict of its answer, and what stands in both buffers after it
abbrev pub given : Valuation → List ℕ → List ℤ → Given
given v factors rates = record {
  figures = v.figures;
  verdict = v.verdict;
  factor = entry_of factors;
  rate = rate_entry_of rates;
}

-- a valuation that is refused, and what both buffers hold before and after it: "A refusal .. changes nothing lent."
pub record Untouched (r : Refusal) (answer : Result Valuation Refusal) (factors factors_after : List ℕ) (rates rates_after : List ℤ) : Type 0 where
  pub answered : answer ≡ Err r
  pub factors_kept : factors_after ≡ factors
  pub rates_kept : rates_after ≡ rates

-- a case that is valued, whatever it came from, and what both buffers hold before and after it
pub record CaseValued (k : FileCase) (answer : Result Valuation Refusal) (factors factors_after : List ℕ) (rates rates_after : List ℤ) : Type 0 where
  pub factors_enough : 240 ≤ length factors
  pub rates_enough : 240 ≤ length rates
  pub within : WithinLimits k
  -- "every figure, and the verdict, is that of its rounded working"
  pub answered : answer ≡ Ok (record { figures = Rounded.figures k; verdict = Rounded.verdict k })
  -- entries 0 to 239: lower, upper, term by term; later entries keep their content
  pub lower_factor : (t : ℕ) → t < 120 → slice_index factors_after (2 * t) ≡ Rounded.factor (curve k base) low (suc t)
  pub upper_factor : (t : ℕ) → t < 120 → slice_index factors_after (2 * t + 1) ≡ Rounded.factor (curve k base) high (suc t)
  pub lower_rate : (t : ℕ) → t < 120 → slice_index_or rates_after (2 * t) (pos 0) ≡ Rounded.zero_rate (curve k base) low (suc t)
  pub upper_rate : (t : ℕ) → t < 120 → slice_index_or rates_after (2 * t + 1) (pos 0) ≡ Rounded.zero_rate (curve k base) high (suc t)
  pub later_factors : drop 240 factors_after ≡ drop 240 factors
  pub later_rates : drop 240 rates_after ≡ drop 240 rates
  -- containment, widths and the verdict, of the very figures and verdict that are answered and of the entries that are written
  pub containment_and_width : (v : Valuation) → answer ≡ Ok v → ContainmentAndWidth k (given v factors_after rates_after)
  -- where the equity classes fall together, S2 is their sum, and S and the verdict are those with that sum
  pub summed : k.shocks.equity_correlation ≡ default_equity_correlation → (v : Valuation) → answer ≡ Ok v → SummedValuation k v

-- a refused call: the answer is the first of its checks that fails, "and every lent buffer then holds what it held"
abbrev pub RefusedCall : Refusal → List ℕ → List ℕ → List ℤ → Type 0
RefusedCall r file factors rates =
    Untouched r (valuation_of (length factors) (length rates) file) factors (factors_after file factors rates) rates (rates_after file factors rates)

-- an accepted one: the file keeps the layout and limits, and the case that it is the bytes of is valued
pub record AcceptedCall (file : List ℕ) (factors : List ℕ) (rates : List ℤ) : Type 0 where
  pub keeps : Keeps file
  pub held : keeps.held ≡ case_of file
  pub valued :
      CaseValued (case_of file) (valuation_of (length factors) (length rates) file)
      factors (factors_after file factors rates) rates (rates_after file factors rates)
  -- "A file without this field gives every figure that it gave before the field was there."
  pub without_equity_field : stands 8 (file_map file) ≡ false
      → (v : Valuation) → valuation_of (length factors) (length rates) file ≡ Ok v → SummedValuation (case_of file) v

-- whether a call is accepted: where both buffers are long enough, "a file is accepted exactly when it keeps the layout and limits there"
pub record AcceptedExactly (file : List ℕ) (factors : List ℕ) (rates : List ℤ) : Type 0 where
  pub keeps_accepted : 240 ≤ length factors → 240 ≤ length rates → Keeps file → valuation_refusal (length factors) (length rates) file ≡ 0
  pub accepted_keeps : valuation_refusal (length factors) (length rates) file ≡ 0 → Keeps file

-- every call
pub record Call (file : List ℕ) (factors : List ℕ) (rates : List ℤ) : Type 0 where
  pub bytes : Bytes file
  -- the number of an answer: 0 for a case that is valued
  pub number : refusal_number (valuation_of (length factors) (length rates) file) ≡ valuation_refusal (length factors) (length rates) file
  pub refused : (r : Refusal) → failing (valuation_checks (length factors) (length rates) file) ≡ Some r → RefusedCall r file factors rates
  pub accepted : valuation_refusal (length factors) (length rates) file ≡ 0 → AcceptedCall file factors rates
  pub exactly : AcceptedExactly file factors rates

-- ---- a file that is valued without buffers

-- what its answer gives; the factors and zero rates are those of the rounded working, from which its money is reckoned
abbrev pub figures_given : Valuation → FileCase → Given
figures_given v k = record {
  figures = v.figures;
  verdict = v.verdict;
  factor = Rounded.factor (curve k base);
  rate = Rounded.zero_rate (curve k base);
}

pub record FiguresCall (file : List ℕ) : Type 0 where
  pub bytes : Bytes file
  -- every refusal that is the first of the file's checks that fail is the answer
  pub refused : (r : Refusal) → failing (checks file) ≡ Some r → answered (failing (checks file)) (case_of file) ≡ Err r
  -- "a file is accepted exactly when it keeps the layout and limits there", and the case that is valued is the one that it holds
  pub keeps_accepted : Keeps file → refusal file ≡ 0
  pub accepted_keeps : refusal file ≡ 0 → Keeps file
  pub held : (x : Keeps file) → case_of file ≡ x.held
  -- "every figure, and the verdict, is that of its rounded working"
  pub answer : refusal file ≡ 0
      → answered (failing (checks file)) (case_of file) ≡ Ok (record { figures = Rounded.figures (case_of file); verdict = Rounded.verdict (case_of file) })
  -- containment and width, of the very figures and verdict that are answered
  pub containment_and_width : (v : Valuation) → answered (failing (checks file)) (case_of file) ≡ Ok v → ContainmentAndWidth (case_of file) (figures_given v (case_of file))
  -- "A file without this field gives every figure that it gave before the field was there."
  pub without_equity_field : stands 8 (file_map file) ≡ false
      → (v : Valuation) → answered (failing (checks file)) (case_of file) ≡ Ok v → SummedValuation (case_of file) v

-- ---- the promises: of calls

-- every call, of every list of bytes and all buffers
pub record EveryCall : Type 0 where
  pub call : (file : List ℕ) (factors : List ℕ) (rates : List ℤ) → Bytes file → Call file factors rates

-- "every lent buffer then holds what it held": after every refusal, also that of a buffer
pub record RefusedCallsChangeNothing : Type 0 where
  pub refused : (r : Refusal) (file factors : List ℕ) (rates : List ℤ)
      → failing (valuation_checks (length factors) (length rates) file) ≡ Some r → RefusedCall r file factors rates

-- "every figure, and the verdict, is that of its rounded working": of the answer, and of the entries of both buffers
pub record AcceptedCallsGiveTheRoundedWorking : Type 0 where
  pub accepted : (file factors : List ℕ) (rates : List ℤ) → Bytes file
      → valuation_refusal (length factors) (length rates) file ≡ 0 → AcceptedCall file factors rates

-- every file that is valued without buffers
pub record EveryFiguresCall : Type 0 where
  pub call : (file : List ℕ) → Bytes file → FiguresCall file

-- ---- the promises: of cases, each of every case within the limits and of the case of every accepted file

pub record OfEvery (Sentence : FileCase → Type 0) : Type 0 where
  pub within_limits : (k : FileCase) → WithinLimits k → Sentence k
  pub accepted : (file : List ℕ) → refusal file ≡ 0 → Sentence (case_of file)

-- "Then each exact figure lies in its bracket: the factor and the zero rate of every term from 1 to 120, L, B, A, S1 to S6 and S."
pub record FactorsLieInTheirBrackets (k : FileCase) : Type 0 where
  pub factor : (t : ℕ) → 1 ≤ t → t ≤ last_term → In (λ e. Rounded.factor (curve k base) e t) (whole unit *ᶠ Exact.factor (curve k base) t)

pub record ZeroRatesLieInTheirBrackets (k : FileCase) : Type 0 where
  pub rate : (e : End) (t : ℕ) → 1 ≤ t → t ≤ last_term → RateBounds e (Rounded.zero_rate (curve k base) e t) t (Exact.product (curve k base) t)

pub record MoneyLiesInItsBrackets (k : FileCase) : Type 0 where
  pub LIn : In (end_of (Rounded.figures k).l) (Exact.L k base)
  pub BIn : In (end_of (Rounded.figures k).b) (Exact.B k base)
  pub AIn : In (end_of (Rounded.figures k).a) (Exact.A k)
  pub S1In : In (end_of (Rounded.figures k).s1) (Exact.S1 k)
  pub S2In : SquareIn (end_of (Rounded.figures k).s2) (Exact.S2² k)
  pub S3In : In (end_of (Rounded.figures k).s3) (Exact.S3 k)
  pub S4In : In (end_of (Rounded.figures k).s4) (Exact.S4 k)
  pub S5In : In (end_of (Rounded.figures k).s5) (Exact.S5 k)
  pub S6In : SquareIn (end_of (Rounded.figures k).s6) (Exact.S6² k)
  pub SIn : RootedSquareIn (end_of (Rounded.figures k).s) (Exact.S² k)

-- "From lower to upper end, the factor of term t is at most 4 × t × t units wide, a zero rate at most 2 steps, the liabilities L at most WL
-- cents, bonds B and assets A at most WB each, the buffer S at most 3 × WL + 2 × WB + 8."
pub record FactorsAreNarrow (k : FileCase) : Type 0 where
  pub factor : (t : ℕ) → 1 ≤ t → t ≤ last_term
      → Rounded.factor (curve k base) high t ≤ Rounded.factor (curve k base) low t + factor_width_most t

pub record ZeroRatesAreNarrow (k : FileCase) : Type 0 where
  pub rate : (t : ℕ) → 1 ≤ t → t ≤ last_term
      → Rounded.zero_rate (curve k base) high t ≤ℤ (Rounded.zero_rate (curve k base) low t +ℤ pos rate_width_most)

pub record MoneyIsNarrow (k : FileCase) : Type 0 where
  pub LWidth : WideAtMost (L_width_most k) (Rounded.figures k).l
  pub BWidth : WideAtMost (B_width_most k) (Rounded.figures k).b
  pub AWidth : WideAtMost (A_width_most k) (Rounded.figures k).a
  pub SWidth : WideAtMost (S_width_most k) (Rounded.figures k).s

-- "Each verdict given, other than undecided, is the exact one."
pub record VerdictsAreExact (k : FileCase) : Type 0 where
  pub right : Rounded.verdict k ≢ Onbeslist → Rounded.verdict k ≡ Exact.verdict k

-- undecided is said only within the margins of a border
pub record UndecidedOnlyNearABorder (k : FileCase) : Type 0 where
  pub margin : Rounded.verdict k ≡ Onbeslist
      → NearFirst (first_margin k) (Exact.A k) (Exact.L k base)
      ⊎ NearSecond (second_margin k) (Exact.A k) (Exact.L k base) (Exact.S² k)

-- where the equity classes fall together, S2 is the sum of their losses in both workings, and S and the verdict are those with that sum
pub record TogetherTheClassesAreSummed : Type 0 where
  pub within_limits : (k : FileCase) → WithinLimits k → k.shocks.equity_correlation ≡ default_equity_correlation → Summed k
  -- "A file without this field gives every figure that it gave before the field was there."
  pub without_field : (file : List ℕ) → refusal file ≡ 0 → stands 8 (file_map file) ≡ false → Summed (case_of file)

-- no exact factor or value is a fraction over 0, no P(t) is cut off at 0, and both zero rates of every term are found
pub record NothingIsCutOff (k : FileCase) : Type 0 where
  pub product_real : (m : Move) (t : ℕ) → t ≤ last_term → (0 < (Exact.product (curve k m) t).num) × Real (Exact.product (curve k m) t)
  pub value_real : (m : Move) → Real (Exact.L k m) × Real (Exact.B k m)
  pub P_uncut : (m : Move) (t : ℕ) → t ≤ last_market_term → pos (P (curve k m) t) ≡ pos (curve k m).N +ℤ (curve k m).sum t
  pub rate_found : (e : End) (t : ℕ) → 1 ≤ t → t ≤ last_term → Between least_step most_step (Rounded.zero_rate (curve k base) e t)

-- what is given of a case is its rounded working's: ten brackets, a verdict, and the ends of the factor and of the zero rate of each term
pub record IsRounded (k : FileCase) (given : Given) : Type 0 where
  pub figures : given.figures ≡ Rounded.figures k
  pub verdict : given.verdict ≡ Rounded.verdict k
  pub factor : (e : End) (t : ℕ) → 1 ≤ t → t ≤ last_term → given.factor e t ≡ Rounded.factor (curve k base) e t
  pub rate : (e : End) (t : ℕ) → 1 ≤ t → t ≤ last_term → given.rate e t ≡ Rounded.zero_rate (curve k base) e t

-- containment and width whole, of whatever is given by the rounded working
pub record ExactWorkingIsContained (k : FileCase) : Type 0 where
  pub given : (g : Given) → IsRounded k g → ContainmentAndWidth k g
