-- The ranges in which the sums and products of flows, factors, losses, assets and liabilities fit 64 bits, or 128.
use Rattle.std.specs.Prelude.{ℕ, ◌*◌, ◌^◌, ◌≤◌, ◌<◌, List, length, slice_index}
use Rattle.arith.specs.Rounding.{End}
use Rattle.arith.specs.inner.Range.{UpTo}
use Rattle.arith.specs.declared.bracket.Bracket.{Bracket}
use Rattle.curves.specs.declared.three.Three.{Three}
use Rattle.curves.specs.inner.ByTerm.{factor_at}
use Rattle.money.specs.declared.buffer.Losses.{Losses}

-- up to 120 flows of at most 100,000,000 euros
pub record FlowsFit (flows : List ℕ) : Type 0 where
  pub few : length flows ≤ 120
  pub flow : (i : ℕ) → i < length flows → slice_index flows i ≤ 100000000

-- a factor for each of `count` terms, of at most 3.4, which only an unadjusted factor comes near
pub record FactorsFit (factors : List Bracket) (count : ℕ) : Type 0 where
  pub terms : count ≤ length factors
  pub factor : (e : End) (t : ℕ) → 1 ≤ t → t ≤ count → factor_at factors e t ≤ 34 * 10 ^ 11

-- the worth of 120 such flows at such factors
abbrev pub WorthFits : Bracket → Type 0
WorthFits b = UpTo (408 * 10 ^ 10) b

pub record WorthsFit (w : Three Bracket) : Type 0 where
  pub base : WorthFits w.base
  pub up : WorthFits w.up
  pub down : WorthFits w.down

-- the correlation between the four classes of S2, and the loss on each in tenths of a cent
pub record ClassesFit (c m e v p : ℕ) : Type 0 where
  pub correlation : c ≤ 1000
  pub mature : m ≤ 10 ^ 14
  pub emerging : e ≤ 10 ^ 14
  pub private : v ≤ 10 ^ 14
  pub property : p ≤ 10 ^ 14

-- each of the losses S1 to S6
abbrev pub LossFits : Bracket → Type 0
LossFits b = UpTo (50 * 10 ^ 12) b

pub record LossesFit (s : Losses) : Type 0 where
  pub first : LossFits s.s1
  pub second : LossFits s.s2
  pub third : LossFits s.s3
  pub fourth : LossFits s.s4
  pub fifth : LossFits s.s5
  pub sixth : LossFits s.s6

-- the three figures that a verdict goes by
pub record Judgeable (a l s : Bracket) : Type 0 where
  pub assets : UpTo (2 ^ 56) a
  pub liabilities : UpTo (2 ^ 56) l
  pub buffer : UpTo (2 ^ 56) s
