-- What is known from one step: of all steps on its far side, since the results fall as the step rises. Assumes nothing.
use Prim.Native.Nat.{ℕ, ◌+◌, ◌<◌}
use native.Mathlib.Omega.{arith}
use Rattle.arith.specs.Rounding.{low, high}
use Rattle.arith.specs.declared.bracket.Bracket.{Bracket}
use Rattle.theory.proofs.curve.RateTests.{tested-anti}
use Rattle.zerorates.specs.inner.Results.{Results}
use Rattle.zerorates.specs.inner.Known.{AboveUntil, BelowFrom, Known}

module _ {bounds : Bracket} {t i : ℕ} (factor : ℕ) (k : Results bounds t i) where
  above-until : factor < bounds.lower → AboveUntil t factor (i + 1)
  above-until h j l = omega (arith, k.lower, tested-anti low t j i (omega arith))

  below-from : bounds.upper < factor → BelowFrom t factor i
  below-from h j l m = omega (arith, k.upper, tested-anti high t i j l)

  pub above-known : factor < bounds.lower → Known t factor (record { lo = i + 1; hi = 22001 })
  above-known h = record { above = above-until h; below = λ j l m. absurd (omega (arith, l, m)) }

  pub below-known : bounds.upper < factor → Known t factor (record { lo = 0; hi = i })
  below-known h = record { above = λ j l. absurd (omega (arith, l)); below = below-from h }
