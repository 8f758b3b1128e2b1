-- A case with four-byte days in plain numbers: N, the sums of the shifted curves, the limits of 5 and 6, the map, and where the days and
-- their part are.
-- Assumes nothing.
use Prim.Native.Nat.{ℕ, suc, ◌+◌, ◌*◌, ◌≤◌, ◌<◌}
use mathlib.Core.Path.{◌≡◌, ap, subst}
use mathlib.Core.Bool.{true}
use mathlib.Core.List.{List, []}
use native.Mathlib.Omega.{arith}
use lib.ListN.{length, get_or, take, drop}
use lib.IntN.{pos, neg_ℤ, ◌+ℤ◌, ◌*ℤ◌}
use lib.Signed.{◌≤ℤ◌}
use Rattle.model.specs.Case.{FileCase, per_step, s}
use Rattle.model.specs.Limits.{DaysWithin, WithinLimits, forward}
use Rattle.model.specs.Layout.{stands, file_map}
use Rattle.method.specs.Curve.{Move, up, down, moved_sum, curve}
use Rattle.model.specs.Refusals.{refusal, rates_part, days_at, day_count}
use Rattle.savingmodel.specs.Saving.{shortest}
use Rattle.theory.proofs.acceptance.Acceptance.{accepted-none, days-reach}
use Rattle.theory.proofs.saving.Saved.{saved-once}

module _ (k : FileCase) (four : k.rate_bytes ≡ 4) where
  step_is : per_step k ≡ 100 * length k.days
  unfolding per_step
  step_is = rw four

  -- "N is 10,000,000 × n"
  pub N-is : (m : Move) → (curve k m).N ≡ 10000000 * length k.days
  unfolding curve
  N-is m = omega (arith, step_is)

  -- "a shift adds or takes 100 × n × shift"
  pub up-sum : (t : ℕ) → moved_sum k up (suc t) ≡ s k.days (suc t) +ℤ pos (100 * length k.days) *ℤ pos k.shocks.up_shift
  unfolding moved_sum
  up-sum t = rw step_is

  pub down-sum : (t : ℕ) → moved_sum k down (suc t) ≡ s k.days (suc t) +ℤ pos (100 * length k.days) *ℤ neg_ℤ (pos k.shocks.down_shift)
  unfolding moved_sum
  down-sum t = rw step_is

  -- "limits -100,000 to 1,000,000"; "The limits of refusals 5 and 6 are multiplied by 100"
  module _ (w : WithinLimits k) where
    days : DaysWithin 100 k.days
    days = rw four at w.days

    pub rate-within : (d t : ℕ) → d < length k.days → t < 60
        → (neg_ℤ (pos 100000) ≤ℤ get_or (get_or k.days d []) t (pos 0)) × (get_or (get_or k.days d []) t (pos 0) ≤ℤ pos 1000000)
    rate-within d t l h = (((days.each d l).each t h).least, ((days.each d l).each t h).most)

    pub forward-within : (t : ℕ) → 1 ≤ t → t ≤ 60
        → (neg_ℤ (pos (200000 * length k.days)) ≤ℤ forward k.days t) × (forward k.days t ≤ℤ pos (1200000 * length k.days))
    forward-within t l h =
        let n = length k.days in
        let low : 2000 * (100 * n) ≡ 200000 * n = omega arith in
        let high : 12000 * (100 * n) ≡ 1200000 * n = omega arith in (
          subst (λ (a : ℕ). neg_ℤ (pos a) ≤ℤ forward k.days t) low (days.forwards t l h).least,
          subst (λ (a : ℕ). forward k.days t ≤ℤ pos a) high (days.forwards t l h).most,
        )

-- "the part handed back is n × 240 bytes", which the file has
pub part-is : (file : List ℕ) → refusal file ≡ 0 → stands 7 (file_map file) ≡ true
    → (rates_part file ≡ take (240 * day_count file) (drop (days_at file + 1) file)) × (days_at file + 1 + 240 * day_count file ≤ length file)
unfolding rates_part
part-is file h four = (rw (accepted-none file h, four), rw four at (days-reach file h))

-- "cases with different days fields count as different": they are saved as different bytes
pub forms-apart : (k j : FileCase) → WithinLimits k → WithinLimits j → (k.rate_bytes ≡ j.rate_bytes → ⊥) → shortest k ≡ shortest j → ⊥
forms-apart k j w v apart same = apart (ap (λ (i : FileCase). i.rate_bytes) ((saved-once k j w v).0 same))
