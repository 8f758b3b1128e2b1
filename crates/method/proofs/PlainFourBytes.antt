-- Each promise of specs/FourBytes.antt used once in plain numbers: both buffers at their lengths, entry 0 and 239, the terms 1 and 60, the first
-- and the 70th day. Nothing else rests on this: a promise that said less would not give it. Assumes nothing.
use Rattle.std.specs.Prelude.{◌≡◌, ◌*◌, ◌+◌, ◌≤◌, ◌<◌, List, [], length, take, drop, slice_index_or, true, ℕ, ℤ, pos, neg_ℤ, ◌+ℤ◌, ◌*ℤ◌, ◌≤ℤ◌}
use mathlib.Core.Path.{ap}
use native.Mathlib.Omega.{arith}
use Rattle.refusal.specs.Numbered.{answer_of}
use Rattle.model.specs.Case.{FileCase, s}
use Rattle.model.specs.Limits.{WithinLimits, forward}
use Rattle.model.specs.Layout.{stands, file_map, case_of}
use Rattle.model.specs.Refusals.{refusal, rates_part, days_at, day_count}
use Rattle.method.specs.Curve.{base, up, down, moved_sum, curve}
use Rattle.method.specs.Buffers.{valuation_of, factors_after, rates_after}
use Rattle.method.specs.Listing.{listing}
use Rattle.method.specs.FourBytes.{rewritten, rewritten_file, SameAsBefore, RewrittenFilesAsBefore, FourByteCases, FourByteParts}

-- ---- the rewritten file
-- of an accepted file with bit 1, whatever its UFR is and whichever fields it has
rewritten-same : RewrittenFilesAsBefore → (file : List ℕ) → refusal file ≡ 0 → stands 1 (file_map file) ≡ true → SameAsBefore file
rewritten-same p file accepted two = p.same file accepted two

rewritten-accepted : (file : List ℕ) → SameAsBefore file → (refusal (rewritten_file file) ≡ 0) × (case_of (rewritten_file file) ≡ rewritten (case_of file))
rewritten-accepted file same = (same.accepted, same.case)

same-listing : (file : List ℕ) → SameAsBefore file
    → listing (answer_of (valuation_of 240 240 (rewritten_file file))) ≡ listing (answer_of (valuation_of 240 240 file))
same-listing file same = same.listed

-- with buffers long enough, and with one that is too short
same-answers : (file : List ℕ) → SameAsBefore file
    → (valuation_of 240 240 (rewritten_file file) ≡ valuation_of 240 240 file)
    × (valuation_of 239 240 (rewritten_file file) ≡ valuation_of 239 240 file)
    × (valuation_of 0 1000 (rewritten_file file) ≡ valuation_of 0 1000 file)
same-answers file same = (same.answer 240 240, same.answer 239 240, same.answer 0 1000)

-- each entry of buffers of any lengths, also past the 240th
same-buffers : (file : List ℕ) → SameAsBefore file → (f : List ℕ) (z : List ℤ) (i : ℕ)
    → (slice_index_or (factors_after (rewritten_file file) f z) i 0 ≡ slice_index_or (factors_after file f z) i 0)
    × (slice_index_or (rates_after (rewritten_file file) f z) i (pos 0) ≡ slice_index_or (rates_after file f z) i (pos 0))
    × (length (factors_after (rewritten_file file) f z) ≡ length (factors_after file f z))
    × (length (rates_after (rewritten_file file) f z) ≡ length (rates_after file f z))
same-buffers file same f z i = (
  ap (λ (xs : List ℕ). slice_index_or xs i 0) (same.factors f z),
  ap (λ (xs : List ℤ). slice_index_or xs i (pos 0)) (same.rates f z),
  ap (λ (xs : List ℕ). length xs) (same.factors f z),
  ap (λ (xs : List ℤ). length xs) (same.rates f z),
)

-- ---- a case with four-byte days
module _ (p : FourByteCases) (k : FileCase) (four : k.rate_bytes ≡ 4) where
  n-of-each-curve : ((curve k base).N ≡ 10000000 * length k.days) × ((curve k up).N ≡ 10000000 * length k.days) × ((curve k down).N ≡ 10000000 * length k.days)
  n-of-each-curve = (p.n k four base, p.n k four up, p.n k four down)

  shifted-sums : (moved_sum k up 1 ≡ s k.days 1 +ℤ pos (100 * length k.days) *ℤ pos k.shocks.up_shift)
      × (moved_sum k up 60 ≡ s k.days 60 +ℤ pos (100 * length k.days) *ℤ pos k.shocks.up_shift)
      × (moved_sum k down 1 ≡ s k.days 1 +ℤ pos (100 * length k.days) *ℤ neg_ℤ (pos k.shocks.down_shift))
      × (moved_sum k down 60 ≡ s k.days 60 +ℤ pos (100 * length k.days) *ℤ neg_ℤ (pos k.shocks.down_shift))
  shifted-sums = (p.up_sum k four 0, p.up_sum k four 59, p.down_sum k four 0, p.down_sum k four 59)

  module _ (w : WithinLimits k) where
    each-rate : (d t : ℕ) → d < length k.days → t < 60
        → (neg_ℤ (pos 100000) ≤ℤ slice_index_or (slice_index_or k.days d []) t (pos 0))
        × (slice_index_or (slice_index_or k.days d []) t (pos 0) ≤ℤ pos 1000000)
    each-rate d t l h = let r = p.rate k four w d t l h in (r.least, r.most)

    each-forward : (t : ℕ) → 0 < t → t < 61
        → (neg_ℤ (pos (200000 * length k.days)) ≤ℤ forward k.days t) × (forward k.days t ≤ℤ pos (1200000 * length k.days))
    each-forward t l h = let r = p.forwards k four w t (omega (arith, l)) (omega (arith, h)) in (r.least, r.most)

-- ---- the part that is handed back
four-byte-part : FourByteParts → (file : List ℕ) → refusal file ≡ 0 → stands 7 (file_map file) ≡ true
    → (rates_part file ≡ take (240 * day_count file) (drop (days_at file + 1) file)) × (days_at file + 1 + 240 * day_count file ≤ length file)
four-byte-part p file accepted four = let q = p.each file accepted four in (q.part, q.inside)
