-- Rates in four bytes: a file with two-byte days, rewritten to four-byte days, and what is promised. Each record that
-- is of every file or case is a promise, with its premises; proofs/PlainFourBytes.antt uses each once more in plain numbers, so that a record
-- that says less is refused.
use Rattle.std.specs.Prelude.{◌≡◌, ◌+◌, ◌*◌, ◌≤◌, ◌<◌, List, [], map, length, take, drop, slice_index_or, true, ℕ, suc, ℤ, pos, neg_ℤ, ◌+ℤ◌, ◌*ℤ◌}
use Rattle.refusal.specs.Numbered.{answer_of}
use Rattle.model.specs.Case.{FileCase, s, with_days}
use Rattle.model.specs.Limits.{Between, WithinLimits, forward}
use Rattle.model.specs.Layout.{stands, present_in, file_map, file_of, case_of}
use Rattle.model.specs.Refusals.{refusal, rates_part, days_at, day_count}
use Rattle.method.specs.Curve.{Move, up, down, moved_sum, curve}
use Rattle.method.specs.Buffers.{valuation_of, factors_after, rates_after}
use Rattle.method.specs.Listing.{listing}

-- "rewritten to bit 7 with every rate times 100"
abbrev pub rewritten : FileCase → FileCase
rewritten k = with_days 4 (map (map (λ z. pos 100 *ℤ z)) k.days) k

-- "An accepted file with bit 1, rewritten": it has the optional fields that it had
unfoldable pub rewritten_file : List ℕ → List ℕ
rewritten_file file = file_of (present_in (file_map file)) (rewritten (case_of file))

-- "prints the same listing as the old file"; and more: it is accepted, it holds the rewritten case, and with buffers of any lengths it gives
-- the same answer and leaves the same in both
pub record SameAsBefore (file : List ℕ) : Type 0 where
  pub accepted : refusal (rewritten_file file) ≡ 0
  pub case : case_of (rewritten_file file) ≡ rewritten (case_of file)
  pub listed : listing (answer_of (valuation_of 240 240 (rewritten_file file))) ≡ listing (answer_of (valuation_of 240 240 file))
  pub answer : (factors rates : ℕ) → valuation_of factors rates (rewritten_file file) ≡ valuation_of factors rates file
  pub factors : (f : List ℕ) (z : List ℤ) → factors_after (rewritten_file file) f z ≡ factors_after file f z
  pub rates : (f : List ℕ) (z : List ℤ) → rates_after (rewritten_file file) f z ≡ rates_after file f z

-- "An accepted file with bit 1, rewritten to bit 7 with every rate times 100, prints the same listing as the old file."
pub record RewrittenFilesAsBefore : Type 0 where
  pub same : (file : List ℕ) → refusal file ≡ 0 → stands 1 (file_map file) ≡ true → SameAsBefore file

-- What is said of a case with four-byte days, whose rates count 0.0000001.
pub record FourByteCases : Type 0 where
  -- "N is 10,000,000 × n", on all three curves
  pub n : (k : FileCase) → k.rate_bytes ≡ 4 → (m : Move) → (curve k m).N ≡ 10000000 * length k.days
  -- "a shift adds or takes 100 × n × shift", at the terms from 1
  pub up_sum : (k : FileCase) → k.rate_bytes ≡ 4 → (t : ℕ)
      → moved_sum k up (suc t) ≡ s k.days (suc t) +ℤ pos (100 * length k.days) *ℤ pos k.shocks.up_shift
  pub down_sum : (k : FileCase) → k.rate_bytes ≡ 4 → (t : ℕ)
      → moved_sum k down (suc t) ≡ s k.days (suc t) +ℤ pos (100 * length k.days) *ℤ neg_ℤ (pos k.shocks.down_shift)
  -- "limits -100,000 to 1,000,000", of every rate of every day
  pub rate : (k : FileCase) → k.rate_bytes ≡ 4 → WithinLimits k → (d t : ℕ) → d < length k.days → t < 60
      → Between (neg_ℤ (pos 100000)) (pos 1000000) (slice_index_or (slice_index_or k.days d []) t (pos 0))
  -- "The limits of refusals 5 and 6 are multiplied by 100": of every forward
  pub forwards : (k : FileCase) → k.rate_bytes ≡ 4 → WithinLimits k → (t : ℕ) → 1 ≤ t → t ≤ 60
      → Between (neg_ℤ (pos (200000 * length k.days))) (pos (1200000 * length k.days)) (forward k.days t)

-- "the part handed back is n × 240 bytes", after the count of days, and the file has this many
pub record FourBytePart (file : List ℕ) : Type 0 where
  pub part : rates_part file ≡ take (240 * day_count file) (drop (days_at file + 1) file)
  pub inside : days_at file + 1 + 240 * day_count file ≤ length file

pub record FourByteParts : Type 0 where
  pub each : (file : List ℕ) → refusal file ≡ 0 → stands 7 (file_map file) ≡ true → FourBytePart file
