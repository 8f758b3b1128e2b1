-- The twelve hand-worked cases give what was worked out by hand. What is quick to compute of them is in Worked.antt of `method`; here is
-- which of their files are accepted, and all of it in one result, `twelve_cases`. Assumes nothing.
use mathlib.Core.Path.{◌≡◌, refl}
use Prim.Native.Nat.{◌*◌, ◌≤◌}
use lib.Dec.{lit≤, lit<}
use lib.ListN.{length}
use Rattle.model.specs.Layout.{case_of}
use Rattle.model.specs.Refusals.{refusal}
use Rattle.method.specs.EquityClasses.{summed_S²}
use Rattle.method.specs.Fraction.{◌//◌, ◌≐◌}
use Rattle.method.specs.TwelveFiles.{flat, with_days, file_c1, file_c2, file_c5, file_c8, file_c9, file_c10, file_c11}
use Rattle.method.proofs.Computing.{all}
use Rattle.twelvecases.specs.TwelveCases.{TwelveCases}
use Rattle.method.proofs.Worked.{
  c1-listing,
  c1-exact,
  c2-verdicts,
  c3-bytes,
  c3-days,
  c3-factor,
  c5-factor,
  c6-factor,
  c7-growth,
  c9-buffer,
  c9-exact,
  c10-TSO,
  c11-TSO,
  c11-file,
  c12-refusal,
}

c1-bytes : (length file_c1 ≡ 224) × (refusal file_c1 ≡ 0)
unfolding all
c1-bytes = (refl, refl)

c2-accepted : refusal file_c2 ≡ 0
unfolding all
c2-accepted = refl

c3-accepted : refusal (with_days (flat 0xfe 0x0c)) ≡ 0
unfolding all
c3-accepted = refl

c4-refusals : (refusal (with_days (flat 0xfc 0x18)) ≡ 0) × (refusal (with_days (flat 0xfc 0x17)) ≡ 5)
unfolding all
c4-refusals = (refl, refl)

c5-accepted : refusal file_c5 ≡ 0
unfolding all
c5-accepted = refl

c7-accepted : refusal (with_days (flat 0x13 0x88)) ≡ 0
unfolding all
c7-accepted = refl

c8-refusals : (refusal (file_c8 0x17 0x70) ≡ 0) × (refusal (file_c8 0x17 0x71) ≡ 6)
unfolding all
c8-refusals = (refl, refl)

c9-accepted : refusal file_c9 ≡ 0
unfolding all
c9-accepted = refl

c10-accepted : refusal file_c10 ≡ 0
unfolding all
c10-accepted = refl

c11-accepted : refusal file_c11 ≡ 0
unfolding all
c11-accepted = refl

-- its classes fall together
c9-summed : (summed_S² (case_of file_c9) ≐ 3700000000 // 1) × (60827 * 60827 ≤ 3700000000) × (3700000000 ≤ 60828 * 60828)
unfolding all
c9-summed = ((lit< tt, lit< tt, refl), lit≤ tt, lit≤ tt)

pub twelve_cases : TwelveCases
twelve_cases = record {
  c1 = (c1-bytes.0, c1-bytes.1, c1-listing, c1-exact);
  c2 = (c2-accepted, c2-verdicts.0, c2-verdicts.1);
  c3 = (c3-bytes, c3-accepted, c3-days, c3-factor);
  c4 = c4-refusals;
  c5 = (c5-accepted, c5-factor);
  c6 = c6-factor;
  c7 = (c7-accepted, c7-growth);
  c8 = c8-refusals;
  c9 =
      (c9-buffer.0, c9-buffer.1, c9-accepted, c9-exact.0, c9-exact.1, c9-summed.0, c9-exact.2, c9-exact.3, c9-summed.1, c9-summed.2);
  c10 = (c10-accepted, c10-TSO);
  c11 = (c11-TSO, c11-accepted, c11-file.0, c11-file.1);
  c12 = c12-refusal;
}
