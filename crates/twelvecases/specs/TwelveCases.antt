-- The twelve hand-worked cases: what each file gives, as it was worked out by hand. All of it has to be believed. Assumes nothing.
use Rattle.std.specs.Prelude.{◌*◌, ◌<◌, ◌≤◌, ◌≡◌, [], ◌∷◌, length, replicate, pos, neg_ℤ}
use Rattle.refusal.specs.Numbered.{answer_of}
use Rattle.arith.specs.Rounding.{low, high}
use Rattle.model.specs.Numbers.{number, twos_complement}
use Rattle.model.specs.Case.{FileCase}
use Rattle.model.specs.Layout.{case_of}
use Rattle.model.specs.Refusals.{refusal}
use Rattle.model.specs.declared.figures.Verdict.TheVariants.{Reservetekort, VrijVermogen}
use Rattle.method.specs.Fraction.{◌//◌, ◌≐◌, whole, ◌≤ʳ◌, ◌ʳ≤◌}
use Rattle.method.specs.Curve.{base, curve}
use Rattle.method.specs.EquityClasses.{summed_S²}
use Rattle.method.specs.Exact as Exact
use Rattle.method.specs.Rounded as Rounded
use Rattle.method.specs.Buffers.{valuation_of}
use Rattle.method.specs.Listing.{listing}
use Rattle.method.specs.TwelveFiles.{flat, with_days, file_c1, file_c2, file_c5, file_c8, file_c9, file_c10, file_c11, listing_c1}

-- What was worked out by hand. A file with refusal 0 is accepted, and `case_of` is the case that its bytes hold.
pub record TwelveCases : Type 0 where
  -- "Its 224 bytes give": the listing; and the exact verdict is the same
  pub c1 : (length file_c1 ≡ 224)
      × (refusal file_c1 ≡ 0)
      × (listing (answer_of (valuation_of 240 240 file_c1)) ≡ listing_c1)
      × (Exact.verdict (case_of file_c1) ≡ VrijVermogen)
  -- C2, "Cash 1,099,999: .. RESERVETEKORT"
  pub c2 : (refusal file_c2 ≡ 0)
      × (Rounded.verdict (case_of file_c2) ≡ Reservetekort)
      × (Exact.verdict (case_of file_c2) ≡ Reservetekort)
  -- C3: FE 0C is -500. "Flat: factor 1 = 1/(1 - 0.005) = 200/199"
  pub c3 : (twos_complement 2 (number (0xfe ∷ 0x0c ∷ []) 0 2) ≡ neg_ℤ (pos 500))
      × (refusal (with_days (flat 0xfe 0x0c)) ≡ 0)
      × ((case_of (with_days (flat 0xfe 0x0c))).days ≡ replicate 60 (neg_ℤ (pos 500)) ∷ [])
      × (Exact.factor (curve (case_of (with_days (flat 0xfe 0x0c))) base) 1 ≐ 200 // 199)
  -- C4: FC 18 "is -1,000 and passes", FC 17 "is -1,001 and gives 5"
  pub c4 : (refusal (with_days (flat 0xfc 0x18)) ≡ 0) × (refusal (with_days (flat 0xfc 0x17)) ≡ 5)
  -- C5: "Days at 100 and 101, flat: .. factor 1 = 1/(1 + 201/200,000) = 200,000/200,201"
  pub c5 : (refusal file_c5 ≡ 0) × (Exact.factor (curve (case_of file_c5) base) 1 ≐ 200000 // 200201)
  -- C6: "Flat 0: .. Factor 21 = 1/1.003612 = 250,000/250,903"
  pub c6 : Exact.factor (curve (case_of file_c1) base) 21 ≐ 250000 // 250903
  -- C7: "Flat 5,000: growth 21 = 0.914 × 1.05 + 0.086 × 1.042 = 1.049312"
  pub c7 : (refusal (with_days (flat 0x13 0x88)) ≡ 0)
      × (Exact.growth (curve (case_of (with_days (flat 0x13 0x88))) base) 21 ≐ 1049312 // 1000000)
  -- C8: "One day, rate 0 then 6,000 for all later terms: .. passes. With 6,001 it is 12,002 and gives 6"
  pub c8 : (refusal (file_c8 0x17 0x70) ≡ 0) × (refusal (file_c8 0x17 0x71) ≡ 6)
  -- C9: "S1 300, S2 400 euros, correlation 500, others 0: .. S is 60,827 to 60,828 cents": rounded from these, and the exact S of a file
  -- that has them: it has no field of bit 8, so its S² is the number `summed_S²`
  pub c9 : (Rounded.buffer low 500 30000 40000 0 0 0 0 ≡ 60827)
      × (Rounded.buffer high 500 30000 40000 0 0 0 0 ≡ 60828)
      × (refusal file_c9 ≡ 0)
      × (Exact.S1 (case_of file_c9) ≐ 30000 // 1)
      × (Exact.S2² (case_of file_c9) ≐ 1600000000 // 1)
      × (summed_S² (case_of file_c9) ≐ 3700000000 // 1)
      × (whole (60827 * 60827) ≤ʳ Exact.S² (case_of file_c9))
      × (Exact.S² (case_of file_c9) ʳ≤ whole (60828 * 60828))
      × (60827 * 60827 ≤ 3700000000)
      × (3700000000 ≤ 60828 * 60828)
  -- C10: "Pension age 780, mean 540: .. TSO = 2 + 9/40 × 20 = 6.5"
  pub c10 : (refusal file_c10 ≡ 0) × (Exact.TSO (case_of file_c10) ≐ 65 // 10)
  -- C11: "Mean age above pension age: TSO = 2", of every case, and of a file
  pub c11 : ((k : FileCase) → k.people.pension_age < k.people.mean_age → Exact.TSO k ≐ 2 // 1)
      × (refusal file_c11 ≡ 0)
      × ((case_of file_c11).people.pension_age < (case_of file_c11).people.mean_age)
      × (Exact.TSO (case_of file_c11) ≐ 2 // 1)
  -- C12: "The empty file gives 1"
  pub c12 : refusal [] ≡ 1
