-- The report of several files begins with the first one's block. Assumes nothing.
use Rattle.std.proofs.Common.{◌≡◌, ◌<◌, List, [], ◌∷◌, ◌++◌, length, refl, arith, codes}
use Rattle.std.specs.List.{flat_map}
use Rattle.report.specs.declared.text.Row.{Row}
use Rattle.report.specs.Report.{block, report}

pub report-several : (r : Row) (rs : List Row) → 0 < length rs → block r ++ flat_map (λ r. codes "\n" ++ block r) rs ≡ report (r ∷ rs)
report-several r [] h = absurd (omega (arith, h))
report-several r (s ∷ rs) h = refl
