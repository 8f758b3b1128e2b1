-- What is promised of a host's structs, used in plain numbers: each verdict by its word and every refusal by its number. Nothing else rests on
-- this: a promise that said less would not give it. Assumes nothing.
use mathlib.Core.Path.{◌≡◌}
use Rattle.std.specs.Prelude.{Ok, Err}
use Rattle.refusal.specs.Numbered.{number_of}
use Rattle.refusal.specs.declared.Refusal.{Refusal}
use Rattle.model.specs.declared.figures.Figures.{Figures}
use Rattle.model.specs.declared.figures.Verdict.{Verdict}
use Rattle.flat.specs.Flat.{verdict_number, valuation_from, no_figures}
use Rattle.flat.specs.Promises.{HandedBackAsGiven}

valued-back : HandedBackAsGiven → (figures : Figures) (verdict : Verdict)
    → valuation_from (record { refusal = 0; verdict = verdict_number verdict; figures = figures })
    ≡ Ok (record { figures = figures; verdict = verdict })
valued-back p figures verdict = p.same (Ok (record { figures = figures; verdict = verdict }))

refused-back : HandedBackAsGiven → (r : Refusal)
    → valuation_from (record { refusal = number_of r; verdict = 0; figures = no_figures }) ≡ Err (number_of r)
refused-back p r = p.same (Err r)
