-- A case within the limits with as much of everything as there can be: its file is the longest that is accepted. Computed, by the definitions
-- themselves.
use mathlib.Core.Path.{◌≡◌, refl}
use lib.ListN.{length, replicate}
use lib.IntN.{pos}
use Rattle.model.specs.Numbers.{every, bytes_of}
use Rattle.model.specs.Case.{FileCase, per_step, s}
use Rattle.model.specs.Limits.{WithinLimits}
use Rattle.model.specs.Layout.{file_of}
use Rattle.model.specs.Refusals.{first_of, forwards_right}
use Rattle.savingmodel.specs.Saving.{shortest, case_checks, case_refusal}
use Rattle.theory.proofs.saving.Saved.{case-within}

-- 70 days of four-byte rates, 120 pension flows, 60 bond flows, and each optional field, since its value is not the one of an absent field
abbrev pub longest_case : FileCase
longest_case = record {
  rate_bytes = 4;
  ufr = 0;
  days = replicate 70 (replicate 60 (pos 0));
  pension = replicate 120 0;
  bonds = replicate 60 0;
  amounts = record { mature = 0; emerging = 0; private = 0; property = 0; commodities = 0; credit = 0; cash = 1; currency = 0 };
  shocks = record {
    up_shift = 0;
    down_shift = 0;
    mature_fall = 0;
    emerging_fall = 0;
    private_fall = 0;
    property_fall = 0;
    currency_fall = 0;
    commodities_fall = 0;
    spread_rise = 0;
    correlation = 0;
    spread = 0;
    duration = 0;
    equity_correlation = 0;
  };
  people = record { heads = 1; pension_age = 0; mean_age = 0 };
}

longest-not-refused : case_refusal longest_case ≡ 0
unfolding case_refusal case_checks first_of forwards_right per_step every s
longest-not-refused = refl

pub longest-within : WithinLimits longest_case
longest-within = case-within longest_case longest-not-refused

pub longest-length : length (shortest longest_case) ≡ 17625
unfolding shortest file_of bytes_of
longest-length = refl
