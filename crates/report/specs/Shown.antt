-- The words under which the source of a UFR is shown, and which number of a case is shown under which name. Assumes nothing.
use Rattle.std.specs.Prelude.{ℕ, ◌≡◌, List, codes, Option, option_map}
use Rattle.report.specs.declared.numbers.Numbers.{Numbers}
use Rattle.report.specs.declared.numbers.UfrSource.{UfrSource}
use Rattle.report.specs.declared.numbers.UfrSource.TheVariants.{History, Default, File}
use Rattle.report.specs.declared.shown.NumbersShown.{NumbersShown}

abbrev pub source_word : UfrSource → List ℕ
source_word History = codes "history"
source_word Default = codes "default"
source_word File = codes "file"

pub record Shows (numbers : Option Numbers) (shown : NumbersShown) : Type 0 where
  pub ufr : shown.ufr ≡ option_map (λ n. n.ufr) numbers
  pub source : option_map (λ word. word.now) shown.ufr_from ≡ option_map (λ n. source_word n.ufr_source) numbers
  pub rate_bytes : shown.rate_bytes ≡ option_map (λ n. n.rate_bytes) numbers
  pub days : shown.days ≡ option_map (λ n. n.days) numbers
  pub pension_flows : shown.pension_flows ≡ option_map (λ n. n.pension_flows) numbers
  pub pension_sum : shown.pension_sum ≡ option_map (λ n. n.pension_sum) numbers
  pub bond_flows : shown.bond_flows ≡ option_map (λ n. n.bond_flows) numbers
  pub bond_sum : shown.bond_sum ≡ option_map (λ n. n.bond_sum) numbers
  pub assets_sum : shown.assets_sum ≡ option_map (λ n. n.assets_sum) numbers
