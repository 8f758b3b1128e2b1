-- `push_figures`: the lines are those of the one list. The check leaves this goal open without its answer.
use Rattle.std.proofs.Common.{rules, List, ◌++◌, ℕ, Bor, ◌∙◌, ap}
use Rattle.arith.specs.declared.bracket.Bracket.{Bracket}
use Rattle.std.specs.List.{flat_map}
use Rattle.method.specs.Listing.{line, figure_lines}
use Rattle.listing.proofs.Texts.{lines-of-named}
use Rattle.listing.proofs.push_figures.Goals as goal

pub loop-name-init : goal.loop-name-init
unfolding figure_lines
loop-name-init c = record {
  lines =
      ap (λ lines. c.args.text.now.items ++ lines)
      (lines-of-named (λ (name : Bor (List ℕ)). name.now) c.named_figures-name-items.result
      ∙ ap (flat_map (λ (n : List ℕ × Bracket). line n.0 n.1)) c.named_figures-name-items.ensures.named);
  room = search rules;
  ten = search rules;
  short = search rules;
}
