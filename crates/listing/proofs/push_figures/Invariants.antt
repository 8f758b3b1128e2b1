-- `push_figures`: the lines so far, and those to come.
use Rattle.std.proofs.Common.{◌≡◌, ◌+◌, ◌*◌, ◌≤◌, ◌++◌, drop, length, All}
use Rattle.std.specs.List.{flat_map}
use Rattle.arrayvec.specs.ArrayVec.{array_vec_len}
use Rattle.method.specs.Listing.{line, figure_lines}
use Rattle.listing.proofs.push_figures.Given as goal

abbrev pub invariant-loop-name : goal.invariant-loop-name
invariant-loop-name l = record {
  lines : l.text.items ++ flat_map (λ named. line named.0.now named.1) (drop l.name-index l.name-items) ≡ l.fn.text.items ++ figure_lines l.fn.f;
  room : array_vec_len l.text ≤ array_vec_len l.fn.text + 45 * l.name-index;
  ten : length l.name-items ≡ 10;
  short : All (λ named. length named.0.now ≤ 2) l.name-items;
}
