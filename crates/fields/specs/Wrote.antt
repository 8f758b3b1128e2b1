-- What one write leaves.
use Rattle.std.specs.Prelude.{ℕ, ◌+◌, ◌≡◌, List, length}
use Rattle.std.proofs.lemmas.List.Edits.{sets}
use Rattle.model.specs.Fields.{number_of, bytes_all}
use Rattle.fields.specs.declared.writer.Writer.{Writer}

-- a text follows what was written before, and every other byte is as before
pub record Wrote (before : Writer) (text : List ℕ) (after : Writer) : Type 0 where
  pub same : after.out.ghost_name ≡ before.out.ghost_name
  pub long : length after.out.now ≡ length before.out.now
  pub place : after.at ≡ before.at + length text
  pub held : after.out.now ≡ sets before.out.now before.at text

-- the bytes of numbers of one width; their limits do not matter to the bytes
abbrev pub bytes_of_each : ℕ → List ℕ → List ℕ
bytes_of_each width = bytes_all (number_of width 0 0)
