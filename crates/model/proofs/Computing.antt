-- What the computed statements of this crate compute with: the definitions of specs/. Assumes nothing.
use Prim.Native.Nat.{ℕ, zero, suc}
use mathlib.Core.List.{List, [], ◌∷◌}
use Rattle.model.specs.Case.{per_step, s}
use Rattle.model.specs.Numbers.{number, bytes_of, every, table}
use Rattle.model.specs.Layout.{file_map, file_of, case_of}
use Rattle.model.specs.Refusals.{first_of, forwards_right, checks, refusal, ufr_end, days_at, day_count, rates_part}

-- the same two bytes, n times
abbrev pub pairs : ℕ → ℕ → ℕ → List ℕ
pairs zero a b = []
pairs (suc n) a b = a ∷ b ∷ pairs n a b

-- A proof whose `unfolding` line names `all` computes with every definition that is named here.
unfoldable pub all : ℕ
unfolding
    s per_step number bytes_of every table
    file_map file_of case_of ufr_end days_at day_count first_of forwards_right checks refusal rates_part
all = 0
