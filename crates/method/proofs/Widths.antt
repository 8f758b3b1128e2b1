-- The widths that are allowed, of the brackets that the valuation of a case answers, on two funds: they catch "brackets from 0 to the
-- largest number". Each statement is computed; `twelvecases` has the same of whole files, and `theory` proves it of every accepted file.
-- Assumes nothing.
use native.Mathlib.Omega.{arith}
use lib.Dec.{lit≤}
use Rattle.std.specs.Prelude.{None, Result, Ok, Err}
use Rattle.refusal.specs.declared.Refusal.{Refusal}
use Rattle.model.specs.Case.{FileCase}
use Rattle.method.specs.Buffers.{answered}
use Rattle.method.specs.Containment.{WideAtMost, L_width_most, B_width_most, A_width_most, S_width_most}
use Rattle.model.specs.declared.figures.Valuation.{Valuation}
use Rattle.method.proofs.Computing.{all}
use Rattle.method.proofs.Pinned.{up_case, down_case}

-- 5 to 8 is 3 wide, and 5 to 9 is wider
width-border : WideAtMost 3 (record { lower = 5; upper = 8 }) × (WideAtMost 3 (record { lower = 5; upper = 9 }) → ⊥)
width-border = (lit≤ tt, λ h. omega arith)

-- L, B, A and S of an answer are as narrow as is promised; a refusal has no figure
abbrev pub Narrow : FileCase → Result Valuation Refusal → Type 0
Narrow k (Err refusal) = ⊥
Narrow k (Ok v) =
    WideAtMost (L_width_most k) v.figures.l
    × WideAtMost (B_width_most k) v.figures.b
    × WideAtMost (A_width_most k) v.figures.a
    × WideAtMost (S_width_most k) v.figures.s

up-widths : Narrow up_case (answered None up_case)
unfolding all
up-widths = (lit≤ tt, lit≤ tt, lit≤ tt, lit≤ tt)

down-widths : Narrow down_case (answered None down_case)
unfolding all
down-widths = (lit≤ tt, lit≤ tt, lit≤ tt, lit≤ tt)
