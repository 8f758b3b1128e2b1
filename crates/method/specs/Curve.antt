-- The curve that a case is valued on: the base curve, and the up and the down curve (METHOD, The exact working; METHOD, The rounded
-- working; the mean over the days is step 2 of DNB's note of 2012: METHOD, Sources).
use Rattle.std.specs.Prelude.{ℕ, zero, suc, ◌*◌, ◌-◌, List, [], ◌∷◌, slice_index, ℤ, pos, negsuc, neg_ℤ, ◌+ℤ◌, ◌*ℤ◌}
use Rattle.model.specs.Constants.{steps_per_one}
use Rattle.model.specs.Case.{FileCase, per_step, s}

-- N, the sums s(t) as integers, and the UFR in steps: the mean rate R(t) is s(t) ÷ N
pub record Curve : Type 0 where
  pub N : ℕ
  pub sum : ℕ → ℤ
  pub ufr : ℕ

pub data Move : Type 0 where
  base up down : Move

-- the shift of a curve in steps
abbrev pub shift : FileCase → Move → ℤ
shift k base = pos 0
shift k up = pos k.shocks.up_shift
shift k down = neg_ℤ (pos k.shocks.down_shift)

-- "Up and down curves add the shift to, or take it from, every mean rate at terms 1 to 60": to the sum over n days n × shift, and
-- s(0) stays 0; to the sum of four-byte rates 100 × n × shift
unfoldable pub moved_sum : FileCase → Move → ℕ → ℤ
moved_sum k m zero = pos 0
moved_sum k m (suc t) = s k.days (suc t) +ℤ pos (per_step k) *ℤ shift k m

-- "N = 100,000 × n; of four-byte rates N = 10,000,000 × n"; every curve has the same UFR
unfoldable pub curve : FileCase → Move → Curve
curve k m = record { N = steps_per_one * per_step k; sum = moved_sum k m; ufr = k.ufr }

-- an integer as a natural number, and 0 below 0, which no N + s(t) of an accepted file is (`PUncut` of ContainmentAndWidth)
abbrev pub natural : ℤ → ℕ
natural (pos n) = n
natural (negsuc n) = 0

-- "P(t) = N + s(t)": 1 + R(t) is P(t) ÷ N
unfoldable pub P : Curve → ℕ → ℕ
P c t = natural (pos c.N +ℤ c.sum t)

-- "Weights w in thousandths, 21 to 60": how much the UFR counts in the adjusted growth of a term. They are the fixed weights
-- of DNB's note of 2012 (METHOD, Sources), and the same for every fund.
unfoldable pub weights : List ℕ
weights =
    86 ∷ 186 ∷ 274 ∷ 351 ∷ 420 ∷ 481 ∷ 536 ∷ 584 ∷ 628 ∷ 666
    ∷ 701 ∷ 732 ∷ 760 ∷ 785 ∷ 808 ∷ 828 ∷ 846 ∷ 863 ∷ 878 ∷ 891
    ∷ 903 ∷ 914 ∷ 923 ∷ 932 ∷ 940 ∷ 947 ∷ 954 ∷ 960 ∷ 965 ∷ 970
    ∷ 974 ∷ 978 ∷ 982 ∷ 985 ∷ 988 ∷ 990 ∷ 993 ∷ 995 ∷ 997 ∷ 998
    ∷ []

-- w of a term from 21 to 60; no other term has a weight, and none is asked for
unfoldable pub weight : ℕ → ℕ
weight t = slice_index weights (t - 21)
