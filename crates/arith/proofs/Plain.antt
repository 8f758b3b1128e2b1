-- What a rounded root is, used in plain numbers. Nothing else rests on this: a definition that said less would not give it.
-- Assumes nothing.
use Prim.Native.Nat.{ℕ, ◌*◌, ◌≤◌, ◌<◌}
use Rattle.arith.specs.Root.{FloorRoot, CeilingRoot}

-- of 19 ÷ 2 rounded down to 3: 3 × 3 × 2 is 18, and 4 × 4 × 2 is 32
floor : FloorRoot 19 2 3 → (18 ≤ 19) × (19 < 32)
floor h = (h.reaches, h.last)

-- of 19 ÷ 2 rounded up to 4: 4 is the first that covers
ceiling : CeilingRoot 19 2 4 → (19 ≤ 32) × ((m : ℕ) → 19 ≤ m * m * 2 → 4 ≤ m)
ceiling h = (h.covers, h.first)
