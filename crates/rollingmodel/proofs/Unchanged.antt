-- A change that is refused gives back the window that was handed in, whatever it is refused with. It stands here, beside the definitions, so
-- that a definition by which a refused change altered the window is refused in this crate. Assumes nothing.
use Prim.Native.Nat.{ℕ, zero, suc}
use mathlib.Core.Path.{◌≡◌, refl}
use mathlib.Core.List.{List}
use mathlib.Core.Logic.{◌≢◌}
use lib.IntN.{ℤ}
use Rattle.rollingmodel.specs.Rolling.{add_refusal, drop_refusal, added, dropped, changed, add_day, drop_day}
use Rattle.rollingmodel.specs.declared.RollingWindow.{RollingWindow}

unchanged : (r : ℕ) (w next : RollingWindow) → r ≢ 0 → changed r w next ≡ record { refusal = r; window = w }
unchanged zero w next h = absurd (h refl)
unchanged (suc r) w next h = refl

pub add-unchanged : (w : RollingWindow) (new : List ℤ) → add_refusal w new ≢ 0 → add_day w new ≡ record { refusal = add_refusal w new; window = w }
unfolding add_day
add-unchanged w new = unchanged (add_refusal w new) w (added w new)

pub drop-unchanged : (w : RollingWindow) → drop_refusal w ≢ 0 → drop_day w ≡ record { refusal = drop_refusal w; window = w }
unfolding drop_day
drop-unchanged w = unchanged (drop_refusal w) w (dropped w)
