-- `curves::three::Three::map_with` meets its contract. Assumes nothing. The check leaves each of these goals open without its answer.
use Rattle.std.proofs.Common.{refl}
use Rattle.method.specs.Curve.{base, up, down}
use Rattle.curves.proofs.three.Three.map_with.Goals as goal

pub f-requires : goal.f-requires
f-requires g c = c.requires base _ _ refl refl

pub f-requires-2 : goal.f-requires-2
f-requires-2 g c = c.requires up _ _ refl refl

pub f-requires-3 : goal.f-requires-3
f-requires-3 g c = c.requires down _ _ refl refl

pub returns : goal.returns
returns g c base = record { first = _; second = _; shows = (refl, refl); met = c.f.ensures }
returns g c up = record { first = _; second = _; shows = (refl, refl); met = c.f-2.ensures }
returns g c down = record { first = _; second = _; shows = (refl, refl); met = c.f-3.ensures }
