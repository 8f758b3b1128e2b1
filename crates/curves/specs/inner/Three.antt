-- What is worked out on each of the three curves, by the curve; and back.
use Rattle.std.specs.Prelude.{◌≡◌}
use Rattle.std.specs.Borrow.{Bor}
use Rattle.std.specs.Fn.{Shared}
use Rattle.method.specs.Curve.{Move, base, up, down}
use Rattle.curves.specs.declared.three.Three.{Three}

abbrev pub on : {A : Type 0} → Three A → Move → A
on t base = t.base
on t up = t.up
on t down = t.down

abbrev pub three : {A : Type 0} → (Move → A) → Three A
three f = record { base = f base; up = f up; down = f down }

-- f may be called at a `&` to x
abbrev pub TakesAt : {F T R : Type 0} → Shared F (Bor T × Unit {0}) R → F → T → Type 0
TakesAt {F} {T} g f x = (p : Bor T) → p.now ≡ x → g.pre f (p, tt)

-- and at a `&` to x and one to y
abbrev pub TakesAtPair : {F S T R : Type 0} → Shared F (Bor S × (Bor T × Unit {0})) R → F → S → T → Type 0
TakesAtPair {F} {S} {T} g f x y = (p : Bor S) (q : Bor T) → p.now ≡ x → q.now ≡ y → g.pre f (p, (q, tt))

-- a call at a `&` to x and one to y may give r
pub record ReturnsAtPair {F S T R : Type 0} (g : Shared F (Bor S × (Bor T × Unit {0})) R) (f : F) (x : S) (y : T) (r : R) : Type 0 where
  pub first : Bor S
  pub second : Bor T
  pub shows : (first.now ≡ x) × (second.now ≡ y)
  pub met : g.post f (first, (second, tt)) r
