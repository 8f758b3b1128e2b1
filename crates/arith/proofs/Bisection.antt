-- Halving an interval, over any test: the lower end is on the left side of what is sought, the upper end on the right side.
-- A turn tests the middle, which becomes one of the ends. What is sought lies between the ends, so it is known once they are neighbours.
-- Assumes nothing.
use Prim.Native.Nat.{ℕ, ◌+◌, ◌/◌, ◌≤◌, ◌<◌}
use mathlib.Core.Path.{◌≡◌, sym, ◌∙◌}
use mathlib.Core.Bool.{Bool, true, false}
use lib.Dec.{leb}
use borrow.Author.Tests.{leb-true, leb-false}
use native.Mathlib.Omega.{arith}

-- the ends lo and hi, of which hi is at most n
pub record Parted (left right : ℕ → Type 0) (n lo hi : ℕ) : Type 0 where
  pub order : lo < hi
  pub most : hi ≤ n
  pub below : left lo
  pub above : right hi

module _ {left right : ℕ → Type 0} {n lo hi : ℕ} (p : Parted left right n lo hi) where
  -- what the test at the middle leaves
  pub middle-left : lo + 1 < hi → left ((lo + hi) / 2) → Parted left right n ((lo + hi) / 2) hi
  middle-left h l = record { order = omega arith; most = p.most; below = l; above = p.above }

  pub middle-right : lo + 1 < hi → right ((lo + hi) / 2) → Parted left right n lo ((lo + hi) / 2)
  middle-right h r = record { order = omega arith; most = omega (arith, p.most); below = p.below; above = r }

  -- what is known of neighbours
  pub neighbours : hi ≤ lo + 1 → left lo × right (lo + 1)
  neighbours h = let e : hi ≡ lo + 1 = omega (arith, p.order) in (p.below, rw e at p.above)

-- a test of p against n tells the same of their values q and m
pub test-true : (b : Bool) (p q n m : ℕ) → b ≡ leb p n → p ≡ q → n ≡ m → b ≡ true → q ≤ m
test-true b p q n m e f g t = rw (f, g) at (leb-true p n (sym e ∙ t))

pub test-false : (b : Bool) (p q n m : ℕ) → b ≡ leb p n → p ≡ q → n ≡ m → b ≡ false → m < q
test-false b p q n m e f g t = rw (f, g) at (leb-false p n (sym e ∙ t))
