-- Integers as differences of two natural numbers, so that `omega` does their arithmetic.
-- Assumes nothing.
use Prim.Native.Nat.{ℕ, zero, suc, ◌+◌, ◌*◌, ◌-◌, ◌≤◌, ◌<◌}
use mathlib.Core.Path.{◌≡◌, refl, ap, sym, ◌∙◌, subst}
use mathlib.Core.Bool.{Bool, true, false, not, cond}
use native.Mathlib.Omega.{arith}
use native.Mathlib.Nat.{not-suc-le-zero, mul-le-mul_left}
use lib.Dec.{T, ltb, leb→le, le→leb, ltb→lt, lt→ltb, nltb→le}
use lib.IntN.{ℤ, pos, negsuc, neg_ℤ, ◌+ℤ◌, ◌-ℤ◌, ◌*ℤ◌, sub_ℕ}
use lib.Signed.{le_z, ◌≤ℤ◌, ◌<ℤ◌}
use Rattle.method.specs.Curve.{natural}

-- z is a - b
abbrev pub Diff : ℤ → ℕ → ℕ → Type 0
Diff (pos n) a b = n + b ≡ a
Diff (negsuc n) a b = suc n + a ≡ b

-- the same difference of two other numbers
pub again : (z : ℤ) (a b c d : ℕ) → Diff z a b → a + d ≡ c + b → Diff z c d
again (pos n) a b c d h e = omega arith
again (negsuc n) a b c d h e = omega arith

-- of two numbers there is one difference
pub one-diff : (y z : ℤ) (a b : ℕ) → Diff y a b → Diff z a b → y ≡ z
one-diff (pos n) (pos m) a b h k = let e : n ≡ m = omega arith in ap pos e
one-diff (pos n) (negsuc m) a b h k = absurd (let never : ⊥ = omega arith in never)
one-diff (negsuc n) (pos m) a b h k = absurd (let never : ⊥ = omega arith in never)
one-diff (negsuc n) (negsuc m) a b h k = let e : n ≡ m = omega arith in ap negsuc e

diff-sub : (a b : ℕ) → Diff (sub_ℕ a b) a b
diff-sub a b = go (ltb a b) (λ t. ltb→lt a b t) (λ t. nltb→le a b t)
  where
    go : (x : Bool) → (T x → a < b) → (T (not x) → b ≤ a) → Diff (cond x (negsuc (b - suc a)) (pos (a - b))) a b
    go true p q = let h : a < b = p tt in omega arith
    go false p q = let h : b ≤ a = q tt in omega arith

pub diff-pos : (n : ℕ) → Diff (pos n) n 0
diff-pos n = omega arith

pub diff-sum : (y z : ℤ) (a b c d : ℕ) → Diff y a b → Diff z c d → Diff (y +ℤ z) (a + c) (b + d)
diff-sum (pos n) (pos m) a b c d h k = omega arith
diff-sum (pos n) (negsuc m) a b c d h k =
    again (sub_ℕ n (suc m)) n (suc m) (a + c) (b + d) (diff-sub n (suc m)) (omega arith)
diff-sum (negsuc n) (pos m) a b c d h k =
    again (sub_ℕ m (suc n)) m (suc n) (a + c) (b + d) (diff-sub m (suc n)) (omega arith)
diff-sum (negsuc n) (negsuc m) a b c d h k = omega arith

pub diff-neg : (z : ℤ) (a b : ℕ) → Diff z a b → Diff (neg_ℤ z) b a
diff-neg (pos zero) a b h = omega arith
diff-neg (pos (suc n)) a b h = omega arith
diff-neg (negsuc n) a b h = omega arith

pub diff-minus : (y z : ℤ) (a b c d : ℕ) → Diff y a b → Diff z c d → Diff (y -ℤ z) (a + d) (b + c)
diff-minus y z a b c d h k = diff-sum y (neg_ℤ z) a b d c h (diff-neg z c d k)

pub diff-times : (t : ℕ) (z : ℤ) (a b : ℕ) → Diff z a b → Diff (pos t *ℤ z) (t * a) (t * b)
diff-times t (pos n) a b h = omega (arith, ap (λ x. t * x) h)
diff-times t (negsuc n) a b h =
    again (neg_ℤ (pos (t * suc n))) 0 (t * suc n) (t * a) (t * b)
    (diff-neg (pos (t * suc n)) (t * suc n) 0 (omega arith)) (omega (arith, ap (λ x. t * x) h))

-- the order, both ways
pub diff-le : {y z : ℤ} (a b c d : ℕ) → Diff y a b → Diff z c d → y ≤ℤ z → a + d ≤ c + b
diff-le {y} {z} a b c d h k l = go y z h k l.le
  where
    go : (y z : ℤ) → Diff y a b → Diff z c d → T (le_z y z) → a + d ≤ c + b
    go (pos n) (pos m) h k t = let l : n ≤ m = leb→le n m t in omega arith
    go (pos n) (negsuc m) h k t = absurd t
    go (negsuc n) (pos m) h k t = omega arith
    go (negsuc n) (negsuc m) h k t = let l : m ≤ n = leb→le m n t in omega arith

pub le-diff : (y z : ℤ) (a b c d : ℕ) → Diff y a b → Diff z c d → a + d ≤ c + b → y ≤ℤ z
le-diff (pos n) (pos m) a b c d h k l = record { le = le→leb n m (omega arith) }
le-diff (pos n) (negsuc m) a b c d h k l = absurd (bad l)
  where
    bad : a + d ≤ c + b → ⊥
    bad l = omega arith
le-diff (negsuc n) (pos m) a b c d h k l = record { le = tt }
le-diff (negsuc n) (negsuc m) a b c d h k l = record { le = le→leb m n (omega arith) }

pub lt-diff : (y z : ℤ) (a b c d : ℕ) → Diff y a b → Diff z c d → a + d < c + b → y <ℤ z
lt-diff (pos n) (pos m) a b c d h k l = record { lt = lt→ltb n m (omega arith) }
lt-diff (pos n) (negsuc m) a b c d h k l = absurd (bad l)
  where
    bad : a + d < c + b → ⊥
    bad l = omega arith
lt-diff (negsuc n) (pos m) a b c d h k l = record { lt = tt }
lt-diff (negsuc n) (negsuc m) a b c d h k l = record { lt = lt→ltb m n (omega arith) }

-- a difference that is not below 0, as a natural number
pub natural-is : (z : ℤ) (a b n : ℕ) → Diff z a b → n + b ≡ a → natural z ≡ n
natural-is (pos m) a b n h e = omega arith
natural-is (negsuc m) a b n h e = absurd (bad h)
  where
    bad : suc m + a ≡ b → ⊥
    bad h = omega arith

-- where the natural number is above 0, it is the integer itself
pub not-cut : (z : ℤ) → 0 < natural z → pos (natural z) ≡ z
not-cut (pos n) h = refl
not-cut (negsuc n) h = absurd (not-suc-le-zero h)

-- r is m + z: z raised by m
pub raised-diff : (z : ℤ) (r m : ℕ) → pos r ≡ pos m +ℤ z → Diff z r m
raised-diff (pos n) r m e = let k : Diff (pos r) (m + n) 0 = subst (λ y. Diff y (m + n) 0) (sym e) (diff-pos (m + n)) in omega arith
raised-diff (negsuc n) r m e = let k : Diff (pos r) m (suc n) = subst (λ y. Diff y m (suc n)) (sym e) (diff-sub m (suc n)) in omega arith

pub diff-raised : (z : ℤ) (r m : ℕ) → Diff z r m → pos r ≡ pos m +ℤ z
diff-raised z r m h =
    one-diff (pos r) (pos m +ℤ z) (m + r) (0 + m) (omega arith) (diff-sum (pos m) z m 0 r m (diff-pos m) h)

-- ---- multiples of an integer

-- an integer as a difference of two naturals, one of which is 0
abbrev pub above : ℤ → ℕ
above (pos n) = n
above (negsuc n) = 0

abbrev pub below : ℤ → ℕ
below (pos n) = 0
below (negsuc n) = suc n

pub diff-self : (z : ℤ) → Diff z (above z) (below z)
diff-self (pos n) = omega arith
diff-self (negsuc n) = omega arith

pub times-sum : (g : ℕ) (y z : ℤ) → pos g *ℤ (y +ℤ z) ≡ pos g *ℤ y +ℤ pos g *ℤ z
times-sum g y z =
    let a = above y in
    let b = below y in
    let c = above z in
    let d = below z in
    one-diff (pos g *ℤ (y +ℤ z)) (pos g *ℤ y +ℤ pos g *ℤ z) (g * (a + c)) (g * (b + d))
    (diff-times g (y +ℤ z) (a + c) (b + d) (diff-sum y z a b c d (diff-self y) (diff-self z)))
    (again (pos g *ℤ y +ℤ pos g *ℤ z) (g * a + g * c) (g * b + g * d) (g * (a + c)) (g * (b + d))
    (diff-sum (pos g *ℤ y) (pos g *ℤ z) (g * a) (g * b) (g * c) (g * d) (diff-times g y a b (diff-self y)) (diff-times g z c d (diff-self z)))
    (omega arith))

pub times-minus : (g : ℕ) (y z : ℤ) → pos g *ℤ (y -ℤ z) ≡ pos g *ℤ y -ℤ pos g *ℤ z
times-minus g y z =
    let a = above y in
    let b = below y in
    let c = above z in
    let d = below z in
    one-diff (pos g *ℤ (y -ℤ z)) (pos g *ℤ y -ℤ pos g *ℤ z) (g * (a + d)) (g * (b + c))
    (diff-times g (y -ℤ z) (a + d) (b + c) (diff-minus y z a b c d (diff-self y) (diff-self z)))
    (again (pos g *ℤ y -ℤ pos g *ℤ z) (g * a + g * d) (g * b + g * c) (g * (a + d)) (g * (b + c))
    (diff-minus (pos g *ℤ y) (pos g *ℤ z) (g * a) (g * b) (g * c) (g * d) (diff-times g y a b (diff-self y)) (diff-times g z c d (diff-self z)))
    (omega arith))

pub times-times : (g t : ℕ) (z : ℤ) → pos t *ℤ (pos g *ℤ z) ≡ pos g *ℤ (pos t *ℤ z)
times-times g t z =
    let a = above z in
    let b = below z in
    one-diff (pos t *ℤ (pos g *ℤ z)) (pos g *ℤ (pos t *ℤ z)) (t * (g * a)) (t * (g * b))
    (diff-times t (pos g *ℤ z) (g * a) (g * b) (diff-times g z a b (diff-self z)))
    (again (pos g *ℤ (pos t *ℤ z)) (g * (t * a)) (g * (t * b)) (t * (g * a)) (t * (g * b))
    (diff-times g (pos t *ℤ z) (t * a) (t * b) (diff-times t z a b (diff-self z))) (omega arith))

pub times-pos : (g t : ℕ) (z : ℤ) → pos (g * t) *ℤ z ≡ pos g *ℤ (pos t *ℤ z)
times-pos g t z =
    let a = above z in
    let b = below z in
    one-diff (pos (g * t) *ℤ z) (pos g *ℤ (pos t *ℤ z)) (g * t * a) (g * t * b) (diff-times (g * t) z a b (diff-self z))
    (again (pos g *ℤ (pos t *ℤ z)) (g * (t * a)) (g * (t * b)) (g * t * a) (g * t * b)
    (diff-times g (pos t *ℤ z) (t * a) (t * b) (diff-times t z a b (diff-self z))) (omega arith))

pub natural-times : (g : ℕ) (z : ℤ) → natural (pos g *ℤ z) ≡ g * natural z
natural-times g (pos n) = natural-is (pos g *ℤ pos n) (g * n) (g * 0) (g * n) (diff-times g (pos n) n 0 (diff-pos n)) (omega arith)
natural-times g (negsuc n) = cut (pos g *ℤ negsuc n) (g * suc n) (again (pos g *ℤ negsuc n) (g * 0) (g * suc n) 0 (g * suc n) (diff-times g (negsuc n) 0 (suc n) (omega arith)) (omega arith)) ∙ zero-out
  where
    cut : (z : ℤ) (b : ℕ) → Diff z 0 b → natural z ≡ 0
    cut (pos m) b h = omega arith
    cut (negsuc m) b h = refl

    zero-out : 0 ≡ g * 0
    zero-out = omega arith

-- the order
pub times-le : (g : ℕ) (y z : ℤ) → y ≤ℤ z → (pos g *ℤ y) ≤ℤ (pos g *ℤ z)
times-le g y z h =
    let a = above y in
    let b = below y in
    let c = above z in
    let d = below z in
    le-diff (pos g *ℤ y) (pos g *ℤ z) (g * a) (g * b) (g * c) (g * d) (diff-times g y a b (diff-self y)) (diff-times g z c d (diff-self z))
    (omega (arith, mul-le-mul_left g (diff-le {y = y} {z = z} a b c d (diff-self y) (diff-self z) h)))

pub times-neg : (g a : ℕ) → pos g *ℤ neg_ℤ (pos a) ≡ neg_ℤ (pos (g * a))
times-neg g a =
    one-diff (pos g *ℤ neg_ℤ (pos a)) (neg_ℤ (pos (g * a))) (g * 0) (g * a) (diff-times g (neg_ℤ (pos a)) 0 a (diff-neg (pos a) a 0 (diff-pos a)))
    (again (neg_ℤ (pos (g * a))) 0 (g * a) (g * 0) (g * a) (diff-neg (pos (g * a)) (g * a) 0 (diff-pos (g * a))) (omega arith))
