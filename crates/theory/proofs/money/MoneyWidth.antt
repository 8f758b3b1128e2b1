-- The widths of the money figures. S moves no more than its parts move together: it is the root of a sum of squares with a correlation
-- of at most 1, and such a root has slope at most 1 in each part (`grow`). S1 is 2 × WL + 2 × WB wide, from two values of L and two of
-- B; S2 to S5 are rounded once, S2 as a root, so 1 each; S6 is WL + 1, since the mortality margin is at most 1 (`slope`); and S is
-- rounded once more. That is 3 × WL + 2 × WB + 6, and 8 are allowed.
-- Assumes nothing.
use Prim.Native.Nat.{ℕ, ◌+◌, ◌*◌, ◌^◌, ◌≤◌, ◌<◌, max}
use native.Mathlib.Omega.{arith}
use native.Mathlib.Nat.{mul-le-mul, mul-le-mul_left, mul-le-mul_right, mul_comm}
use Rattle.arith.specs.Rounding.{low, high}
use Rattle.arith.specs.Root.{root}
use Rattle.arith.proofs.Rounding.{divide-width}
use Rattle.arith.proofs.Root.{unsquare, root-floor, root-le}
use Rattle.model.specs.Case.{FileCase, age_gap}
use Rattle.model.specs.Limits.{WithinLimits}
use Rattle.method.specs.Curve.{Move, base, up, down, curve}
use Rattle.method.specs.Rounded as Rounded
use Rattle.method.specs.Rounded.{class_squares, mortality, buffer}
use Rattle.method.specs.Margins.{WL, WB}
use Rattle.theory.proofs.curve.CaseCurves.{curve-within}
use Rattle.theory.proofs.money.Worth.{adjusted-known, unadjusted-known, worth-width}

-- what is under the root of the buffer, times 1,000
abbrev squares : ℕ → ℕ → ℕ → ℕ → ℕ → ℕ → ℕ → ℕ
squares c a b x y z v = 1000 * (a * a + b * b + x * x + y * y + z * z + v * v) + 2 * c * (a * b)

-- past the floor root of x ÷ b, and reached by the ceiling root
past : (x b : ℕ) → 0 < b → x ≤ (root low x b + 1) * (root low x b + 1) * b
past x b h = omega (arith, (root-floor x b h).last)

-- a root of whole numbers is at most 1 wide
root-width : (x b : ℕ) → 0 < b → root high x b ≤ root low x b + 1
root-width x b h = root-le high x b (root low x b + 1) h (past x b h)

-- l √(p ÷ b) with p at most b: the root moves no more than l does
slope : (l h w p b R : ℕ) → h ≤ l + w → p ≤ b → l * l * p ≤ R * R * b → h * h * p ≤ (R + w) * (R + w) * b
slope l h w p b R k1 k2 k3 =
    let s : l * p ≤ R * b = unsquare (l * p) (R * b) (omega (arith, mul-le-mul_right p k3, mul-le-mul_left (R * R * b) k2)) in
    omega (arith, mul-le-mul_right p (mul-le-mul k1 k1), mul-le-mul_left (2 * w) s, mul-le-mul_left (w * w) k2)

-- the root of 1000 z² + 2 m z + K, over 1000, moves no more than z does
grow : (z b d m K R : ℕ) → b ≤ z + d → m * m ≤ 1000 * K → 1000 * (z * z) + 2 * (m * z) + K ≤ 1000 * (R * R)
    → 1000 * (b * b) + 2 * (m * b) + K ≤ 1000 * ((R + d) * (R + d))
grow z b d m K R hb hm h =
    let s : 1000 * z + m ≤ 1000 * R = unsquare (1000 * z + m) (1000 * R) (omega arith) in
    omega (arith, mul-le-mul hb hb, mul-le-mul_left m hb, mul-le-mul_left d s)

-- one of the six moves: the first (so too the second), and the third (so too the rest)
move1 : (c z b d y v w x u R : ℕ) → c ≤ 1000 → b ≤ z + d → squares c z y v w x u ≤ 1000 * (R * R) → squares c b y v w x u ≤ 1000 * ((R + d) * (R + d))
move1 c z b d y v w x u R hc hb h =
    let K : ℕ = 1000 * (y * y + v * v + w * w + x * x + u * u) in
    let m : c * y * (c * y) ≤ 1000 * K = omega (arith, mul-le-mul_right (y * y) (mul-le-mul hc hc)) in
    omega (arith, grow z b d (c * y) K R hb m (omega arith))

move3 : (c y v z b d w x u R : ℕ) → b ≤ z + d → squares c y v z w x u ≤ 1000 * (R * R) → squares c y v b w x u ≤ 1000 * ((R + d) * (R + d))
move3 c y v z b d w x u R hb h =
    omega (arith, grow z b d 0 (1000 * (y * y + v * v + w * w + x * x + u * u) + 2 * c * (y * v)) R hb (omega arith) (omega arith))

six : (c a1 a2 a3 a4 a5 a6 b1 b2 b3 b4 b5 b6 d1 d6 R : ℕ) → c ≤ 1000
    → b1 ≤ a1 + d1 → b2 ≤ a2 + 1 → b3 ≤ a3 + 1 → b4 ≤ a4 + 1 → b5 ≤ a5 + 1 → b6 ≤ a6 + d6
    → squares c a1 a2 a3 a4 a5 a6 ≤ 1000 * (R * R)
    → squares c b1 b2 b3 b4 b5 b6 ≤ 1000 * ((R + d1 + 1 + 1 + 1 + 1 + d6) * (R + d1 + 1 + 1 + 1 + 1 + d6))
six c a1 a2 a3 a4 a5 a6 b1 b2 b3 b4 b5 b6 d1 d6 R hc h1 h2 h3 h4 h5 h6 h =
    let s1 : squares c b1 a2 a3 a4 a5 a6 ≤ 1000 * ((R + d1) * (R + d1)) = move1 c a1 b1 d1 a2 a3 a4 a5 a6 R hc h1 h in
    let s2 = move1 c a2 b2 1 b1 a3 a4 a5 a6 (R + d1) hc h2 (swap2 c b1 a2 a3 a4 a5 a6 (1000 * ((R + d1) * (R + d1))) s1) in
    let s2' = swap2 c b2 b1 a3 a4 a5 a6 (1000 * ((R + d1 + 1) * (R + d1 + 1))) s2 in
    let s3 = move3 c b1 b2 a3 b3 1 a4 a5 a6 (R + d1 + 1) h3 s2' in
    let s4 = move3 c b1 b2 a4 b4 1 a5 a6 b3 (R + d1 + 1 + 1) h4 (turn c b1 b2 b3 a4 a5 a6 (1000 * ((R + d1 + 1 + 1) * (R + d1 + 1 + 1))) s3) in
    let s5 = move3 c b1 b2 a5 b5 1 a6 b3 b4 (R + d1 + 1 + 1 + 1) h5 (turn c b1 b2 b4 a5 a6 b3 (1000 * ((R + d1 + 1 + 1 + 1) * (R + d1 + 1 + 1 + 1))) s4) in
    let s6 = move3 c b1 b2 a6 b6 d6 b3 b4 b5 (R + d1 + 1 + 1 + 1 + 1) h6 (turn c b1 b2 b5 a6 b3 b4 (1000 * ((R + d1 + 1 + 1 + 1 + 1) * (R + d1 + 1 + 1 + 1 + 1))) s5) in
    turn c b1 b2 b6 b3 b4 b5 (1000 * ((R + d1 + 1 + 1 + 1 + 1 + d6) * (R + d1 + 1 + 1 + 1 + 1 + d6))) s6
  where
    swap2 : (c a b v w x u z : ℕ) → squares c a b v w x u ≤ z → squares c b a v w x u ≤ z
    swap2 c a b v w x u z h = omega arith

    turn : (c a b v w x u z : ℕ) → squares c a b v w x u ≤ z → squares c a b w x u v ≤ z
    turn c a b v w x u z h = omega arith

-- the root buffer, from the six widths
S-wide : (c a1 a2 a3 a4 a5 a6 b1 b2 b3 b4 b5 b6 x y : ℕ) → c ≤ 1000
    → b1 ≤ a1 + (2 * x + 2 * y) → b2 ≤ a2 + 1 → b3 ≤ a3 + 1 → b4 ≤ a4 + 1 → b5 ≤ a5 + 1 → b6 ≤ a6 + (x + 1)
    → buffer high c b1 b2 b3 b4 b5 b6 ≤ buffer low c a1 a2 a3 a4 a5 a6 + (3 * x + 2 * y + 8)
S-wide c a1 a2 a3 a4 a5 a6 b1 b2 b3 b4 b5 b6 x y hc h1 h2 h3 h4 h5 h6 =
    let r : ℕ = buffer low c a1 a2 a3 a4 a5 a6 in
    let m : ℕ = r + 1 + (2 * x + 2 * y) + 1 + 1 + 1 + 1 + (x + 1) in
    omega (
      arith,
      root-le high (squares c b1 b2 b3 b4 b5 b6) 1000 m (omega arith)
          (right (m * m) (six c a1 a2 a3 a4 a5 a6 b1 b2 b3 b4 b5 b6 (2 * x + 2 * y) (x + 1) (r + 1) hc h1 h2 h3 h4 h5 h6
          (left ((r + 1) * (r + 1)) (past (squares c a1 a2 a3 a4 a5 a6) 1000 (omega arith))))),
    )
  where
    left : (q : ℕ) → squares c a1 a2 a3 a4 a5 a6 ≤ q * 1000 → squares c a1 a2 a3 a4 a5 a6 ≤ 1000 * q
    left q h = rw (mul_comm 1000 q) h

    right : (q : ℕ) → squares c b1 b2 b3 b4 b5 b6 ≤ 1000 * q → squares c b1 b2 b3 b4 b5 b6 ≤ q * 1000
    right q h = rw (mul_comm q 1000) h

-- the mortality margin is at most 100 percent
pub share : (h d : ℕ) → 0 < h → d ≤ 1200 → mortality h d ≤ 256000000 * h
share h d hh hd =
    let s : 320 + 3 * d ≤ 3920 = omega arith in
    omega (arith, mul-le-mul_left h (mul-le-mul s s))

max-wide : (a b c d v : ℕ) → c ≤ a + v → d ≤ b + v → max 0 (max c d) ≤ max 0 (max a b) + v
max-wide a b c d v h k = omega arith

module _ (k : FileCase) (w : WithinLimits k) where
  pub L-width : (m : Move) → Rounded.L k m high ≤ Rounded.L k m low + WL k
  L-width m = worth-width (adjusted-known (curve k m) (curve-within k w m)) k.pension w.most_pension

  pub B-width : (m : Move) → Rounded.B k m high ≤ Rounded.B k m low + WB k
  B-width m = worth-width (unadjusted-known (curve k m) (curve-within k w m)) k.bonds w.most_bonds

  pub A-width : Rounded.A k high ≤ Rounded.A k low + WB k
  A-width = omega (arith, B-width base)

  fall-width : (m : Move) → Rounded.fall k m high ≤ Rounded.fall k m low + (2 * WL k + 2 * WB k)
  fall-width m = omega (arith, B-width base, L-width m, B-width m, L-width base)

  S1-width : Rounded.S1 k high ≤ Rounded.S1 k low + (2 * WL k + 2 * WB k)
  S1-width = max-wide (Rounded.fall k up low) (Rounded.fall k down low) (Rounded.fall k up high) (Rounded.fall k down high) (2 * WL k + 2 * WB k) (fall-width up) (fall-width down)

  S6-width : Rounded.S6 k high ≤ Rounded.S6 k low + (WL k + 1)
  S6-width =
      let h : ℕ = k.people.heads in
      let d : ℕ = age_gap k.people in
      let b : ℕ = 256000000 * h in
      let hb : 0 < b = omega (arith, w.people.some) in
      let r : ℕ = Rounded.S6 k low in
      omega (
        arith,
        root-le high (Rounded.L k base high * Rounded.L k base high * mortality h d) b (r + 1 + WL k) hb
            (slope (Rounded.L k base low) (Rounded.L k base high) (WL k) (mortality h d) b (r + 1) (L-width base)
            (share h d w.people.some (omega (arith, w.people.pension_age)))
            (past (Rounded.L k base low * Rounded.L k base low * mortality h d) b hb)),
      )

  pub S-width : Rounded.S k high ≤ Rounded.S k low + (3 * WL k + 2 * WB k + 8)
  S-width =
      let a = k.amounts in
      let x = k.shocks in
      S-wide x.correlation (Rounded.S1 k low) (Rounded.S2 k low) (Rounded.S3 k low) (Rounded.S4 k low) (Rounded.S5 k low) (Rounded.S6 k low)
      (Rounded.S1 k high) (Rounded.S2 k high) (Rounded.S3 k high) (Rounded.S4 k high) (Rounded.S5 k high) (Rounded.S6 k high) (WL k) (WB k)
      w.shocks.correlation
      S1-width
      (root-width
      (class_squares x.equity_correlation (a.mature * x.mature_fall) (a.emerging * x.emerging_fall) (a.private * x.private_fall) (a.property * x.property_fall))
      100000 (omega arith))
      (divide-width (100 * (a.currency * x.currency_fall)) 1000 (omega arith))
      (divide-width (100 * (a.commodities * x.commodities_fall)) 1000 (omega arith))
      (divide-width (100 * (a.credit * x.duration * x.spread * x.spread_rise)) (10 ^ 9) (omega arith))
      S6-width
