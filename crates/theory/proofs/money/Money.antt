-- Every money figure lies in its bracket, since each is made by steps that keep one (Steps): a difference takes the other end of what it
-- subtracts, and a maximum is taken of each end. S2 and S6 are roots of fractions, so their squares are compared; the square of S holds the
-- root of S2, and is compared by squaring once more (Rooted).
-- Assumes nothing.
use Prim.Native.Nat.{ℕ, ◌+◌, ◌*◌, ◌^◌, ◌≤◌, ◌<◌, max}
use mathlib.Core.Path.{◌≡◌}
use native.Mathlib.Omega.{arith}
use native.Mathlib.Nat.{mul-le-mul_left, mul-le-mul_right, le_of_mul-le-mul_right, mul-pos, max-eq_left, max-eq_right, max_comm, le-max_right}
use native.Mathlib.Decide.{dec_le}
use lib.Dec.{lit<}
use Rattle.arith.specs.Rounding.{End, low, high, other, divide}
use Rattle.arith.specs.Root.{root}
use Rattle.arith.proofs.Ends.{◌and◌, ◌times◌, from, cancel, divide-end, root-end}
use Rattle.method.specs.Fraction.{Fraction, ◌//◌, ◌+ᶠ◌, ◌*ᶠ◌, square, whole, larger, ◌≤ᶠ◌, RealRooted}
use Rattle.model.specs.Case.{FileCase, all_except_currency, age_gap}
use Rattle.model.specs.Limits.{WithinLimits}
use Rattle.method.specs.Curve.{Move, base, up, down, curve}
use Rattle.method.specs.Exact as Exact
use Rattle.method.specs.Exact.{loss, squares_of, pairs_of}
use Rattle.method.specs.Rounded as Rounded
use Rattle.method.specs.Rounded.{class_squares, mortality}
use Rattle.method.specs.Containment.{RootedOrdered}
use Rattle.theory.proofs.curve.Bracket.{Bounded}
use Rattle.theory.proofs.curve.CaseCurves.{curve-within}
use Rattle.theory.proofs.general.Conditions.{cond-le, cond-gt}
use Rattle.theory.proofs.curve.Steps.{exactly, same, sum, minus, prod}
use Rattle.theory.proofs.money.Rooted.{rooted-in}
use Rattle.theory.proofs.money.Worth.{adjusted-known, unadjusted-known, worth-in, worth-den}

-- maxima: a lower end of x is also a lower end of every y that x is at most
carry : (u n a b c d : ℕ) → 0 < b → a * d ≤ c * b → n * b ≤ u * a → n * d ≤ u * c
carry u n a b c d hb k h =
    le_of_mul-le-mul_right {m = n * d} {n = u * c} (omega (arith, mul-le-mul_right d h, mul-le-mul_left u k)) hb

max-le-times : (n m d z : ℕ) → n * d ≤ z → m * d ≤ z → max n m * d ≤ z
max-le-times n m d z h l = go (dec_le n m)
  where
    go : Dec (n ≤ m) → max n m * d ≤ z
    go (yes k) = rw (max-eq_right k) l
    go (no k) = rw (max-eq_left {n = n} {m = m} (omega arith)) h

-- needs both ends: the larger of two lower ends is no more than the larger figure, and one of two upper ends is no less
max-in : (e : End) {u n m : ℕ} {x y : Fraction} → 0 < x.den → x ≤ᶠ y → Bounded e u n x → Bounded e u m y → Bounded e u (max n m) y
max-in low {u} {n} {m} {x} {y} hx k h l =
    record { is = record { le = max-le-times n m y.den (u * y.num) (carry u n x.num x.den y.num y.den hx k h.is.le) l.is.le } }
max-in high {u} {n} {m} {x} {y} hx k h l = omega (arith, l.is.le, mul-le-mul_right y.den (le-max_right n m))

larger-in : {e : End} {u n m : ℕ} {x y : Fraction} → 0 < x.den → 0 < y.den → Bounded e u n x → Bounded e u m y → Bounded e u (max n m) (larger x y)
larger-in {e} {u} {n} {m} {x} {y} hx hy h l = go (dec_le (x.num * y.den) (y.num * x.den))
  where
    go : Dec (x.num * y.den ≤ y.num * x.den) → Bounded e u (max n m) (larger x y)
    go (yes k) = rw (cond-le (x.num * y.den) (y.num * x.den) y x k) (max-in e {x = x} hx k h l)
    go (no k) = rw (cond-gt (x.num * y.den) (y.num * x.den) y x (omega arith), max_comm n m) (max-in e {x = y} hy (omega arith) l h)

larger-den : (x y : Fraction) → 0 < x.den → 0 < y.den → 0 < (larger x y).den
larger-den x y hx hy = go (dec_le (x.num * y.den) (y.num * x.den))
  where
    go : Dec (x.num * y.den ≤ y.num * x.den) → 0 < (larger x y).den
    go (yes h) = rw (cond-le (x.num * y.den) (y.num * x.den) y x h) hy
    go (no h) = rw (cond-gt (x.num * y.den) (y.num * x.den) y x (omega arith)) hx

-- one rounding of a fraction; finer units; a root
once : (e : End) (a b : ℕ) → 0 < b → Bounded e 1 (divide e a b) (a // b)
once e a b h = record { is = from (divide-end e a b h) (omega arith) }

thousand : {e : End} {u n : ℕ} {x : Fraction} → Bounded e u n x → Bounded e (1000 * u) (1000 * n) x
thousand h = record { is = from (h.is times 1000) (omega arith) }

-- the root of n ÷ d, squared, where n counts x in units of 1 over d
rooted : {e : End} {d n : ℕ} {x : Fraction} → 0 < d → Bounded e d n x → Bounded e 1 (root e n d * root e n d) x
rooted {e} {d} {n} {x} hd h = record { is = cancel hd (from (root-end e n d hd times x.den and h.is) (omega arith)) }

twice : {e : End} {u n : ℕ} {x : Fraction} (c : ℕ) → Bounded e u n x → Bounded e (1000 * u) (2 * c * n) (((2 * c) // 1000) *ᶠ x)
twice c h = record { is = from (h.is times (2000 * c)) (omega arith) }

-- l² × m counts the square of a figure that l counts, times m over d, in units of 1 over d
factored : {e : End} {n : ℕ} {x : Fraction} (m d : ℕ) → Bounded e 1 n x → Bounded e d (n * m) (x *ᶠ (m // d))
factored m d h = record { is = from (h.is times (m * d)) (omega arith) }

S6-same : (x y h d : ℕ)
    → x * (h * ((320 + 3 * d) * (320 + 3 * d)) + 92160000) * (y * (230400 * h * 10000))
    ≡ x * (((960 + 9 * d * 1) * (960 + 9 * d * 1) * h + 829440000) * 1) * (y * (256000000 * h))
S6-same x y h d = omega arith

-- the four class losses, in tenths of a cent: the sum of their squares and of the pairs' products, with a correlation of c thousandths
pub tenths : {e : End} (euros thousandths : ℕ) → Bounded e 10 (euros * thousandths) (loss euros thousandths)
tenths euros thousandths = exactly (omega arith)

pub class-squares-in : {e : End} {a1 a2 a3 a4 : ℕ} {x1 x2 x3 x4 : Fraction} (c : ℕ)
    → Bounded e 10 a1 x1 → Bounded e 10 a2 x2 → Bounded e 10 a3 x3 → Bounded e 10 a4 x4
    → Bounded e 100000 (class_squares c a1 a2 a3 a4) (squares_of x1 x2 x3 x4 +ᶠ ((2 * c) // 1000) *ᶠ pairs_of x1 x2 x3 x4)
class-squares-in c h1 h2 h3 h4 =
    sum (thousand (sum (sum (sum (prod h1 h1) (prod h2 h2)) (prod h3 h3)) (prod h4 h4)))
    (twice c (sum (sum (sum (sum (sum (prod h1 h2) (prod h1 h3)) (prod h1 h4)) (prod h2 h3)) (prod h2 h4)) (prod h3 h4)))

-- S², by its plain part and by the square of the part that holds the root
plain_in : (e : End) (a1 a2 a3 a4 a5 a6 : ℕ) (x1 x2² x3 x4 x5 x6² : Fraction)
    → Bounded e 1 a1 x1 → Bounded e 1 (a2 * a2) x2² → Bounded e 1 a3 x3 → Bounded e 1 a4 x4 → Bounded e 1 a5 x5 → Bounded e 1 (a6 * a6) x6²
    → Bounded e 1 (a1 * a1 + a2 * a2 + a3 * a3 + a4 * a4 + a5 * a5 + a6 * a6)
    (square x1 +ᶠ x2² +ᶠ square x3 +ᶠ square x4 +ᶠ square x5 +ᶠ x6²)
plain_in e a1 a2 a3 a4 a5 a6 x1 x2² x3 x4 x5 x6² h1 h2 h3 h4 h5 h6 =
    sum (sum (sum (sum (sum (prod h1 h1) h2) (prod h3 h3)) (prod h4 h4)) (prod h5 h5)) h6

root-part-in : (e : End) (c a1 a2 : ℕ) (x1 x2² : Fraction) → Bounded e 1 a1 x1 → Bounded e 1 (a2 * a2) x2²
    → Bounded e (1000 * 1000) (2 * c * (a1 * a2) * (2 * c * (a1 * a2))) (square (((2 * c) // 1000) *ᶠ x1) *ᶠ x2²)
root-part-in e c a1 a2 x1 x2² h1 h2 =
    let q : 2 * c * a1 * (2 * c * a1) * (a2 * a2) ≡ 2 * c * (a1 * a2) * (2 * c * (a1 * a2)) = omega arith in
    rw (← q) (prod (prod (twice c h1) (twice c h1)) h2)

-- the rounded numerators are those of the exact losses
loss-same : (a f : ℕ) → 100 * (a * f) * (1 * 1000) ≡ 100 * a * f * 1000
loss-same a f = omega arith

S5-same : (a d s r : ℕ) → 100 * (a * d * s * r) * (1 * 10 * 100000 * 1000) ≡ 100 * a * d * s * r * 10 ^ 9
S5-same a d s r = omega arith

-- ---- the figures of a case within the limits
module _ (k : FileCase) (w : WithinLimits k) where
  pub L-in : (m : Move) (e : End) → Bounded e 1 (Rounded.L k m e) (Exact.L k m)
  L-in m e = worth-in (adjusted-known (curve k m) (curve-within k w m)) e 1 k.pension (omega (arith, w.most_pension))

  pub B-in : (m : Move) (e : End) → Bounded e 1 (Rounded.B k m e) (Exact.B k m)
  B-in m e = worth-in (unadjusted-known (curve k m) (curve-within k w m)) e 1 k.bonds (omega (arith, w.most_bonds))

  pub L-den : (m : Move) → 0 < (Exact.L k m).den
  L-den m = worth-den (adjusted-known (curve k m) (curve-within k w m)) 1 k.pension (omega (arith, w.most_pension))

  pub B-den : (m : Move) → 0 < (Exact.B k m).den
  B-den m = worth-den (unadjusted-known (curve k m) (curve-within k w m)) 1 k.bonds (omega (arith, w.most_bonds))

  pub A-in : (e : End) → Bounded e 1 (Rounded.A k e) (Exact.A k)
  A-in e = sum (B-in base e) (exactly {x = whole (100 * all_except_currency k.amounts)} (omega arith))

  pub A-den : 0 < (Exact.A k).den
  A-den = omega (arith, B-den base)

  fall-in : (m : Move) (e : End) → Bounded e 1 (Rounded.fall k m e) (Exact.fall k m)
  fall-in m e = minus e (sum (B-in base e) (L-in m e)) (sum (B-in m (other e)) (L-in base (other e)))

  fall-den : (m : Move) → 0 < (Exact.fall k m).den
  fall-den m = mul-pos (mul-pos (B-den base) (L-den m)) (mul-pos (B-den m) (L-den base))

  falls-den : 0 < (larger (Exact.fall k up) (Exact.fall k down)).den
  falls-den = larger-den (Exact.fall k up) (Exact.fall k down) (fall-den up) (fall-den down)

  pub S1-in : (e : End) → Bounded e 1 (Rounded.S1 k e) (Exact.S1 k)
  S1-in e =
      larger-in {x = whole 0} (omega arith) falls-den (exactly (omega arith)) (larger-in (fall-den up) (fall-den down) (fall-in up e) (fall-in down e))

  pub S1-den : 0 < (Exact.S1 k).den
  S1-den = larger-den (whole 0) (larger (Exact.fall k up) (Exact.fall k down)) (omega arith) falls-den

  -- S2 through its square: a root of whole numbers
  pub S2-in : (e : End) → Bounded e 1 (Rounded.S2 k e * Rounded.S2 k e) (Exact.S2² k)
  S2-in e =
      let a = k.amounts in
      let x = k.shocks in
      rooted (lit< tt)
      (class-squares-in x.equity_correlation (tenths a.mature x.mature_fall) (tenths a.emerging x.emerging_fall)
      (tenths a.private x.private_fall) (tenths a.property x.property_fall))

  pub S2-den : 0 < (Exact.S2² k).den
  S2-den = lit< tt

  loss-in : (e : End) (euros thousandths : ℕ) → Bounded e 1 (divide e (100 * (euros * thousandths)) 1000) (loss euros thousandths)
  loss-in e euros thousandths =
      same (loss euros thousandths) (omega arith) (loss-same euros thousandths) (once e (100 * (euros * thousandths)) 1000 (omega arith))

  pub S3-in : (e : End) → Bounded e 1 (Rounded.S3 k e) (Exact.S3 k)
  S3-in e = loss-in e k.amounts.currency k.shocks.currency_fall

  pub S4-in : (e : End) → Bounded e 1 (Rounded.S4 k e) (Exact.S4 k)
  S4-in e = loss-in e k.amounts.commodities k.shocks.commodities_fall

  pub S5-in : (e : End) → Bounded e 1 (Rounded.S5 k e) (Exact.S5 k)
  S5-in e =
      let x = k.shocks in
      same (Exact.S5 k) (omega arith) (S5-same k.amounts.credit x.duration x.spread x.spread_rise)
      (once e (100 * (k.amounts.credit * x.duration * x.spread * x.spread_rise)) (10 ^ 9) (omega arith))

  -- S6 and S through their squares
  heads-pos : 0 < 256000000 * k.people.heads
  heads-pos = omega (arith, w.people.some)

  pub S6-in : (e : End) → Bounded e 1 (Rounded.S6 k e * Rounded.S6 k e) (Exact.S6² k)
  S6-in e =
      let h : ℕ = k.people.heads in
      let d : ℕ = age_gap k.people in
      same (Exact.S6² k) (mul-pos (mul-pos (L-den base) (L-den base)) heads-pos)
      (S6-same ((Exact.L k base).num * (Exact.L k base).num) ((Exact.L k base).den * (Exact.L k base).den) h d)
      (rooted heads-pos (factored (mortality h d) (256000000 * h) (prod (L-in base e) (L-in base e))))

  pub S6-den : 0 < (Exact.S6² k).den
  S6-den = mul-pos (mul-pos (L-den base) (L-den base)) (omega (arith, w.people.some))

  pub S-in : (e : End) → RootedOrdered e (Rounded.S k e * Rounded.S k e) (Exact.S² k)
  S-in e =
      let c : ℕ = k.shocks.correlation in
      let (s1, s2, s3, s4, s5, s6) : ℕ × ℕ × ℕ × ℕ × ℕ × ℕ =
      (Rounded.S1 k e, Rounded.S2 k e, Rounded.S3 k e, Rounded.S4 k e, Rounded.S5 k e, Rounded.S6 k e) in
      let plain = s1 * s1 + s2 * s2 + s3 * s3 + s4 * s4 + s5 * s5 + s6 * s6 in
      rooted-in e (Exact.S² k) plain (2 * c * (s1 * s2)) (Rounded.S k e * Rounded.S k e)
      (plain_in e s1 s2 s3 s4 s5 s6 (Exact.S1 k) (Exact.S2² k) (Exact.S3 k) (Exact.S4 k) (Exact.S5 k) (Exact.S6² k)
      (S1-in e) (S2-in e) (S3-in e) (S4-in e) (S5-in e) (S6-in e))
      (root-part-in e c s1 s2 (Exact.S1 k) (Exact.S2² k) (S1-in e) (S2-in e))
      (root-end e (1000 * plain + 2 * c * (s1 * s2)) 1000 (omega arith))

  pub S-real : RealRooted (Exact.S² k)
  S-real = (
    mul-pos (mul-pos (mul-pos (mul-pos (mul-pos (mul-pos S1-den S1-den) S2-den) (lit< tt)) (lit< tt)) (lit< tt)) S6-den,
    mul-pos (lit< tt) S1-den,
    S2-den,
  )
