-- Each verdict given, other than undecided, is the exact one; undecided is said only within the margins. A comparison that decides sets
-- the upper end of the smaller side against the lower end of the larger, so the exact figures, which lie in their brackets, are in that
-- order too; the square of S, which holds a root, is beside the squares of its ends (Rooted). Undecided means that the brackets of the two
-- sides of a border overlap, so the exact sides differ by no more than both brackets are wide: 20 × WB + 21 × WL at the first border; WB for
-- A, WL for L and 3 × WL + 2 × WB + 8 for S at the second.
-- Assumes nothing.
use Prim.Native.Nat.{ℕ, suc, ◌+◌, ◌*◌, ◌-◌, ◌≤◌, ◌<◌}
use mathlib.Core.Path.{◌≡◌, ap, sym, ◌∙◌}
use mathlib.Core.Bool.{Bool, cond}
use mathlib.Core.Logic.{◌≢◌, ◌⊎◌, inl, inr}
use native.Mathlib.Omega.{arith}
use native.Mathlib.Nat.{mul-le-mul, mul-le-mul_right, mul-lt-mul_of_pos_right, mul-pos, le_of_mul-le-mul_left, lt_of_mul-lt-mul_left}
use native.Mathlib.Decide.{dec_le}
use Rattle.arith.specs.Rounding.{End, low, high}
use Rattle.arith.proofs.Ends.{◌≤⟨◌⟩◌, ◌and◌, ◌times◌, from}
use Rattle.method.specs.Fraction.{Fraction, ◌+ᶠ◌, ◌∸ᶠ◌, ◌*ᶠ◌, square, whole, ◌≤ᶠ◌, Rooted, RealRooted, ◌≤ʳ◌, ◌ʳ≤◌}
use Rattle.model.specs.Case.{FileCase}
use Rattle.model.specs.Limits.{WithinLimits}
use Rattle.method.specs.Curve.{base}
use Rattle.method.specs.Exact as Exact
use Rattle.method.specs.Rounded as Rounded
use Rattle.method.specs.Margins.{WL, WB, NearFirst, NearSecond, first_margin, second_margin}
use Rattle.model.specs.declared.figures.Verdict.TheVariants.{Dekkingstekort, Reservetekort, VrijVermogen, Onbeslist}
use Rattle.theory.proofs.curve.Bracket.{Bounded}
use Rattle.theory.proofs.general.Conditions.{cond-le, cond-gt}
use Rattle.theory.proofs.curve.Steps.{exactly, sum, minus, prod, multiple, ends}
use Rattle.theory.proofs.money.Rooted.{rooted-real, rooted-within, rooted-beyond, at-most-below, at-most-above, not-between}
use Rattle.theory.proofs.money.Money.{L-in, A-in, S-in, L-den, A-den, S-real}
use Rattle.theory.proofs.money.MoneyWidth.{L-width, A-width, S-width}

-- an upper end of x below a lower end of y, or at most it
apart : {u n m : ℕ} {x y : Fraction} → 0 < x.den → 0 < y.den → Bounded high u n x → Bounded low u m y → n < m → x.num * y.den < y.num * x.den
apart {u} {x = x} {y = y} hx hy h l k =
    lt_of_mul-lt-mul_left u
    (omega (arith, mul-lt-mul_of_pos_right k (mul-pos hx hy), mul-le-mul_right y.den h.is.le, mul-le-mul_right x.den l.is.le))

ordered : {u n m : ℕ} {x y : Fraction} → 0 < u → Bounded high u n x → Bounded low u m y → n ≤ m → ◌≤ᶠ◌ x y
ordered {x = x} {y = y} hu h l k =
    le_of_mul-le-mul_left
    (omega (arith, mul-le-mul_right (x.den * y.den) k, mul-le-mul_right y.den h.is.le, mul-le-mul_right x.den l.is.le)) hu

cents : {e : End} (c : ℕ) → Bounded e 1 c (whole c)
cents c = exactly (omega arith)

-- the square of what is at most a lower end, or at least an upper one
squared : {e : End} {n : ℕ} {v : Fraction} (m : ℕ) → m ≤⟨ e ⟩ n → Bounded e 1 n v → Bounded e 1 (m * m) (v *ᶠ v)
squared {e} {n} {v} m k h = prod further further
  where
    further : Bounded e 1 m v
    further = record { is = from (k times v.den and h.is) (omega arith) }

lt-square : (p q : ℕ) → p < q → p * p < q * q
lt-square p q h = omega (arith, mul-le-mul h h)

-- what the rounded verdict is, by the comparisons of the ends
module _ (A L S : End → ℕ) where
  pub judge-d : 20 * A high < 21 * L low → Rounded.judge A L S ≡ Dekkingstekort
  unfolding Rounded.judge
  judge-d h = cond-le (suc (20 * A high)) (21 * L low) _ _ h

  module _ (h : 21 * L low ≤ 20 * A high) where
    pub judge-first : 20 * A low < 21 * L high → Rounded.judge A L S ≡ Onbeslist
    unfolding Rounded.judge
    judge-first k = cond-gt (suc (20 * A high)) (21 * L low) _ _ (omega arith) ∙ cond-gt (21 * L high) (20 * A low) _ _ k

    module _ (k : 21 * L high ≤ 20 * A low) where
      pub judge-r : A high < L low + S low → Rounded.judge A L S ≡ Reservetekort
      unfolding Rounded.judge
      judge-r m =
          cond-gt (suc (20 * A high)) (21 * L low) _ _ (omega arith) ∙ cond-le (21 * L high) (20 * A low) _ _ k
          ∙ cond-le (suc (A high)) (L low + S low) _ _ m

      pub judge-v : L low + S low ≤ A high → L high + S high ≤ A low → Rounded.judge A L S ≡ VrijVermogen
      unfolding Rounded.judge
      judge-v m n =
          cond-gt (suc (20 * A high)) (21 * L low) _ _ (omega arith) ∙ cond-le (21 * L high) (20 * A low) _ _ k
          ∙ cond-gt (suc (A high)) (L low + S low) _ _ (omega arith) ∙ cond-le (L high + S high) (A low) _ _ n

      pub judge-second : L low + S low ≤ A high → A low < L high + S high → Rounded.judge A L S ≡ Onbeslist
      unfolding Rounded.judge
      judge-second m n =
          cond-gt (suc (20 * A high)) (21 * L low) _ _ (omega arith) ∙ cond-le (21 * L high) (20 * A low) _ _ k
          ∙ cond-gt (suc (A high)) (L low + S low) _ _ (omega arith) ∙ cond-gt (L high + S high) (A low) _ _ n

not-d : Dekkingstekort ≢ Onbeslist
not-d e = let q : ◌≡◌ {A = ℕ} 0 1 = cc in omega arith

not-r : Reservetekort ≢ Onbeslist
not-r e = let q : ◌≡◌ {A = ℕ} 0 1 = cc in omega arith

not-v : VrijVermogen ≢ Onbeslist
not-v e = let q : ◌≡◌ {A = ℕ} 0 1 = cc in omega arith

-- the exact verdict, by its two comparisons
module _ (x y : Fraction) (z : Rooted) where
  exact-d : (whole 20 *ᶠ x).num * (whole 21 *ᶠ y).den < (whole 21 *ᶠ y).num * (whole 20 *ᶠ x).den → Exact.judge x y z ≡ Dekkingstekort
  unfolding Exact.judge
  exact-d h = cond-le (suc ((whole 20 *ᶠ x).num * (whole 21 *ᶠ y).den)) ((whole 21 *ᶠ y).num * (whole 20 *ᶠ x).den) _ _ h

  exact-r : whole 21 *ᶠ y ≤ᶠ whole 20 *ᶠ x → (z ʳ≤ square (x ∸ᶠ y) → ⊥) → Exact.judge x y z ≡ Reservetekort
  unfolding Exact.judge
  exact-r h k =
      cond-gt (suc ((whole 20 *ᶠ x).num * (whole 21 *ᶠ y).den)) ((whole 21 *ᶠ y).num * (whole 20 *ᶠ x).den) _ _ (omega (arith, h))
      ∙ ap (λ (b : Bool). cond b VrijVermogen Reservetekort) (rooted-beyond z (square (x ∸ᶠ y)) k)

  exact-v : whole 21 *ᶠ y ≤ᶠ whole 20 *ᶠ x → z ʳ≤ square (x ∸ᶠ y) → Exact.judge x y z ≡ VrijVermogen
  unfolding Exact.judge
  exact-v h k =
      cond-gt (suc ((whole 20 *ᶠ x).num * (whole 21 *ᶠ y).den)) ((whole 21 *ᶠ y).num * (whole 20 *ᶠ x).den) _ _ (omega (arith, h))
      ∙ ap (λ (b : Bool). cond b VrijVermogen Reservetekort) (rooted-within z (square (x ∸ᶠ y)) k)

-- exact figures x, y and the square z of a third, which holds a root, in brackets A, L and S
module _ (x y : Fraction) (z : Rooted) (hx : 0 < x.den) (hy : 0 < y.den) (hz : RealRooted z) (A L S : End → ℕ)
    (xl : Bounded low 1 (A low) x) (xh : Bounded high 1 (A high) x) (yl : Bounded low 1 (L low) y) (yh : Bounded high 1 (L high) y)
    (zl : whole (S low * S low) ≤ʳ z) (zh : z ʳ≤ whole (S high * S high)) where
  covered : 21 * L high ≤ 20 * A low → whole 21 *ᶠ y ≤ᶠ whole 20 *ᶠ x
  covered k = ordered (omega arith) (multiple 21 yh) (multiple 20 xl) k

  right-d : 20 * A high < 21 * L low → Exact.judge x y z ≡ Dekkingstekort
  right-d k = exact-d x y z (apart {x = whole 20 *ᶠ x} {y = whole 21 *ᶠ y} (omega (arith, hx)) (omega (arith, hy)) (multiple 20 xh) (multiple 21 yl) k)

  right-r : 21 * L high ≤ 20 * A low → A high < L low + S low → Exact.judge x y z ≡ Reservetekort
  right-r k m =
      let q : Fraction = square (x ∸ᶠ y) in
      let below : q.num * 1 < S low * S low * q.den =
      apart {x = q} {y = whole (S low * S low)} (mul-pos (mul-pos hx hy) (mul-pos hx hy)) (omega arith)
      (squared (A high - L low) (omega arith) (minus high xh yl)) (cents (S low * S low))
      (lt-square (A high - L low) (S low) (omega (arith, ends hx xl xh, ends hy yl yh))) in
      exact-r x y z (covered k) (not-between z q (S low * S low) hz.0 (rooted-real z hz) (omega (arith, below)) zl)

  right-v : 21 * L high ≤ 20 * A low → L high + S high ≤ A low → Exact.judge x y z ≡ VrijVermogen
  right-v k m =
      exact-v x y z (covered k)
      (at-most-above z (square (x ∸ᶠ y)) (S high * S high) zh
      (ordered (omega arith) (cents (S high * S high)) (squared (S high) (omega arith) (minus low xl yh)) (omega arith)))

  pub right : Rounded.judge A L S ≢ Onbeslist → Rounded.judge A L S ≡ Exact.judge x y z
  right n = go (dec_le (suc (20 * A high)) (21 * L low)) (dec_le (21 * L high) (20 * A low)) (dec_le (suc (A high)) (L low + S low)) (dec_le (L high + S high) (A low))
    where
      go : Dec (20 * A high < 21 * L low) → Dec (21 * L high ≤ 20 * A low) → Dec (A high < L low + S low) → Dec (L high + S high ≤ A low)
          → Rounded.judge A L S ≡ Exact.judge x y z
      go (yes h1) h2 h3 h4 = judge-d A L S h1 ∙ sym (right-d h1)
      go (no h1) (no h2) h3 h4 = absurd (n (judge-first A L S (omega arith) (omega arith)))
      go (no h1) (yes h2) (yes h3) h4 = judge-r A L S (omega arith) h2 h3 ∙ sym (right-r h2 h3)
      go (no h1) (yes h2) (no h3) (yes h4) = judge-v A L S (omega arith) h2 (omega arith) h4 ∙ sym (right-v h2 h4)
      go (no h1) (yes h2) (no h3) (no h4) = absurd (n (judge-second A L S (omega arith) h2 (omega arith) (omega arith)))

  module _ (wl wb : ℕ) (wx : A high ≤ A low + wb) (wy : L high ≤ L low + wl) (wz : S high ≤ S low + (3 * wl + 2 * wb + 8)) where
    near_first : 21 * L low ≤ 20 * A high → 20 * A low < 21 * L high → NearFirst (20 * wb + 21 * wl) x y
    near_first h k =
        let c : ℕ = 20 * wb + 21 * wl in
        record {
          above = ordered (omega arith) (multiple 20 xh) (sum (multiple 21 yl) (cents c)) (omega arith);
          below = ordered (omega arith) (multiple 21 yh) (sum (multiple 20 xl) (cents c)) (omega arith);
        }

    near-second : 21 * L high ≤ 20 * A low → L low + S low ≤ A high → A low < L high + S high → NearSecond (4 * wl + 3 * wb + 8) x y z
    near-second h k m =
        let c : ℕ = 4 * wl + 3 * wb + 8 in
        record {
          above = at-most-below z (square (x ∸ᶠ (y +ᶠ whole c))) (S low * S low)
              (ordered (omega arith) (squared (S low) (omega arith) (minus high xh (sum yl (cents c)))) (cents (S low * S low)) (omega arith)) zl;
          positive = ordered (omega arith) yh (sum xl (cents c)) (omega arith);
          below = at-most-above z (square ((x +ᶠ whole c) ∸ᶠ y)) (S high * S high) zh
              (ordered (omega arith) (cents (S high * S high)) (squared (S high) (omega arith) (minus low (sum xl (cents c)) yh)) (omega arith));
        }

    pub margin : Rounded.judge A L S ≡ Onbeslist → NearFirst (20 * wb + 21 * wl) x y ⊎ NearSecond (4 * wl + 3 * wb + 8) x y z
    margin e = go (dec_le (suc (20 * A high)) (21 * L low)) (dec_le (21 * L high) (20 * A low)) (dec_le (suc (A high)) (L low + S low)) (dec_le (L high + S high) (A low))
      where
        go : Dec (20 * A high < 21 * L low) → Dec (21 * L high ≤ 20 * A low) → Dec (A high < L low + S low) → Dec (L high + S high ≤ A low)
            → NearFirst (20 * wb + 21 * wl) x y ⊎ NearSecond (4 * wl + 3 * wb + 8) x y z
        go (yes h1) h2 h3 h4 = absurd (not-d (sym (judge-d A L S h1) ∙ e))
        go (no h1) (no h2) h3 h4 = inl (near_first (omega arith) (omega arith))
        go (no h1) (yes h2) (yes h3) h4 = absurd (not-r (sym (judge-r A L S (omega arith) h2 h3) ∙ e))
        go (no h1) (yes h2) (no h3) (yes h4) = absurd (not-v (sym (judge-v A L S (omega arith) h2 (omega arith) h4) ∙ e))
        go (no h1) (yes h2) (no h3) (no h4) = inr (near-second h2 (omega arith) (omega arith))

-- for every case within the limits
module _ (k : FileCase) (w : WithinLimits k) where
  pub verdict-right : Rounded.verdict k ≢ Onbeslist → Rounded.verdict k ≡ Exact.verdict k
  verdict-right =
      right (Exact.A k) (Exact.L k base) (Exact.S² k) (A-den k w) (L-den k w base) (S-real k w) (Rounded.A k) (Rounded.L k base) (Rounded.S k)
      (A-in k w low) (A-in k w high) (L-in k w base low) (L-in k w base high) (S-in k w low) (S-in k w high)

  pub verdict-margin : Rounded.verdict k ≡ Onbeslist
      → NearFirst (first_margin k) (Exact.A k) (Exact.L k base) ⊎ NearSecond (second_margin k) (Exact.A k) (Exact.L k base) (Exact.S² k)
  verdict-margin =
      margin (Exact.A k) (Exact.L k base) (Exact.S² k) (A-den k w) (L-den k w base) (S-real k w) (Rounded.A k) (Rounded.L k base) (Rounded.S k)
      (A-in k w low) (A-in k w high) (L-in k w base low) (L-in k w base high) (S-in k w low) (S-in k w high)
      (WL k) (WB k) (A-width k w) (L-width k w base) (S-width k w)
