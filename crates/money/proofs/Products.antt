-- Amounts times their shocks: how large they can be, and the scale of S5. Assumes nothing.
use Prim.Native.Nat.{ℕ, ◌*◌, ◌^◌, ◌≤◌}
use mathlib.Core.Path.{◌≡◌, sym, ap, ◌∙◌}
use native.Mathlib.Omega.{arith}
use native.Mathlib.Nat.{mul-le-mul, le_trans, lt_of_le_of_lt}
use lib.Dec.{lit≤, lit<}
use Rattle.arith.specs.inner.Range.{InRange, BothIn}
use Rattle.arith.specs.Brackets.{bracket, end_of}
use Rattle.arith.specs.declared.bracket.Bracket.{Bracket}
use Rattle.theory.proofs.general.ByEnds.{by-ends}
use Rattle.arith.specs.Rounding.{End, low, high, divide}
use Rattle.arith.specs.Root.{root}
use Rattle.arith.proofs.Rounding.{divide-le, divide-common}
use Rattle.model.specs.Limits.{AmountsWithin, ShocksWithin}
use Rattle.method.specs.Rounded.{class_squares, credit_loss}
use Rattle.money.specs.inner.Ranges.{ClassesFit}
use Rattle.theory.proofs.money.MoneySizes.{classes-most}
use Rattle.model.specs.declared.case.Amounts.{Amounts}
use Rattle.model.specs.declared.case.Shocks.{Shocks}
use Rattle.arith.specs.inner.Range.{UpTo}

-- a bracket whose figure is at most m at both ends, and an end of one that is
pub up_to : {m : ℕ} (b : Bracket) (f : End → ℕ) → b ≡ bracket f → ((e : End) → f e ≤ m) → UpTo m b
up_to b f p h = rw p (record { lower = h low; upper = h high })

pub end-most : {m : ℕ} {b : Bracket} → UpTo m b → (e : End) → end_of b e ≤ m
end-most u low = u.lower
end-most u high = u.upper

-- thousandths of a cent, rounded
pub thousandths-most : (r : Bracket) (n : ℕ) → n ≤ 5 * 10 ^ 16 → r ≡ bracket (λ e. divide e n 1000) → UpTo (50 * 10 ^ 12) r
thousandths-most r n h p = up_to r (λ e. divide e n 1000) p (λ e. divide-le e n 1000 (50 * 10 ^ 12) (lit< tt) (omega arith))

-- an end of S2: the root is at most the four losses together
pub classes-end : (end : End) {c m e v p n r : ℕ} → ClassesFit c m e v p → n ≡ class_squares c m e v p → r ≡ root end n 100000 → r ≤ 50 * 10 ^ 12
classes-end end {c} {m} {e} {v} {p} f is root-is =
    rw (root-is, is) (le_trans (classes-most end c m e v p f.correlation f.mature f.emerging f.private f.property) (lit≤ tt))

-- S5: 100 ÷ 10^9 is 1 ÷ 10^7
pub credit-is : (a : Amounts) (x : Shocks) (e : End) → divide e (a.credit * (x.duration * x.spread * x.spread_rise)) 10000000 ≡ credit_loss a x e
credit-is a x e =
    sym (divide-common e 100 (a.credit * (x.duration * x.spread * x.spread_rise)) 10000000 (lit< tt) (lit< tt))
    ∙ ap (λ (n : ℕ). divide e n (10 ^ 9)) (omega arith)

module _ {a : Amounts} {x : Shocks} (w : AmountsWithin a × ShocksWithin x) where
  pub years-most : x.duration * x.spread ≤ 5 * 10 ^ 6
  years-most = le_trans (mul-le-mul w.1.duration w.1.spread) (lit≤ tt)

  pub widened-most : x.duration * x.spread * x.spread_rise ≤ 5 * 10 ^ 9
  widened-most = le_trans (mul-le-mul years-most w.1.spread_rise) (lit≤ tt)

  pub credit-range : InRange a.credit (x.duration * x.spread * x.spread_rise) 10000000
  credit-range = record {
    left = omega (arith, w.0.credit);
    right = omega (arith, widened-most);
    some = lit< tt;
    most = lit≤ tt;
    fits = lt_of_le_of_lt (mul-le-mul w.0.credit widened-most) (lit< tt);
  }

  pub credit-most : (e : End) → credit_loss a x e ≤ 50 * 10 ^ 12
  credit-most e = rw (← credit-is a x e)
      (divide-le e (a.credit * (x.duration * x.spread * x.spread_rise)) 10000000 (50 * 10 ^ 12) (lit< tt)
      (le_trans (mul-le-mul w.0.credit widened-most) (lit≤ tt)))

  pub credit-both : BothIn InRange (record { lower = a.credit; upper = a.credit }) (x.duration * x.spread * x.spread_rise) 10000000
  credit-both = record { lower = credit-range; upper = credit-range }

pub credit-of : (a : Amounts) (x : Shocks) (c r : Bracket) → c ≡ bracket (λ e. a.credit)
    → r ≡ bracket (λ e. divide e (end_of c e * (x.duration * x.spread * x.spread_rise)) 10000000) → r ≡ bracket (credit_loss a x)
credit-of a x c r p q = rw p at q ∙ by-ends (λ e. divide e (a.credit * (x.duration * x.spread * x.spread_rise)) 10000000) (credit_loss a x) (credit-is a x)
