-- Containment, widths and verdicts, whole: of every case within the limits, and of whatever is given that is the rounded working's. Each
-- field is a theorem of another file: what lies in a bracket is from Factor, ZeroRate and Money, the widths from Width, ZeroRate and
-- MoneyWidth, the verdict from Verdicts. Assumes nothing.
use Prim.Native.Nat.{ℕ, ◌*◌, ◌≤◌, ◌<◌}
use mathlib.Core.Path.{◌≡◌, refl}
use native.Mathlib.Omega.{arith}
use lib.IntN.{pos, ◌+ℤ◌}
use Rattle.arith.specs.Rounding.{End, low, high}
use Rattle.arith.proofs.Ends.{from}
use Rattle.model.specs.Constants.{unit}
use Rattle.method.specs.Fraction.{Fraction, ◌*ᶠ◌, whole, Rooted, RealRooted}
use Rattle.model.specs.Case.{FileCase}
use Rattle.model.specs.Limits.{WithinLimits}
use Rattle.method.specs.Curve.{Curve, base, curve, P}
use Rattle.method.specs.Exact as Exact
use Rattle.method.specs.Rounded as Rounded
use Rattle.arith.specs.Brackets.{bracket, end_of}
use Rattle.method.specs.Containment.{Bounds, In, SquareIn, RootedOrdered, RootedSquareIn, Given, ContainmentAndWidth}
use Rattle.method.specs.Promises.{IsRounded}
use Rattle.method.specs.inner.CurveWithin.{CurveWithin}
use Rattle.theory.proofs.curve.Bracket.{Bounded}
use Rattle.theory.proofs.general.Differences.{not-cut}
use Rattle.theory.proofs.curve.CaseCurves.{curve-within, base-within}
use Rattle.theory.proofs.curve.Factor.{factor-in, factor-den, product-pos}
use Rattle.theory.proofs.curve.Width.{factor-width}
use Rattle.theory.proofs.curve.ZeroRate.{rate-found, rate-in, rate-width}
use Rattle.theory.proofs.money.Money.{L-in, B-in, A-in, S1-in, S2-in, S3-in, S4-in, S5-in, S6-in, S-in, L-den, B-den, A-den, S1-den, S2-den, S6-den, S-real}
use Rattle.theory.proofs.money.MoneyWidth.{L-width, B-width, A-width, S-width}
use Rattle.theory.proofs.money.Verdicts.{verdict-right, verdict-margin}

-- a number that counts a figure in whole cents bounds it
bounds : {e : End} {n : ℕ} {x : Fraction} → 0 < x.den → Bounded e 1 n x → Bounds e n x
bounds {e = low} r h = record { real = r; order = omega (arith, h.is.le) }
bounds {e = high} r h = record { real = r; order = omega (arith, h.is.le) }

-- and one that counts it in units bounds the figure in units
pub in-units : {e : End} {n : ℕ} {x : Fraction} → 0 < x.den → Bounded e unit n x → Bounds e n (whole unit *ᶠ x)
in-units r h = bounds (omega (arith, r)) record { is = from h.is (omega arith) }

-- both ends of a bracket bound its figure, or the figure's square, which may hold a root
end_is : (figure : End → ℕ) (e : End) → end_of (bracket figure) e ≡ figure e
end_is figure low = refl
end_is figure high = refl

figure-in : (figure : End → ℕ) (x : Fraction) → 0 < x.den → ((e : End) → Bounded e 1 (figure e) x) → In (end_of (bracket figure)) x
figure-in figure x r h e = rw (end_is figure e) (bounds r (h e))

square-in : (figure : End → ℕ) (x² : Fraction) → 0 < x².den → ((e : End) → Bounded e 1 (figure e * figure e) x²) → SquareIn (end_of (bracket figure)) x²
square-in figure x² r h e = rw (end_is figure e) (bounds r (h e))

rooted-square-in : (figure : End → ℕ) (r : Rooted) → RealRooted r → ((e : End) → RootedOrdered e (figure e * figure e) r)
    → RootedSquareIn (end_of (bracket figure)) r
rooted-square-in figure r real h e = rw (end_is figure e) (record { real = real; order = h e })

P-uncut : (c : Curve) → CurveWithin c → (t : ℕ) → t ≤ 60 → pos (P c t) ≡ pos c.N +ℤ c.sum t
unfolding P
P-uncut c f t h = not-cut (pos c.N +ℤ c.sum t) (omega (arith, f.some, f.least t h))

pub containment : (k : FileCase) → WithinLimits k → (given : Given) → IsRounded k given → ContainmentAndWidth k given
containment k w given is = record {
  product_real = λ m t h. product-pos (curve k m) (curve-within k w m) t;
  value_real = λ m. (L-den k w m, B-den k w m);
  PUncut = λ m t h. P-uncut (curve k m) (curve-within k w m) t h;
  rate_found = λ e t h m. rw (is.rate e t h m) (rate-found (curve k base) (base-within k w) t m e);
  factor_in = λ t h m e.
      rw (is.factor e t h m)
      (in-units (factor-den (curve k base) (curve-within k w base) t) (factor-in (curve k base) (curve-within k w base) e t));
  rate_in = λ e t h m. rw (is.rate e t h m) (rate-in (curve k base) (base-within k w) t m e);
  LIn = rw is.figures (figure-in (Rounded.L k base) (Exact.L k base) (L-den k w base) (L-in k w base));
  BIn = rw is.figures (figure-in (Rounded.B k base) (Exact.B k base) (B-den k w base) (B-in k w base));
  AIn = rw is.figures (figure-in (Rounded.A k) (Exact.A k) (A-den k w) (A-in k w));
  S1In = rw is.figures (figure-in (Rounded.S1 k) (Exact.S1 k) (S1-den k w) (S1-in k w));
  S2In = rw is.figures (square-in (Rounded.S2 k) (Exact.S2² k) (S2-den k w) (S2-in k w));
  S3In = rw is.figures (figure-in (Rounded.S3 k) (Exact.S3 k) (omega arith) (S3-in k w));
  S4In = rw is.figures (figure-in (Rounded.S4 k) (Exact.S4 k) (omega arith) (S4-in k w));
  S5In = rw is.figures (figure-in (Rounded.S5 k) (Exact.S5 k) (omega arith) (S5-in k w));
  S6In = rw is.figures (square-in (Rounded.S6 k) (Exact.S6² k) (S6-den k w) (S6-in k w));
  SIn = rw is.figures (rooted-square-in (Rounded.S k) (Exact.S² k) (S-real k w) (S-in k w));
  factor_width = λ t h m. rw (is.factor low t h m, is.factor high t h m) (factor-width (curve k base) (curve-within k w base) t);
  rate_width = λ t h m. rw (is.rate low t h m, is.rate high t h m) (rate-width (curve k base) (base-within k w) t m h);
  LWidth = rw is.figures (L-width k w base);
  BWidth = rw is.figures (B-width k w base);
  AWidth = rw is.figures (A-width k w);
  SWidth = rw is.figures (S-width k w);
  right = rw is.verdict (verdict-right k w);
  margin = rw is.verdict (verdict-margin k w);
}
