-- What a point shows, by its number and by the sizes of its ends. Assumes nothing.
use mathlib.Core.Path.{◌≡◌, refl, sym, ap, ◌∙◌}
use mathlib.Core.Bool.{true, false, cond}
use mathlib.Core.List.{List, [], ◌∷◌}
use Prim.Native.Nat.{ℕ, ◌*◌, ◌-◌, ◌^◌, ◌≤◌, ◌<◌}
use native.Mathlib.Omega.{arith}
use lib.ListN.{length, get_or}
use borrow.Author.Tests.{le-leb, lt-leb}
use Rattle.std.specs.Prelude.{Option, Some, None, MatchOption, Float, map}
use Rattle.std.proofs.lemmas.List.{get_or-map}
use Rattle.method.specs.Listing.{named_figures}
use Rattle.method.specs.Window.{double, holds, figures_in_order, factor_point, money_point, factor_bracket, window_point}
use Rattle.model.specs.declared.window.Doubles.{Doubles}
use Rattle.listing.specs.Holds.{Holds}
use Rattle.arith.specs.declared.bracket.Bracket.{Bracket}
use Rattle.model.specs.declared.figures.Figures.{Figures}
use Rattle.model.specs.declared.window.Point.{Point}
use Rattle.model.specs.declared.window.Point.TheVariants.{Blank}

-- a bracket is shown where a double holds both its ends
module _ (b : Bracket) (point : Point) where
  pub held : b.lower ≤ 2 ^ 53 → b.upper ≤ 2 ^ 53 → cond (holds b) point Blank ≡ point
  held h g = simp (le-leb b.lower (2 ^ 53) h, le-leb b.upper (2 ^ 53) g)

-- the point of two doubles, if they are there, is that of the bracket that they hold
pub point-of : (b : Bracket) (kind : Float → Float → Point) (d : Option Doubles) (p : Point)
    → MatchOption d (holds b ≡ false) (λ e. (holds b ≡ true) × Holds e.lower b.lower × Holds e.upper b.upper)
    → MatchOption d (p ≡ Blank) (λ e. p ≡ kind e.lower e.upper) → p ≡ cond (holds b) (kind (double b.lower) (double b.upper)) Blank
point-of b kind None p blank is = rw blank is
point-of b kind (Some e) p (held-both, lower, upper) is = rw (held-both, ← lower.is, ← upper.is) is

abbrev pub no_bracket : Bracket
no_bracket = record { lower = 0; upper = 0 }

brackets-named : {N : Type 0} (name : N → List ℕ) (xs : List (N × Bracket))
    → map (λ (n : N × Bracket). n.1) xs ≡ map (λ (n : List ℕ × Bracket). n.1) (map (λ (n : N × Bracket). (name n.0, n.1)) xs)
brackets-named name [] = refl
brackets-named name (x ∷ xs) = ap (λ bs. x.1 ∷ bs) (brackets-named name xs)

-- a bracket of the one list, whatever the names are lent as
pub figure-in-order : {N : Type 0} (name : N → List ℕ) (xs : List (N × Bracket)) (figures : Figures) (i : ℕ) (d : N × Bracket)
    → map (λ (n : N × Bracket). (name n.0, n.1)) xs ≡ named_figures figures → i < length xs
    → (get_or xs i d).1 ≡ get_or (figures_in_order figures) i no_bracket
figure-in-order name xs figures i d is few =
    let brackets = map (λ (n : List ℕ × Bracket). n.1) in
    sym (get_or-map (λ n. n.1) xs i d no_bracket few) ∙ ap (λ bs. get_or bs i no_bracket) (brackets-named name xs ∙ ap brackets is)

-- which bracket a point shows
module _ (factors : List ℕ) (figures : Figures) (p : ℕ) where
  pub none-shown : p < 1 → window_point p factors figures ≡ Blank
  unfolding window_point
  none-shown h =
      let low : p < 121 = omega arith in
      simp (lt-leb 1 p h, lt-leb 121 p low)

  pub later-shown : 130 < p → window_point p factors figures ≡ Blank
  unfolding window_point
  later-shown h =
      let least : 1 ≤ p = omega arith in
      let past : 120 < p = omega arith in
      let money : 121 ≤ p = omega arith in
      simp (le-leb 1 p least, lt-leb p 120 past, le-leb 121 p money, lt-leb p 130 h)

  module _ (least : 1 ≤ p) (most : p ≤ 120) where
    pub factor-shown : 2 * p ≤ length factors → window_point p factors figures ≡ factor_point (factor_bracket factors p)
    unfolding window_point
    factor-shown lent = simp (le-leb 1 p least, le-leb p 120 most, le-leb (2 * p) (length factors) lent)

    pub short-shown : length factors < 2 * p → window_point p factors figures ≡ Blank
    unfolding window_point
    short-shown short = simp (le-leb 1 p least, le-leb p 120 most, lt-leb (2 * p) (length factors) short)

  pub money-shown : (b : Bracket) → 120 < p → p ≤ 130 → b ≡ get_or (figures_in_order figures) (p - 121) no_bracket → window_point p factors figures ≡ money_point b
  unfolding window_point
  money-shown b past most e =
      let least : 1 ≤ p = omega arith in
      rw e (simp (le-leb 1 p least, lt-leb p 120 past, le-leb 121 p past, le-leb p 130 most))
