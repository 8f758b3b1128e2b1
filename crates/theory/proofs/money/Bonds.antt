-- Bonds off the adjusted curve (METHOD, Bonds off the adjusted curve): on each curve and in both workings B does not depend on the UFR; and
-- a case whose bond flows end at term 20 or before, or that has none, keeps every number that the adjusted factors gave. Assumes nothing.
use Prim.Native.Nat.{ℕ, ◌-◌, ◌≤◌}
use mathlib.Core.Path.{◌≡◌, ap, fun_ext}
use native.Mathlib.Omega.{arith}
use lib.ListN.{length}
use Rattle.arith.specs.Rounding.{End}
use Rattle.method.specs.Fraction.{Fraction, ◌//◌, ◌÷ᶠ◌, ◌^ᶠ◌, whole}
use Rattle.model.specs.Case.{FileCase, per_step, with_ufr}
use Rattle.method.specs.Curve.{Move, curve, P}
use Rattle.method.specs.Exact as Exact
use Rattle.method.specs.Exact.{G, product_of}
use Rattle.method.specs.Rounded as Rounded
use Rattle.method.specs.Rounded.{scaled, figures_of, verdict_of}
use Rattle.method.specs.Bonds.{adjusted_exact_b, adjusted_b}
use Rattle.theory.proofs.curve.Changed.{ufr-P}
use Rattle.theory.proofs.curve.Factor.{factor-to-20, rounded-factor-to-20}
use Rattle.theory.proofs.money.Worth.{same-worth, same-exact-worth}

-- ---- the UFR
-- the unadjusted growth of a term, by N and P
abbrev growth_by : ℕ → (ℕ → ℕ) → ℕ → Fraction
growth_by n p t = ((p t // n) ^ᶠ t) ÷ᶠ ((p (t - 1) // n) ^ᶠ (t - 1))

module _ (ufr : ℕ) (k : FileCase) (m : Move) where
  same-P : P (curve (with_ufr ufr k) m) ≡ P (curve k m)
  same-P = fun_ext (λ t. ufr-P ufr k m t)

  pub exact-B-any-ufr : Exact.B (with_ufr ufr k) m ≡ Exact.B k m
  unfolding Exact.unadjusted G curve per_step
  exact-B-any-ufr = ap (λ (p : ℕ → ℕ). Exact.worth (λ t. whole 1 ÷ᶠ product_of (growth_by (curve k m).N p) t) 1 k.bonds) same-P

  pub B-any-ufr : (e : End) → Rounded.B (with_ufr ufr k) m e ≡ Rounded.B k m e
  unfolding Rounded.unadjusted curve per_step
  B-any-ufr e = ap (λ (p : ℕ → ℕ). Rounded.worth e (λ t. scaled e (curve k m).N (p t) t) 1 k.bonds) same-P

-- ---- bond flows to term 20
module _ (k : FileCase) (short : length k.bonds ≤ 20) where
  pub exact-B-to-20 : (m : Move) → Exact.B k m ≡ adjusted_exact_b k m
  exact-B-to-20 m =
      same-exact-worth 20 (Exact.unadjusted (curve k m)) (Exact.factor (curve k m)) (λ t h. rw (factor-to-20 (curve k m) t h)) 1 k.bonds (omega arith)

  pub B-at : (m : Move) (e : End) → Rounded.B k m e ≡ adjusted_b k m e
  B-at m e =
      same-worth 20 e (Rounded.unadjusted (curve k m) e) (Rounded.factor (curve k m) e) (λ t l h. rw (rounded-factor-to-20 (curve k m) e t h)) 1 k.bonds
      (omega arith) (omega arith)

  pub B-to-20 : Rounded.B k ≡ adjusted_b k
  B-to-20 = fun_ext (λ m. fun_ext (λ e. B-at m e))

  pub figures-to-20 : Rounded.figures k ≡ figures_of (Rounded.L k) (adjusted_b k) k.amounts k.shocks k.people
  figures-to-20 = ap (λ (b : Move → End → ℕ). figures_of (Rounded.L k) b k.amounts k.shocks k.people) B-to-20

  pub verdict-to-20 : Rounded.verdict k ≡ verdict_of (Rounded.L k) (adjusted_b k) k.amounts k.shocks k.people
  verdict-to-20 = ap (λ (b : Move → End → ℕ). verdict_of (Rounded.L k) b k.amounts k.shocks k.people) B-to-20
