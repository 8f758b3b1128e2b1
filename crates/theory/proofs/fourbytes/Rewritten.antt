-- A case with two-byte days, rewritten to four bytes with every rate times 100: N, every sum and every P(t) is 100 times what it was, so it
-- is within the limits, and its curves have the same factors. Assumes nothing.
use Prim.Native.Nat.{ℕ, zero, suc, ◌*◌, ◌-◌}
use mathlib.Core.Path.{◌≡◌, refl, ap, ap₂, sym, ◌∙◌, subst, fun_ext}
use mathlib.Core.List.{List, [], ◌∷◌, map}
use native.Mathlib.Omega.{arith}
use lib.Dec.{lit<}
use lib.ListN.{length, get_or, length-map, get_or-map}
use lib.IntN.{ℤ, pos, neg_ℤ, ◌+ℤ◌, ◌-ℤ◌, ◌*ℤ◌}
use lib.Signed.{◌≤ℤ◌}
use Rattle.arith.specs.Rounding.{End}
use Rattle.model.specs.Case.{FileCase, units_per_step, per_step, s}
use Rattle.model.specs.Limits.{Between, DayWithin, DaysWithin, WithinLimits, forward}
use Rattle.method.specs.Curve.{Move, base, up, down, shift, moved_sum, curve, natural, P}
use Rattle.method.specs.Rounded as Rounded
use Rattle.method.specs.FourBytes.{rewritten}
use Rattle.theory.proofs.general.Differences.{times-sum, times-minus, times-times, times-pos, natural-times, times-le, times-neg}
use Rattle.theory.proofs.curve.CaseCurves.{curve-within}
use Rattle.theory.proofs.curve.Changed.{within-days}
use Rattle.theory.proofs.curve.Agree.{Agree, same-factors, same-unadjusted}
use Rattle.theory.proofs.money.Worth.{same-worth}

-- a rate taken 100 times
abbrev hundredfold : ℤ → ℤ
hundredfold z = pos 100 *ℤ z

-- ---- the days

sum-times : (days : List (List ℤ)) (t : ℕ) → s (map (map hundredfold) days) t ≡ pos 100 *ℤ s days t
unfolding s
sum-times days zero = refl
sum-times [] (suc t) = refl
sum-times (day ∷ days) (suc t) =
    ap₂ (λ y z. y +ℤ z) (get_or-map hundredfold day t (pos 0)) (sum-times days (suc t))
    ∙ sym (times-sum 100 (get_or day t (pos 0)) (s days (suc t)))

forward-times : (days : List (List ℤ)) (t : ℕ) → forward (map (map hundredfold) days) t ≡ pos 100 *ℤ forward days t
forward-times days t =
    ap₂ (λ y z. pos t *ℤ y -ℤ pos (t - 1) *ℤ z) (sum-times days t) (sum-times days (t - 1))
    ∙ ap₂ (λ y z. y -ℤ z) (times-times 100 t (s days t)) (times-times 100 (t - 1) (s days (t - 1)))
    ∙ sym (times-minus 100 (pos t *ℤ s days t) (pos (t - 1) *ℤ s days (t - 1)))

between-times : (least most : ℕ) {z : ℤ} → Between (neg_ℤ (pos least)) (pos most) z
    → Between (neg_ℤ (pos (100 * least))) (pos (100 * most)) (pos 100 *ℤ z)
between-times least most {z} h = record {
  least = subst (λ y. y ≤ℤ (pos 100 *ℤ z)) (times-neg 100 least) (times-le 100 (neg_ℤ (pos least)) z h.least);
  most = times-le 100 z (pos most) h.most;
}

-- the same limits, at another name
between-as : (a b c d : ℕ) {y z : ℤ} → a ≡ c → b ≡ d → y ≡ z → Between (neg_ℤ (pos a)) (pos b) y → Between (neg_ℤ (pos c)) (pos d) z
between-as a b c d {y} {z} e f q h =
    subst (λ (n : ℕ). Between (neg_ℤ (pos n)) (pos d) z) e
    (subst (λ (n : ℕ). Between (neg_ℤ (pos a)) (pos n) z) f (subst (λ (x : ℤ). Between (neg_ℤ (pos a)) (pos b) x) q h))

module _ (days : List (List ℤ)) (w : DaysWithin 1 days) where
  day-within : (day : List ℤ) → DayWithin 1 day → DayWithin 100 (map hundredfold day)
  day-within day h = record {
    terms = length-map day hundredfold ∙ h.terms;
    each = λ t l. between-as 100000 1000000 100000 1000000 refl refl (sym (get_or-map hundredfold day t (pos 0))) (between-times 1000 10000 (h.each t l));
  }

  days-within : DaysWithin 100 (map (map hundredfold) days)
  days-within =
      let n = length days in
      let m = length (map (map hundredfold) days) in
      let count : length (map (map hundredfold) days) ≡ n = length-map days (map hundredfold) in
      record {
        some = rw count w.some;
        most = rw count w.most;
        each = λ d l.
            subst (DayWithin 100) (sym (get_or-map (map hundredfold) days d [])) (day-within (get_or days d []) (w.each d (rw count at l)));
        forwards = λ t l k.
            between-as (100 * (2000 * (1 * n))) (100 * (12000 * (1 * n))) (2000 * (100 * m)) (12000 * (100 * m)) (least n count) (most n count) (sym (forward-times days t)) (between-times (2000 * (1 * n)) (12000 * (1 * n)) (w.forwards t l k));
      }
    where
      least : (n : ℕ) → length (map (map hundredfold) days) ≡ n → 100 * (2000 * (1 * n)) ≡ 2000 * (100 * length (map (map hundredfold) days))
      least n e = rw e (omega arith)

      most : (n : ℕ) → length (map (map hundredfold) days) ≡ n → 100 * (12000 * (1 * n)) ≡ 12000 * (100 * length (map (map hundredfold) days))
      most n e = rw e (omega arith)

-- ---- the case

module _ (k : FileCase) (two : k.rate_bytes ≡ 2) (w : WithinLimits k) where
  pub within-rewritten : WithinLimits (rewritten k)
  within-rewritten =
      within-days k w 4 (map (map hundredfold) k.days) refl
      (days-within k.days (subst (λ (v : ℕ). DaysWithin (units_per_step v) k.days) two w.days))

  step-times : per_step (rewritten k) ≡ 100 * per_step k
  unfolding per_step
  step-times = rw two (omega (arith, length-map k.days (map hundredfold)))

  moved-times : (m : Move) (t : ℕ) → moved_sum (rewritten k) m t ≡ pos 100 *ℤ moved_sum k m t
  unfolding moved_sum
  moved-times m zero = refl
  moved-times m (suc t) =
      ap₂ (λ y z. y +ℤ z) (sum-times k.days (suc t)) (shifted m)
      ∙ sym (times-sum 100 (s k.days (suc t)) (pos (per_step k) *ℤ shift k m))
    where
      shifted : (m : Move) → pos (per_step (rewritten k)) *ℤ shift (rewritten k) m ≡ pos 100 *ℤ (pos (per_step k) *ℤ shift k m)
      shifted m = ap₂ (λ (u : ℕ) (z : ℤ). pos u *ℤ z) step-times (same-shift m) ∙ times-pos 100 (per_step k) (shift k m)
        where
          same-shift : (m : Move) → shift (rewritten k) m ≡ shift k m
          same-shift base = refl
          same-shift up = refl
          same-shift down = refl

  agrees : (m : Move) → Agree 100 (curve (rewritten k) m) (curve k m)
  unfolding curve P
  agrees m =
      let u = per_step k in
      let N : 100000 * per_step (rewritten k) ≡ 100 * (100000 * u) = omega (arith, step-times) in
      record {
        some = lit< tt;
        same_n = N;
        same_p = λ t l.
            ap₂ (λ (n : ℕ) (z : ℤ). natural (pos n +ℤ z)) N (moved-times m t)
            ∙ ap natural (sym (times-sum 100 (pos (100000 * u)) (moved_sum k m t)))
            ∙ natural-times 100 (pos (100000 * u) +ℤ moved_sum k m t);
        same_ufr = refl;
      }

  pub factors-same : (m : Move) → Rounded.factor (curve (rewritten k) m) ≡ Rounded.factor (curve k m)
  factors-same m = same-factors 100 (curve (rewritten k) m) (curve k m) (agrees m) (curve-within k w m)

  owed_same : Rounded.L (rewritten k) ≡ Rounded.L k
  owed_same = ap (λ (f : Move → End → ℕ → ℕ). (λ (m : Move) (e : End). Rounded.worth e (f m e) 1 k.pension)) (fun_ext (λ m. factors-same m))

  bonds-same : Rounded.B (rewritten k) ≡ Rounded.B k
  bonds-same = fun_ext (λ m. fun_ext (λ e. at m e))
    where
      at : (m : Move) (e : End) → Rounded.B (rewritten k) m e ≡ Rounded.B k m e
      at m e =
          same-worth 60 e (Rounded.unadjusted (curve (rewritten k) m) e) (Rounded.unadjusted (curve k m) e)
          (λ t i l. same-unadjusted 100 (curve (rewritten k) m) (curve k m) (agrees m) (curve-within k w m) e t l) 1 k.bonds (omega arith)
          (omega (arith, w.most_bonds))

  pub figures-same : Rounded.figures (rewritten k) ≡ Rounded.figures k
  figures-same =
      ap₂ (λ (l b : Move → End → ℕ). Rounded.figures_of l b k.amounts k.shocks k.people) owed_same bonds-same

  pub verdict-same : Rounded.verdict (rewritten k) ≡ Rounded.verdict k
  verdict-same =
      ap₂ (λ (l b : Move → End → ℕ). Rounded.verdict_of l b k.amounts k.shocks k.people) owed_same bonds-same
