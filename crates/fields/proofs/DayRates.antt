-- The rates of a day, and the sums to which they are added.
use Rattle.std.specs.Cmp.{first_so, second_so}
use Rattle.std.proofs.Common.{◌≡◌, ◌∙◌, ℕ, zero, suc, ◌+◌, ◌*◌, ◌<◌, Bool, true, false, cond, List, [], ◌∷◌, ◌++◌, length, get_or, drop, take, ap, refl, arith, ℤ, pos, neg_ℤ, ◌+ℤ◌, ◌-◌, FitsSigned, to_z, of_z, w32, w64}
use Rattle.std.proofs.lemmas.Int.{ints, to_z-of_z}
use native.Mathlib.Nat.{not-suc-le-zero, le_of_suc-le-suc}
use lib.Dec.{eqb}
use lib.Signed.{le_z}
use lib.Seq.{drop-cons, get_or_at}
use Rattle.model.specs.Numbers.{number, table, twos_complement}
use Rattle.model.specs.Fields.{within_z}
use Rattle.model.specs.Layout.{daily_rate}
use Rattle.model.specs.Limits.{Between}
use Rattle.theory.proofs.general.Lists.{length-table}
use Rattle.fields.proofs.Digits.{number-whole}

pub between-true : {a b z : ℤ} → within_z a b z ≡ true → Between a b z
between-true {a} {b} {z} h = record {
  least = record { le = rw (first_so (le_z a z) (le_z z b) h) tt };
  most = record { le = rw (second_so (le_z a z) (le_z z b) h) tt };
}

pub rate-small : (w : ℕ) (r : ℤ) → (daily_rate w).right r ≡ true → Between (neg_ℤ (pos 1000000)) (pos 1000000) r
rate-small w r h = go (eqb w 4) (between-true h)
  where
    go : (b : Bool) → Between (neg_ℤ (pos (1000 * cond b 100 1))) (pos (10000 * cond b 100 1)) r → Between (neg_ℤ (pos 1000000)) (pos 1000000) r
    go true h = record { least = omega (arith, ints, h.least, h.most); most = omega (arith, ints, h.most) }
    go false h = record { least = omega (arith, ints, h.least, h.most); most = omega (arith, ints, h.most) }

pub sum-fits : (s r : ℤ) → Between (neg_ℤ (pos 254000000)) (pos 254000000) s → Between (neg_ℤ (pos 1000000)) (pos 1000000) r
    → FitsSigned w64 (to_z w64 (of_z w64 s) +ℤ to_z w64 (of_z w64 r))
sum-fits s r h k = omega (arith, ints, h.least, h.most, k.least, k.most)

pub sum-is : (s r : ℤ) → Between (neg_ℤ (pos 254000000)) (pos 254000000) s → Between (neg_ℤ (pos 1000000)) (pos 1000000) r
    → to_z w64 (of_z w64 (to_z w64 (of_z w64 s) +ℤ to_z w64 (of_z w64 r))) ≡ s +ℤ r
sum-is s r h k = omega (arith, ints, h.least, h.most, k.least, k.most)

-- a rate that is handed on
pub passed : (r : ℤ) → FitsSigned w32 r → to_z w32 (of_z w32 r) ≡ r
passed r h = to_z-of_z w32 r h

-- an entry that is there, by any default
pub same-entry : {A : Type 0} (xs : List A) (i : ℕ) (d e : A) → i < length xs → get_or xs i d ≡ get_or xs i e
same-entry [] i d e l = absurd (not-suc-le-zero l)
same-entry (x ∷ xs) zero d e l = refl
same-entry (x ∷ xs) (suc i) d e l = same-entry xs i d e (le_of_suc-le-suc l)

-- the rate that one turn reads
pub turn-rate : {w v : ℕ} (bytes : List ℕ) (t : ℕ) → v ≡ w
    → (daily_rate w).value (take (v * t + v - v * t) (drop (v * t) bytes)) 0 ≡ (daily_rate w).value bytes (0 + w * t)
turn-rate {w} {v} bytes t e =
    let long : w * t + w - w * t ≡ w = omega arith in
    let there : w * t ≡ 0 + w * t = omega arith in
    ap (λ n. (daily_rate w).value (take (n * t + n - n * t) (drop (n * t) bytes)) 0) e
    ∙ ap (λ n. (daily_rate w).value (take n (drop (w * t) bytes)) 0) long
    ∙ ap (twos_complement w) (number-whole bytes (w * t) w ∙ ap (λ i. number bytes i w) there)

-- an array whose entries are replaced from the front
pub entry_kept : (f : ℕ → ℤ) (held out : List ℤ) (t : ℕ) → t < length held → out ≡ table f t ++ drop t held → get_or out t (pos 0) ≡ get_or held t (pos 0)
entry_kept f held out t l e =
    ap (λ xs. get_or xs t (pos 0)) (e ∙ ap (λ xs. table f t ++ xs) (drop-cons held t (pos 0) l))
    ∙ get_or_at (table f t) (get_or held t (pos 0)) (drop (suc t) held) (pos 0) t (length-table f t)
