-- One write after another.
use Prim.Native.Nat.{ℕ, suc, ◌+◌, ◌*◌, ◌-◌, ◌≤◌, ◌<◌}
use mathlib.Core.Path.{◌≡◌, refl, ap, sym, ◌∙◌}
use mathlib.Core.List.{List, [], ◌∷◌, ◌++◌, append_assoc}
use native.Mathlib.Nat.{add-zero, add-suc, suc-add, mul-le-mul_left}
use native.Mathlib.Omega.{arith}
use lib.ListN.{length, set, take, drop, get_or, length-append}
use lib.Seq.{sets, sets-eq, length-take-le, drop-drop}
use Rattle.model.specs.Fields.{Fixed, bytes_all}
use Rattle.fields.specs.declared.writer.Writer.{Writer}
use Rattle.fields.specs.Wrote.{Wrote}
use Rattle.fields.proofs.Bytes.{length_run, front-next}

sets-join : (t u b : List ℕ) (at : ℕ) → sets b at (t ++ u) ≡ sets (sets b at t) (at + length t) u
sets-join [] u b at = rw add-zero
sets-join (x ∷ t) u b at =
    sets-join t u (set b at x) (suc at)
    ∙ ap (λ (k : ℕ). sets (sets (set b at x) (suc at) t) k u) (suc-add at (length t) ∙ sym (add-suc at (length t)))

pub nothing : (a : Writer) → Wrote a [] a
nothing a = record { same = refl; long = refl; place = omega arith; held = refl }

pub then : {a b c : Writer} {t u : List ℕ} → Wrote a t b → Wrote b u c → Wrote a (t ++ u) c
then {a} {b} {c} {t} {u} p q = record {
  same = q.same ∙ p.same;
  long = q.long ∙ p.long;
  place = rw length-append (omega (arith, p.place, q.place));
  held =
      q.held
      ∙ ap (λ (l : List ℕ). sets l b.at u) p.held
      ∙ ap (λ (k : ℕ). sets (sets a.out.now a.at t) k u) p.place
      ∙ sym (sets-join t u a.out.now a.at);
}

pub as-text : {a b : Writer} {t u : List ℕ} → t ≡ u → Wrote a t b → Wrote a u b
as-text e p = rw e at p

-- the bytes of the part of a buffer that a text is copied into
pub copied : {part : List ℕ} (b text : List ℕ) (at : ℕ) → part ≡ text → at + length text ≤ length b
    → take at b ++ (part ++ drop (at + length text - at) (drop at b)) ≡ sets b at text
copied b text at is h =
    let e : at + (at + length text - at) ≡ at + length text = omega arith in
    ap (λ (l : List ℕ). take at b ++ (l ++ drop (at + length text - at) (drop at b))) is
    ∙ ap (λ (l : List ℕ). take at b ++ (text ++ l)) (drop-drop (at + length text - at) at b ∙ ap (λ (k : ℕ). drop k b) e)
    ∙ sym (append_assoc (take at b) text (drop (at + length text) b))
    ∙ sym (sets-eq text b at h)

-- a run, one value more
module _ {A : Type 0} (x : Fixed A) where
  pub room-next : ((v : A) → length (x.bytes v) ≡ x.size) → {a b : Writer} (vs : List A) (i : ℕ) → i < length vs → a.at + x.size * length vs ≤ length a.out.now
      → Wrote a (bytes_all x (take i vs)) b → b.at + x.size ≤ length b.out.now
  room-next sized vs i l room p =
      let more : i + 1 ≤ length vs = omega arith in
      let most : x.size * (i + 1) ≤ x.size * length vs = mul-le-mul_left x.size more in
      let so_far : length (bytes_all x (take i vs)) ≡ x.size * i =
      length_run x sized (take i vs) ∙ ap (λ (k : ℕ). x.size * k) (length-take-le i vs (omega arith)) in
      omega (arith, p.place, p.long, so_far, most)

  pub one-more : {a b c : Writer} (vs : List A) (i : ℕ) (d : A) → i < length vs → Wrote a (bytes_all x (take i vs)) b → Wrote b (x.bytes (get_or vs i d)) c
      → Wrote a (bytes_all x (take (i + 1) vs)) c
  one-more vs i d l p q = as-text (front-next x vs i d l) (then p q)
