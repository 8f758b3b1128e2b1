-- The laws of the kinds of fields. A value that is read and passes the checks is within its limits and is written back as the same bytes;
-- a value within its limits that was written is read, ends where it ended, and passes the checks. A value in no file passes its checks
-- exactly when it is within its limits. Each kind has the laws if its parts have them, so a layout has them if its numbers have. W says
-- what it is to be within the limits.
use mathlib.Core.Path.{◌≡◌, refl, ap, sym, ◌∙◌, subst}
use mathlib.Core.Bool.{Bool, true, false}
use mathlib.Core.List.{List, [], ◌∷◌, ◌++◌, append_assoc}
use Prim.Native.Nat.{ℕ, zero, suc, ◌+◌, ◌*◌, ◌^◌, ◌≤◌, ◌<◌}
use native.Mathlib.Nat.{lt_of_le_of_lt, mul-le-mul}
use native.Mathlib.Omega.{arith}
use borrow.Author.Tests.{le-leb, leb-true, eqb-true, eq-eqb}
use lib.Dec.{T, leb, eqb, lit<, lit≤}
use lib.ListN.{length, get_or, drop, length-append}
use Rattle.std.proofs.lemmas.Bool.{and_from}
use Rattle.std.specs.Prelude.{Some}
use Rattle.std.specs.Cmp.{first_so, second_so}
use Rattle.refusal.specs.declared.Refusal.{Refusal}
use Rattle.refusal.specs.declared.Refusal.TheVariants.{EndsEarly}
use Rattle.model.specs.Numbers.{bytes_of, Bytes}
use Rattle.model.specs.Fields.{Check, within, Fixed, number_of, pair_of, bytes_all, value_all, right_all, several, named}
use Rattle.model.specs.Fields.{Field, field, counted, optional, ◌then◌}
use Rattle.model.specs.Refusals.{failing}
use Rattle.theory.proofs.general.Lists.{◌also◌}
use Rattle.theory.proofs.acceptance.Checks.{Hold, hold-append, hold-parts}
use Rattle.theory.proofs.acceptance.Encoding.{length-bytes, number-written, number_read, byte-written, byte-read, behind, reached}
use Rattle.theory.proofs.acceptance.Runs.{values_length}

-- a test of a number, both ways
within-true : (least most v : ℕ) → within least most v ≡ true → (least ≤ v) × (v ≤ most)
within-true least most v h = search (leb-true, first_so, second_so)

within-test : (least most v : ℕ) → (least ≤ v) × (v ≤ most) → within least most v ≡ true
within-test least most v h = and_from (leb least v) (leb v most) (le-leb least v h.0) (le-leb v most h.1)

-- ---- what has the same number of bytes whatever its value

pub record LawfulFixed {A : Type 0} (x : Fixed A) (W : A → Type 0) : Type 0 where
  pub long : (v : A) → W v → length (x.bytes v) ≡ x.size
  pub tested : (v : A) → W v → x.right v ≡ true
  pub within : (v : A) → x.right v ≡ true → W v
  pub written : (file : List ℕ) → Bytes file → (at : ℕ) → at + x.size ≤ length file
      → x.bytes (x.value file at) ++ drop (at + x.size) file ≡ drop at file
  pub read : (file : List ℕ) (at : ℕ) (v : A) (rest : List ℕ) → W v → drop at file ≡ x.bytes v ++ rest → x.value file at ≡ v

-- the same limits said otherwise
pub fixed-as : {A : Type 0} {x : Fixed A} {U W : A → Type 0} → ((v : A) → U v → W v) → ((v : A) → W v → U v)
    → LawfulFixed x U → LawfulFixed x W
fixed-as to from l = search (to, from, l.long, l.tested, l.within, l.written, l.read)

pub number-lawful : (w least most : ℕ) → most < 256 ^ w → LawfulFixed (number_of w least most) (λ v. (least ≤ v) × (v ≤ most))
number-lawful w least most fits = record {
  long = λ v h. length-bytes w v;
  tested = within-test least most;
  within = within-true least most;
  written = λ file b at. number-written file b at w;
  read = λ file at v rest h. number_read file at w v rest (lt_of_le_of_lt h.1 fits);
}

pub pair-lawful : {A B : Type 0} {x : Fixed A} {y : Fixed B} {X : A → Type 0} {Y : B → Type 0}
    → LawfulFixed x X → LawfulFixed y Y → LawfulFixed (pair_of x y) (λ v. X v.0 × Y v.1)
pair-lawful {x = x} {y = y} lx ly = record {
  long = λ v h. length-append (x.bytes v.0) (y.bytes v.1) ∙ rw (lx.long v.0 h.0, ly.long v.1 h.1);
  tested = λ v h. rw (lx.tested v.0 h.0, ly.tested v.1 h.1);
  within = λ v h. search (lx.within, ly.within, first_so, second_so);
  written = λ file b at l.
      let e : at + (x.size + y.size) ≡ at + x.size + y.size = omega arith in
      rw (e, append_assoc, ly.written file b (at + x.size) (omega arith)) (lx.written file b at (omega arith));
  read = λ file at v rest h e.
      let k = rw append_assoc at e in
      let m = behind file at x.size (x.bytes v.0) (y.bytes v.1 ++ rest) (lx.long v.0 h.0) k in
      rw (lx.read file at v.0 (y.bytes v.1 ++ rest) h.0 k, ly.read file (at + x.size) v.1 rest h.1 m);
}

-- each of a list is within its limits
abbrev pub WithinAll : {A : Type 0} → (A → Type 0) → List A → Type 0
WithinAll W [] = Unit {0}
WithinAll W (v ∷ vs) = W v × WithinAll W vs

module _ {A : Type 0} {x : Fixed A} {W : A → Type 0} (l : LawfulFixed x W) where
  all-long : (vs : List A) → WithinAll W vs → length (bytes_all x vs) ≡ x.size * length vs
  all-long [] h = omega arith
  all-long (v ∷ vs) h = length-append (x.bytes v) (bytes_all x vs) ∙ omega (arith, l.long v h.0, all-long vs h.1)

  all_tested : (vs : List A) → WithinAll W vs → right_all x vs ≡ true
  all_tested [] h = refl
  all_tested (v ∷ vs) h = rw (l.tested v h.0, all_tested vs h.1)

  all-within : (vs : List A) → right_all x vs ≡ true → WithinAll W vs
  all-within [] h = tt
  all-within (v ∷ vs) h = search (l.within, all-within vs, first_so, second_so)

  all-written : (file : List ℕ) → Bytes file → (at n : ℕ) → at + x.size * n ≤ length file
      → bytes_all x (value_all x file at n) ++ drop (at + x.size * n) file ≡ drop at file
  all-written file b at zero h = let e : at + x.size * 0 ≡ at = omega arith in rw e
  all-written file b at (suc n) h =
      let e : at + x.size * suc n ≡ at + x.size + x.size * n = omega arith in
      rw (e, append_assoc, all-written file b (at + x.size) n (omega arith)) (l.written file b at (omega arith))

  all_read : (file : List ℕ) (at : ℕ) (vs : List A) (rest : List ℕ) → WithinAll W vs → drop at file ≡ bytes_all x vs ++ rest
      → value_all x file at (length vs) ≡ vs
  all_read file at [] rest h e = refl
  all_read file at (v ∷ vs) rest h e =
      let k = rw append_assoc at e in
      let m = behind file at x.size (x.bytes v) (bytes_all x vs ++ rest) (l.long v h.0) k in
      rw (l.read file at v (bytes_all x vs ++ rest) h.0 k, all_read file (at + x.size) vs rest h.1 m)

  pub several-lawful : (n : ℕ) → LawfulFixed (several n x) (λ vs. (length vs ≡ n) × WithinAll W vs)
  several-lawful n = record {
    long = λ vs h. all-long vs h.1 ∙ ap (λ i. x.size * i) h.0;
    tested = λ vs h. rw (eq-eqb (length vs) n h.0) (all_tested vs h.1);
    within = λ vs h.
        let counts = eqb (length vs) n in
        (eqb-true (length vs) n (first_so counts (right_all x vs) h), all-within vs (second_so counts (right_all x vs) h));
    written = λ file b at. all-written file b at n;
    read = λ file at vs rest h e. ap (value_all x file at) (sym h.0) ∙ all_read file at vs rest h.1 e;
  }

pub named-lawful : {A B : Type 0} {x : Fixed A} {W : A → Type 0} (to : A → B) (from : B → A)
    → ((file : List ℕ) (at : ℕ) → from (to (x.value file at)) ≡ x.value file at) → ((v : B) → to (from v) ≡ v)
    → LawfulFixed x W → LawfulFixed (named to from x) (λ v. W (from v))
named-lawful {x = x} {W = W} to from same back l = record {
  long = λ v. l.long (from v);
  tested = λ v. l.tested (from v);
  within = λ v. l.within (from v);
  written = λ file b at h. ap (λ v. x.bytes v ++ drop (at + x.size) file) (same file at) ∙ l.written file b at h;
  read = λ file at v rest h e. ap to (l.read file at (from v) rest h e) ∙ back v;
}

-- ---- fields

pub record Lawful {A : Type 0} (f : Field A) (W : A → Type 0) : Type 0 where
  pub within : (file : List ℕ) (at : ℕ) → Hold (f.checks file at) → W (f.value file at)
  pub written : (file : List ℕ) → Bytes file → (at : ℕ) → Hold (f.checks file at)
      → f.bytes (f.value file at) ++ drop (f.end file at) file ≡ drop at file
  pub read : (file : List ℕ) (at : ℕ) (v : A) (rest : List ℕ) → W v → drop at file ≡ f.bytes v ++ rest
      → (f.value file at ≡ v) × (drop (f.end file at) file ≡ rest) × Hold (f.checks file at)

-- the same limits said otherwise
pub field-as : {A : Type 0} {f : Field A} {U W : A → Type 0} → ((v : A) → U v → W v) → ((v : A) → W v → U v) → Lawful f U → Lawful f W
field-as to from l = search (to, from, l.within, l.written, l.read)

-- what has no bytes could stand past the end of a file, so the size is not 0
pub field-lawful : {A : Type 0} {x : Fixed A} {W : A → Type 0} (r : Refusal) → 1 ≤ x.size
    → LawfulFixed x W → Lawful (field r x) W
field-lawful {x = x} r some l = record {
  within = λ file at h. l.within (x.value file at) h.1.0;
  written = λ file b at h. l.written file b at (leb-true (at + x.size) (length file) h.0);
  read = λ file at v rest h e.
      let is = l.read file at v rest h e in
      let n = l.long v h in
      let end = reached file at x.size (x.bytes v) rest n some e in
      (is, behind file at x.size (x.bytes v) rest n e, (le-leb (at + x.size) (length file) end, (rw is (l.tested v h), tt)));
}

-- after the count, the run is read as a field
pub counted-lawful : {A : Type 0} {x : Fixed A} {W : A → Type 0} (most : ℕ) (c r : Refusal) → most < 256
    → 1 ≤ x.size → LawfulFixed x W → Lawful (counted most c r x) (λ vs. (1 ≤ length vs) × (length vs ≤ most) × WithinAll W vs)
counted-lawful {x = x} most c r fits some l = record {
  within = λ file at h.
      let n = get_or file at 0 in
      let k = within-true 1 most n h.1.0 in
      rw (values_length x file (at + 1) n) (k.0, k.1, all-within l (value_all x file (at + 1) n) h.1.1.1.0);
  written = λ file b at h.
      let n = get_or file at 0 in
      let run = all-written l file b (at + 1) n (leb-true (at + 1 + x.size * n) (length file) h.1.1.0) in
      rw (values_length x file (at + 1) n, append_assoc, run) (byte-written file b at (leb-true (at + 1) (length file) h.0));
  read = λ file at vs rest h e.
      let k = rw append_assoc at e in
      let m = behind file at 1 (bytes_of 1 (length vs)) (bytes_all x vs ++ rest) (length-bytes 1 (length vs)) k in
      let n : get_or file at 0 ≡ length vs = byte-read file at (length vs) (bytes_all x vs ++ rest) (lt_of_le_of_lt h.1 fits) k in
      let far = mul-le-mul {n₁ = 1} {m₁ = 1} {n₂ = x.size} {m₂ = length vs} some h.0 in
      let (is, end, run) = (field-lawful EndsEarly far (several-lawful l (length vs))).read file (at + 1) vs rest (refl, h.2) m in
      let reach = leb-true (at + 1 + x.size * length vs) (length file) run.0 in
      let first = le-leb (at + 1) (length file) (omega (arith, reach)) in
      let right = ap (right_all x) is ∙ all_tested l vs h.2 in
      rw n (is, end, first also within-test 1 most (length vs) (h.0, h.1) also run.0 also right also tt);
}

-- a run of none is refused by its count
pub none-refused : {A : Type 0} (x : Fixed A) (most : ℕ) (c r : Refusal) (file : List ℕ) (at : ℕ) (rest : List ℕ) (others : List Check)
    → drop at file ≡ (counted most c r x).bytes [] ++ rest → failing ((counted most c r x).checks file at ++ others) ≡ Some c
unfolding bytes_of
none-refused x most c r file at rest others e =
    let n : get_or file at 0 ≡ 0 = byte-read file at 0 rest (lit< tt) e in
    let reach = reached file at 1 (bytes_of 1 0) rest (length-bytes 1 0) (lit≤ tt) e in
    rw (le-leb (at + 1) (length file) reach, n)

-- within the limits where the field is there, and else the known value
abbrev pub IfThere : {A : Type 0} → Bool → A → (A → Type 0) → A → Type 0
IfThere there absent W v = (there ≡ true → W v) × (there ≡ false → v ≡ absent)

pub optional-lawful : {A : Type 0} {f : Field A} {W : A → Type 0} (there : Bool) (absent : A) → Lawful f W
    → Lawful (optional there absent f) (IfThere there absent W)
optional-lawful true absent l = field-as (λ v h. (λ e. h, λ e. absurd (subst T e tt))) (λ v h. h.0 refl) l
optional-lawful false absent l = record {
  within = λ file at h. (λ e. absurd (subst T (sym e) tt), λ e. refl);
  written = λ file b at h. refl;
  read = λ file at v rest h e. (sym (h.1 refl), e, tt);
}

infixr 4 ◌then_lawful◌
pub ◌then_lawful◌ : {A B : Type 0} {f : Field A} {g : Field B} {X : A → Type 0} {Y : B → Type 0}
    → Lawful f X → Lawful g Y → Lawful (f then g) (λ v. X v.0 × Y v.1)
◌then_lawful◌ {f = f} {g = g} lf lg = record {
  within = λ file at h.
      let (a, b) = hold-parts (f.checks file at) (g.checks file (f.end file at)) h in
      (lf.within file at a, lg.within file (f.end file at) b);
  written = λ file bs at h.
      let (a, b) = hold-parts (f.checks file at) (g.checks file (f.end file at)) h in
      rw (append_assoc, lg.written file bs (f.end file at) b) (lf.written file bs at a);
  read = λ file at v rest h e.
      let (a, m, c) = lf.read file at v.0 (g.bytes v.1 ++ rest) h.0 (rw append_assoc at e) in
      let (b, n, d) = lg.read file (f.end file at) v.1 rest h.1 m in
      (rw (a, b), n, hold-append (f.checks file at) (g.checks file (f.end file at)) c d);
}

-- ---- fields of a case that is in no file

-- a value passes the checks exactly when it is within its limits
pub record Limited {A : Type 0} (f : Field A) (W : A → Type 0) : Type 0 where
  pub within : (v : A) → Hold (f.limits v) → W v
  pub tested : (v : A) → W v → Hold (f.limits v)

-- the same limits said otherwise
pub limited-as : {A : Type 0} {f : Field A} {U W : A → Type 0} → ((v : A) → U v → W v) → ((v : A) → W v → U v) → Limited f U → Limited f W
limited-as to from l = search (to, from, l.within, l.tested)

pub field-limited : {A : Type 0} {x : Fixed A} {W : A → Type 0} (r : Refusal) → LawfulFixed x W → Limited (field r x) W
field-limited r l = record { within = λ v h. l.within v h.0; tested = λ v h. (l.tested v h, tt) }

pub counted-limited : {A : Type 0} {x : Fixed A} {W : A → Type 0} (most : ℕ) (c r : Refusal)
    → LawfulFixed x W → Limited (counted most c r x) (λ vs. (1 ≤ length vs) × (length vs ≤ most) × WithinAll W vs)
counted-limited most c r l = record {
  within = λ vs h. let k = within-true 1 most (length vs) h.0 in (k.0, k.1, all-within l vs h.1.0);
  tested = λ vs h. within-test 1 most (length vs) (h.0, h.1) also all_tested l vs h.2 also tt;
}

-- nothing is checked of an absent field
pub optional-limited : {A : Type 0} {f : Field A} {W : A → Type 0} (there : Bool) (absent : A) → Limited f W
    → Limited (optional there absent f) (λ v. there ≡ true → W v)
optional-limited true absent l = limited-as (λ v h e. h) (λ v h. h refl) l
optional-limited false absent l = record { within = λ v h e. absurd (subst T (sym e) tt); tested = λ v h. tt }

infixr 4 ◌then_limited◌
pub ◌then_limited◌ : {A B : Type 0} {f : Field A} {g : Field B} {X : A → Type 0} {Y : B → Type 0}
    → Limited f X → Limited g Y → Limited (f then g) (λ v. X v.0 × Y v.1)
◌then_limited◌ {f = f} {g = g} lf lg = record {
  within = λ v h.
      let (a, b) = hold-parts (f.limits v.0) (g.limits v.1) h in
      (lf.within v.0 a, lg.within v.1 b);
  tested = λ v h. hold-append (f.limits v.0) (g.limits v.1) (lf.tested v.0 h.0) (lg.tested v.1 h.1);
}
