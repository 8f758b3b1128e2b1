-- How far the fields of a file reach, and that no more of it is looked at. A field of at most `size` bytes, whose checks hold, ends at most
-- `size` bytes after its start; and of two files that are alike up to there, the first check that fails is the same. So an accepted file
-- has at most 17,625 bytes, and the first 17,626 decide about any: where they have no other refusal, a longer file is refused with 2.
use mathlib.Core.Path.{◌≡◌, refl, ap, ap₂, sym, ◌∙◌}
use mathlib.Core.Bool.{Bool, true, false, cond}
use mathlib.Core.List.{List, [], ◌∷◌, ◌++◌}
use Prim.Native.Nat.{ℕ, zero, suc, ◌+◌, ◌*◌, ◌≤◌, ◌<◌}
use native.Mathlib.Nat.{mul-le-mul}
use native.Mathlib.Decide.{dec_le}
use native.Mathlib.Omega.{arith}
use borrow.Author.Tests.{le-leb, lt-leb, leb-true}
use lib.Dec.{leb, lit≤}
use lib.ListN.{length, get_or, take}
use lib.Seq.{length-take-le, get_or-take, take_all}
use Rattle.std.specs.Cmp.{second_so}
use Rattle.std.specs.Prelude.{Option, Some, None}
use Rattle.refusal.specs.declared.Refusal.{Refusal}
use Rattle.refusal.specs.declared.Refusal.TheVariants.{EndsEarly, BytesFollow, DayCount, Rate, Forward, FlowCount, Flow, Ufr, Amount, Shock}
use Rattle.model.specs.Constants.{default_ufr, default_equity_correlation}
use Rattle.model.specs.Numbers.{number, twos_complement}
use Rattle.model.specs.Case.{units_per_step, per_step}
use Rattle.model.specs.Fields.{Check, within, Fixed, number_of, pair_of, value_all, right_all, several, named}
use Rattle.model.specs.Fields.{Field, field, counted, optional, ◌then◌}
use Rattle.model.specs.Layout.{rate, days, flow, amounts_from, amounts_in_order, amounts, no_amounts, shocks}
use Rattle.model.specs.Layout.{people_from, people_in_order, people, Present, Parts, layout}
use Rattle.model.specs.Layout.{stands, file_map, rate_bytes_in, present_in, case_of}
use Rattle.model.specs.Refusals.{failing, checks, map_checks, forwards_right, refusal}
use Rattle.theory.proofs.acceptance.Checks.{Hold, hold-parts, none-holds, none-hold, holds-first, fails-first}

-- two files that are alike up to a position, which both reach
pub record Alike (n : ℕ) (file front : List ℕ) : Type 0 where
  pub long : n ≤ length file
  pub front_long : n ≤ length front
  pub same : (i : ℕ) → i < n → get_or front i 0 ≡ get_or file i 0

-- ---- numbers and runs of them: what is read is the same

pub record Read {A : Type 0} (x : Fixed A) : Type 0 where
  pub alike : (n : ℕ) (file front : List ℕ) → Alike n file front → (at : ℕ) → at + x.size ≤ n → x.value front at ≡ x.value file at

number-alike : (n : ℕ) (file front : List ℕ) → Alike n file front → (at w : ℕ) → at + w ≤ n → number front at w ≡ number file at w
unfolding number
number-alike n file front a at zero h = refl
number-alike n file front a at (suc w) h =
    ap₂ (λ (high low : ℕ). high * 256 + low) (number-alike n file front a at w (omega (arith, h))) (a.same (at + w) (omega (arith, h)))

number-read : (w least most : ℕ) → Read (number_of w least most)
number-read w least most = record { alike = λ n file front a at h. number-alike n file front a at w h }

rate-read : (w scale : ℕ) → Read (rate w scale)
rate-read w scale = record { alike = λ n file front a at h. ap (twos_complement w) (number-alike n file front a at w h) }

pair-read : {A B : Type 0} {x : Fixed A} {y : Fixed B} → Read x → Read y → Read (pair_of x y)
pair-read {x = x} {y = y} rx ry = record {
  alike = λ n file front a at h.
      let i = rx.alike n file front a at (omega (arith, h)) in
      let j = ry.alike n file front a (at + x.size) (omega (arith, h)) in
      rw (i, j);
}

module _ {A : Type 0} {x : Fixed A} (r : Read x) where
  all-alike : (n : ℕ) (file front : List ℕ) → Alike n file front → (at m : ℕ) → at + x.size * m ≤ n → value_all x front at m ≡ value_all x file at m
  all-alike n file front a at zero h = refl
  all-alike n file front a at (suc m) h =
      ap₂ (λ (v : A) (vs : List A). v ∷ vs) (r.alike n file front a at (omega (arith, h)))
      (all-alike n file front a (at + x.size) m (omega (arith, h)))

  several-read : (m : ℕ) → Read (several m x)
  several-read m = record { alike = λ n file front a at h. all-alike n file front a at m h }

named-read : {A B : Type 0} {x : Fixed A} (to : A → B) (from : B → A) → Read x → Read (named to from x)
named-read to from r = record { alike = λ n file front a at h. ap to (r.alike n file front a at h) }

-- ---- fields

pub record Decided {A : Type 0} (f : Field A) (size : ℕ) : Type 0 where
  pub ends : (file : List ℕ) (at : ℕ) → Hold (f.checks file at) → f.end file at ≤ at + size
  pub same_end : (n : ℕ) (file front : List ℕ) → Alike n file front → (at : ℕ) → at + size ≤ n → Hold (f.checks file at)
      → f.end front at ≡ f.end file at
  pub same : (n : ℕ) (file front : List ℕ) → Alike n file front → (at : ℕ) → at + size ≤ n
      → failing (f.checks front at) ≡ failing (f.checks file at)

-- both reach a position up to which they are alike
both-reach : (n : ℕ) (file front : List ℕ) → Alike n file front → (end : ℕ) → end ≤ n → leb end (length front) ≡ leb end (length file)
both-reach n file front a end h =
    le-leb end (length front) (omega (arith, h, a.front_long)) ∙ sym (le-leb end (length file) (omega (arith, h, a.long)))

field-decided : {A : Type 0} {x : Fixed A} (r : Refusal) → Read x → Decided (field r x) x.size
field-decided {x = x} r read = record {
  ends = λ file at h. omega arith;
  same_end = λ n file front a at h held. refl;
  same = λ n file front a at h. rw (both-reach n file front a (at + x.size) h, read.alike n file front a at h);
}

-- what is checked of a run after its count
abbrev run-checks : {A : Type 0} → Fixed A → Refusal → ℕ → List ℕ → ℕ → List Check
run-checks x r m file at = (leb (at + 1 + x.size * m) (length file), EndsEarly) ∷ (right_all x (value_all x file (at + 1) m), r) ∷ []

-- the count is looked at before what it counts
counted-decided : {A : Type 0} {x : Fixed A} (most : ℕ) (c r : Refusal) → Read x → Decided (counted most c r x) (1 + x.size * most)
counted-decided {A} {x} most c r read = record {
  ends = λ file at h. reach at (get_or file at 0) (few (get_or file at 0) h.1.0);
  same_end = λ n file front a at h held. rw (a.same at (omega (arith, h)));
  same = same-checks;
}
  where
    few : (m : ℕ) → within 1 most m ≡ true → m ≤ most
    few m h = leb-true m most (second_so (leb 1 m) (leb m most) h)

    reach : (at m : ℕ) → m ≤ most → at + 1 + x.size * m ≤ at + (1 + x.size * most)
    reach at m h = omega (arith, mul-le-mul {n₁ = x.size} {m₁ = m} {n₂ = x.size} {m₂ = most} (omega arith) h)

    -- the count is within its limits or not
    same-run : (n : ℕ) (file front : List ℕ) → Alike n file front → (at m : ℕ) → at + (1 + x.size * most) ≤ n → (b : Bool) → within 1 most m ≡ b
        → failing ((b, c) ∷ run-checks x r m front at) ≡ failing ((b, c) ∷ run-checks x r m file at)
    same-run n file front a at m h false e = refl
    same-run n file front a at m h true e =
        let end : at + 1 + x.size * m ≤ n = omega (arith, h, reach at m (few m e)) in
        rw (both-reach n file front a (at + 1 + x.size * m) end, all-alike read n file front a (at + 1) m end)

    same-checks : (n : ℕ) (file front : List ℕ) → Alike n file front → (at : ℕ) → at + (1 + x.size * most) ≤ n
        → failing ((counted most c r x).checks front at) ≡ failing ((counted most c r x).checks file at)
    same-checks n file front a at h =
        let m = get_or file at 0 in
        rw (both-reach n file front a (at + 1) (omega (arith, h)), a.same at (omega (arith, h)))
        (ap (λ (o : Option Refusal). cond (leb (at + 1) (length file)) o (Some EndsEarly)) (same-run n file front a at m h (within 1 most m) refl))

-- a field that may be absent
optional-decided : {A : Type 0} {f : Field A} {size : ℕ} (there : Bool) (absent : A) → Decided f size → Decided (optional there absent f) size
optional-decided true absent d = record { ends = d.ends; same_end = d.same_end; same = d.same }
optional-decided false absent d = record {
  ends = λ file at h. omega arith;
  same_end = λ n file front a at h held. refl;
  same = λ n file front a at h. refl;
}

-- one that is
absent-decided : {A : Type 0} (f : Field A) (absent : A) → Decided (optional false absent f) 0
absent-decided f absent = record {
  ends = λ file at h. omega arith;
  same_end = λ n file front a at h held. refl;
  same = λ n file front a at h. refl;
}

infixr 4 ◌then_decided◌
◌then_decided◌ : {A B : Type 0} {f : Field A} {g : Field B} {s t : ℕ} → Decided f s → Decided g t → Decided (f then g) (s + t)
◌then_decided◌ {f = f} {g = g} {s = s} {t = t} df dg = record {
  ends = λ file at h.
      let (p, q) = hold-parts (f.checks file at) (g.checks file (f.end file at)) h in
      omega (arith, df.ends file at p, dg.ends file (f.end file at) q);
  same_end = λ n file front a at h held.
      let (p, q) = hold-parts (f.checks file at) (g.checks file (f.end file at)) held in
      let e = df.same_end n file front a at (omega (arith, h)) p in
      rw e (dg.same_end n file front a (f.end file at) (omega (arith, h, df.ends file at p)) q);
  same = λ n file front a at h. both n file front a at h (failing (f.checks file at)) refl;
}
  where
    both : (n : ℕ) (file front : List ℕ) → Alike n file front → (at : ℕ) → at + (s + t) ≤ n → (o : Option Refusal) → failing (f.checks file at) ≡ o
        → failing (f.checks front at ++ g.checks front (f.end front at)) ≡ failing (f.checks file at ++ g.checks file (f.end file at))
    both n file front a at h (Some r) e =
        let first = df.same n file front a at (omega (arith, h)) in
        fails-first (f.checks front at) (g.checks front (f.end front at)) r (first ∙ e)
        ∙ sym (fails-first (f.checks file at) (g.checks file (f.end file at)) r e)
    both n file front a at h None e =
        let first = df.same n file front a at (omega (arith, h)) in
        let held = none-holds (f.checks file at) e in
        let end = df.same_end n file front a at (omega (arith, h)) held in
        let later = dg.same n file front a (f.end file at) (omega (arith, h, df.ends file at held)) in
        holds-first (f.checks front at) (g.checks front (f.end front at)) (first ∙ e)
        ∙ ap (λ (i : ℕ). failing (g.checks front i)) end
        ∙ later
        ∙ sym (holds-first (f.checks file at) (g.checks file (f.end file at)) e)

-- ---- the layout, of rates of 2 and of 4 bytes

days-decided : (w : ℕ) → Decided (days w) (1 + w * 60 * 70)
days-decided w = counted-decided 70 DayCount Rate (several-read (rate-read w (units_per_step w)) 60)

flows-decided : (most : ℕ) → Decided (counted most FlowCount Flow flow) (1 + 4 * most)
flows-decided most = counted-decided most FlowCount Flow (number-read 4 0 100000000)

amounts-read : Read amounts
amounts-read = named-read amounts_from amounts_in_order (several-read (number-read 8 0 100000000000) 8)

shocks-read : Read shocks
shocks-read =
    pair-read (several-read (number-read 2 0 1000) 10) (pair-read (number-read 2 0 10000) (number-read 2 0 500))

people-read : Read people
people-read =
    named-read people_from people_in_order
    (pair-read (number-read 4 1 1000000) (pair-read (number-read 2 0 1200) (number-read 2 0 1200)))

two-decided : (p : Present) → Decided (layout 2 p) 9223
two-decided p =
    (optional-decided p.ufr default_ufr (field-decided Ufr (number-read 2 0 5000))
    then_decided days-decided 2
    then_decided flows-decided 120
    then_decided optional-decided p.bonds [] (flows-decided 60)
    then_decided optional-decided p.amounts no_amounts (field-decided Amount amounts-read)
    then_decided field-decided Shock shocks-read
    then_decided field-decided Refusal.People people-read)
    then_decided absent-decided (days 4) []
    then_decided optional-decided p.equity default_equity_correlation (field-decided Shock (number-read 2 0 1000))

four-decided : (p : Present) → Decided (layout 4 p) 17623
four-decided p =
    (optional-decided p.ufr default_ufr (field-decided Ufr (number-read 2 0 5000))
    then_decided absent-decided (days 2) []
    then_decided flows-decided 120
    then_decided optional-decided p.bonds [] (flows-decided 60)
    then_decided optional-decided p.amounts no_amounts (field-decided Amount amounts-read)
    then_decided field-decided Shock shocks-read
    then_decided field-decided Refusal.People people-read)
    then_decided days-decided 4
    then_decided optional-decided p.equity default_equity_correlation (field-decided Shock (number-read 2 0 1000))

-- ---- a whole file

abbrev layout_in : List ℕ → Field Parts
layout_in file = layout (rate_bytes_in (file_map file)) (present_in (file_map file))

-- of either form the fields end within 17,625 bytes
in-layout : (b : Bool) (p : Present) → Decided (layout (cond b 4 2) p) 17623
in-layout true p = four-decided p
in-layout false p = wider (two-decided p)
  where
    wider : {A : Type 0} {f : Field A} → Decided f 9223 → Decided f 17623
    wider d = record {
      ends = λ file at h. omega (arith, d.ends file at h);
      same_end = λ n file front a at h. d.same_end n file front a at (omega (arith, h));
      same = λ n file front a at h. d.same n file front a at (omega (arith, h));
    }

file-decided : (file : List ℕ) → Decided (layout_in file) 17623
file-decided file = in-layout (stands 7 (file_map file)) (present_in (file_map file))

-- an accepted file
module _ (file : List ℕ) (h : refusal file ≡ 0) where
  pub accepted-short : length file ≤ 17625
  unfolding refusal checks
  accepted-short =
      let fields = (layout_in file).checks file 2 in
      let (m, k) = hold-parts (map_checks file) _ (none-hold (checks file) h) in
      let (f, e) = hold-parts fields _ k in
      omega (arith, (file-decided file).ends file 2 f, leb-true (length file) ((layout_in file).end file 2) e.0)

  pub front-whole : take 17626 file ≡ file
  front-whole = take_all 17626 file (omega (arith, accepted-short))

-- a longer file
module _ (file : List ℕ) (long : 17626 ≤ length file) where
  abbrev front : List ℕ
  front = take 17626 file

  front-length : length front ≡ 17626
  front-length = length-take-le 17626 file long

  front-alike : Alike 17626 file front
  front-alike = record {
    long = long;
    front_long = omega (arith, front-length);
    same = λ i l. get_or-take 17626 file i 0 l;
  }

  same-map : file_map front ≡ file_map file
  unfolding file_map
  same-map = number-alike 17626 file front front-alike 0 2 (lit≤ tt)

  -- no file of this many bytes ends where its fields end
  abbrev last : List ℕ → List Check
  last f = (leb (length f) ((layout_in f).end f 2), BytesFollow) ∷ (forwards_right (per_step (case_of f)) (case_of f).days, Forward) ∷ []

  too-long : (f : List ℕ) → 17626 ≤ length f → (layout_in f).end f 2 ≤ 17625 → failing (last f) ≡ Some BytesFollow
  too-long f l e = rw (lt-leb (length f) ((layout_in f).end f 2) (omega (arith, l, e)))

  pub same-refusal : failing (checks front) ≡ failing (checks file)
  unfolding checks
  same-refusal =
      let d = file-decided file in
      let both : failing ((layout_in front).checks front 2) ≡ failing ((layout_in file).checks file 2) =
      ap (λ (m : ℕ). failing ((layout (rate_bytes_in m) (present_in m)).checks front 2)) same-map
      ∙ d.same 17626 file front front-alike 2 (lit≤ tt) in
      let end : Hold ((layout_in file).checks file 2) → (layout_in front).end front 2 ≡ (layout_in file).end file 2 =
      λ h.
      ap (λ (m : ℕ). (layout (rate_bytes_in m) (present_in m)).end front 2) same-map
      ∙ d.same_end 17626 file front front-alike 2 (lit≤ tt) h in
      let map : failing (map_checks front) ≡ failing (map_checks file) =
      rw (both-reach 17626 file front front-alike 2 (lit≤ tt), same-map) in
      one-after (map_checks front) (map_checks file)
      ((layout_in front).checks front 2 ++ last front) ((layout_in file).checks file 2 ++ last file) map
      (by-fields (failing ((layout_in file).checks file 2)) refl both end)
    where
      one-after : (cs ds es fs : List Check) → failing cs ≡ failing ds → failing es ≡ failing fs → failing (cs ++ es) ≡ failing (ds ++ fs)
      one-after cs ds es fs e g = go (failing ds) refl
        where
          go : (o : Option Refusal) → failing ds ≡ o → failing (cs ++ es) ≡ failing (ds ++ fs)
          go (Some r) k = fails-first cs es r (e ∙ k) ∙ sym (fails-first ds fs r k)
          go None k = holds-first cs es (e ∙ k) ∙ g ∙ sym (holds-first ds fs k)

      by-fields : (o : Option Refusal) → failing ((layout_in file).checks file 2) ≡ o
          → failing ((layout_in front).checks front 2) ≡ failing ((layout_in file).checks file 2)
          → (Hold ((layout_in file).checks file 2) → (layout_in front).end front 2 ≡ (layout_in file).end file 2)
          → failing ((layout_in front).checks front 2 ++ last front) ≡ failing ((layout_in file).checks file 2 ++ last file)
      by-fields (Some r) k e end =
          fails-first ((layout_in front).checks front 2) (last front) r (e ∙ k) ∙ sym (fails-first ((layout_in file).checks file 2) (last file) r k)
      by-fields None k e end =
          let held = none-holds ((layout_in file).checks file 2) k in
          let within = (file-decided file).ends file 2 held in
          holds-first ((layout_in front).checks front 2) (last front) (e ∙ k)
          ∙ too-long front (omega (arith, front-length)) (omega (arith, end held, within))
          ∙ sym (too-long file long (omega (arith, within)))
          ∙ sym (holds-first ((layout_in file).checks file 2) (last file) k)

-- every file: one of fewer bytes is its own front
pub front-decides : (file : List ℕ) → failing (checks (take 17626 file)) ≡ failing (checks file)
front-decides file = go (dec_le 17626 (length file))
  where
    go : Dec (17626 ≤ length file) → failing (checks (take 17626 file)) ≡ failing (checks file)
    go (yes l) = same-refusal file l
    go (no n) = ap (λ (f : List ℕ). failing (checks f)) (take_all 17626 file (omega (arith, n)))
