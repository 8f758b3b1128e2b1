-- The days: their limits, their bytes, and the bytes of one rate.
use Prim.Native.Nat.{ℕ, zero, suc, ◌+◌, ◌*◌, ◌-◌, ◌/◌, ◌%◌, ◌≤◌, ◌<◌}
use mathlib.Core.Path.{◌≡◌, refl, ap, ap₂, sym, ◌∙◌, subst}
use mathlib.Core.Bool.{Bool, true, false}
use mathlib.Core.List.{List, [], ◌∷◌}
use native.Mathlib.Omega.{arith}
use borrow.Author.Tests.{leb-true, eqb-true}
use native.Mathlib.Nat.{mul-le-mul_left}
use native.Mathlib.Numerals.{add-one}
use lib.Dec.{leb, eqb}
use lib.ListN.{length, get_or, take, drop, length-append}
use lib.Seq.{length-take-le, take-suc, take_all}
use lib.IntN.{ℤ, pos, negsuc}
use mir.Syntax.{w32}
use mir.Val.{of_z}
use Rattle.std.specs.Cmp.{first_so, second_so}
use Rattle.std.proofs.lemmas.Bool.{and_from}
use Rattle.std.proofs.Common.{Option, None}
use Rattle.std.specs.Int.{bytes_high_first}
use Rattle.std.specs.Option.{SomeIff}
use Rattle.refusal.specs.declared.Refusal.TheVariants.{DayCount, Rate}
use Rattle.model.specs.Fields.{within, bytes_all, right_all}
use Rattle.model.specs.Case.{known_form}
use Rattle.model.specs.Layout.{daily_rate, day, days}
use Rattle.model.specs.Numbers.{bytes_of, unsigned}
use Rattle.theory.proofs.acceptance.Encoding.{length-bytes}
use Rattle.theory.proofs.acceptance.Form.{by_form}
use Rattle.fields.specs.Sums.{added, sums_of}
use Rattle.fields.proofs.DaySums.{sums-more}
use Rattle.model.specs.Refusals.{failing}
use Rattle.fields.specs.Wrote.{Wrote}
use Rattle.fields.specs.declared.writer.Writer.{Writer}
use Rattle.fields.proofs.Bytes.{length_run, drop-high, high-bytes}

-- ---- a day that is right, and days that are

module _ (w : ℕ) where
  module _ (rates : List ℤ) (right : (day w).right rates ≡ true) where
    pub day-long : length rates ≡ 60
    day-long = eqb-true (length rates) 60 (first_so (eqb (length rates) 60) (right_all (daily_rate w) rates) right)

    pub rates-right : right_all (daily_rate w) rates ≡ true
    rates-right = second_so (eqb (length rates) 60) (right_all (daily_rate w) rates) right

    pub day-length : length (bytes_all (daily_rate w) rates) ≡ w * 60
    day-length = length_run (daily_rate w) (λ z. length-bytes w (unsigned w z)) rates ∙ ap (λ (n : ℕ). w * n) day-long

  pub days-length : (ds : List (List ℤ)) → right_all (day w) ds ≡ true → length (bytes_all (day w) ds) ≡ w * 60 * length ds
  days-length [] h = omega arith
  days-length (d ∷ ds) h =
      let first = day-length d (first_so ((day w).right d) (right_all (day w) ds) h) in
      let rest = days-length ds (second_so ((day w).right d) (right_all (day w) ds) h) in
      length-append (bytes_all (daily_rate w) d) (bytes_all (day w) ds) ∙ omega (arith, first, rest)

  -- a front of them
  pub front-right : (ds : List (List ℤ)) (i : ℕ) → right_all (day w) ds ≡ true → right_all (day w) (take i ds) ≡ true
  front-right ds zero h = refl
  front-right [] (suc i) h = refl
  front-right (d ∷ ds) (suc i) h =
      and_from ((day w).right d) (right_all (day w) (take i ds)) (first_so ((day w).right d) (right_all (day w) ds) h)
      (front-right ds i (second_so ((day w).right d) (right_all (day w) ds) h))

  -- a write more
  pub room-for-day : {a b : Writer} (ds : List (List ℤ)) (i : ℕ) → i < length ds → right_all (day w) ds ≡ true → a.at + w * 60 * length ds ≤ length a.out.now
      → Wrote a (bytes_all (day w) (take i ds)) b → b.at + w * 60 ≤ length b.out.now
  room-for-day ds i l right room p =
      let more : i + 1 ≤ length ds = omega arith in
      let most : w * 60 * (i + 1) ≤ w * 60 * length ds = mul-le-mul_left (w * 60) more in
      let so_far : length (bytes_all (day w) (take i ds)) ≡ w * 60 * i =
      days-length (take i ds) (front-right ds i right) ∙ ap (λ (k : ℕ). w * 60 * k) (length-take-le i ds (omega arith)) in
      omega (arith, p.place, p.long, so_far, most)

  -- ---- the checks of the days

  module _ (ds : List (List ℤ)) where
    pub days-hold : failing ((days w).limits ds) ≡ None → (within 1 70 (length ds) ≡ true) × (right_all (day w) ds ≡ true)
    days-hold h = go (within 1 70 (length ds)) (right_all (day w) ds) h
      where
        go : (a b : Bool) → failing ((a, DayCount) ∷ (b, Rate) ∷ []) ≡ None → (a ≡ true) × (b ≡ true)
        go true true h = (refl, refl)
        go true false h = cc
        go false b h = cc

    module _ (hold : failing ((days w).limits ds) ≡ None) where
      pub few-days : length ds ≤ 70
      few-days = leb-true (length ds) 70 (second_so (leb 1 (length ds)) (leb (length ds) 70) (days-hold hold).0)

      pub field-length : length ((days w).bytes ds) ≡ 1 + w * 60 * length ds
      field-length =
          length-append (bytes_of 1 (length ds)) (bytes_all (day w) ds)
          ∙ omega (arith, length-bytes 1 (length ds), days-length ds (days-hold hold).1)

-- ---- a length that is known otherwise

pub sized : (o : Option ℕ) (room : ℕ) {m n : ℕ} → m ≡ n → SomeIff o (n ≤ room) (room - n) → SomeIff o (m ≤ room) (room - m)
sized o room e h = subst (λ (k : ℕ). SomeIff o (k ≤ room) (room - k)) (sym e) h

-- ---- the bytes of a rate

rate-bits : (w : ℕ) → known_form w ≡ true → (z : ℤ) → (daily_rate w).right z ≡ true → bytes_of w (of_z w32 z) ≡ (daily_rate w).bytes z
unfolding bytes_of
rate-bits w known z = by_form (λ v. (daily_rate v).right z ≡ true → bytes_of v (of_z w32 z) ≡ (daily_rate v).bytes z) w known (two z) (four z)
  where
    two : (z : ℤ) → (daily_rate 2).right z ≡ true → bytes_of 2 (of_z w32 z) ≡ (daily_rate 2).bytes z
    two (pos n) h = refl
    two (negsuc n) h =
        let l = leb-true n 999 (first_so (leb n 999) true h) in
        let first : (4294967296 - suc n) / 256 % 256 ≡ (65536 - suc n) / 256 % 256 = omega arith in
        let second : (4294967296 - suc n) % 256 ≡ (65536 - suc n) % 256 = omega arith in
        ap₂ (λ (a b : ℕ). a ∷ b ∷ []) first second

    four : (z : ℤ) → (daily_rate 4).right z ≡ true → bytes_of 4 (of_z w32 z) ≡ (daily_rate 4).bytes z
    four (pos n) h = refl
    four (negsuc n) h = refl

pub rate-bytes : {n w : ℕ} → n ≡ w → known_form w ≡ true → (z : ℤ) {y : ℤ} {bytes : List ℕ} → y ≡ z → bytes ≡ bytes_high_first 4 (of_z w32 y)
    → (daily_rate w).right z ≡ true → take (4 - (4 - n)) (drop (4 - n) bytes) ≡ (daily_rate w).bytes z
rate-bytes {n} {w} e known z {y} {bytes} f g right =
    let v = of_z w32 y in
    let narrow : w ≤ 4 = by_form (λ n. n ≤ 4) w known (omega arith) (omega arith) in
    ap₂ (λ (k : ℕ) (bs : List ℕ). take (4 - (4 - k)) (drop (4 - k) bs)) e g
    ∙ ap (take (4 - (4 - w))) (drop-high (4 - w) 4 w v (omega arith) ∙ high-bytes w v)
    ∙ take_all (4 - (4 - w)) (bytes_of w v) (omega (arith, length-bytes w v))
    ∙ ap (λ (u : ℤ). bytes_of w (of_z w32 u)) f
    ∙ rate-bits w known z right

-- ---- the sums of a front of the days

pub sums-front : (ds : List (List ℤ)) (i : ℕ) → i < length ds → added (sums_of (take i ds)) (get_or ds i []) ≡ sums_of (take (i + 1) ds)
sums-front ds i l =
    sums-more (take i ds) (get_or ds i [])
    ∙ ap sums_of (sym (take-suc ds i [] l))
    ∙ ap (λ (n : ℕ). sums_of (take n ds)) (sym (add-one i))
