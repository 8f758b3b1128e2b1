-- How long a listing is: ten lines of a name and two numbers of at most twenty digits, and one of a verdict; or the line of a refusal.
use mathlib.Core.Path.{◌≡◌, refl, ap, sym, ◌∙◌}
use mathlib.Core.Bool.{Bool, true, false, cond}
use mathlib.Core.List.{List, [], ◌∷◌, ◌++◌}
use Prim.Native.Nat.{ℕ, zero, suc, ◌+◌, ◌/◌, ◌%◌, ◌≤◌}
use native.Mathlib.Omega.{arith}
use native.Mathlib.Decide.{dec_le}
use borrow.Author.Tests.{le-leb, lt-leb}
use lib.Dec.{ltb}
use lib.ListN.{length, take, drop, length-append}
use lib.Seq.{take_at, drop_at}
use Rattle.std.specs.List.{flat_map}
use Rattle.std.specs.Prelude.{Result, Ok, Err}
use Rattle.arith.specs.declared.bracket.Bracket.{Bracket}
use Rattle.model.specs.Numbers.{table}
use Rattle.model.specs.declared.figures.Figures.{Figures}
use Rattle.model.specs.declared.figures.Valuation.{Valuation}
use Rattle.model.specs.declared.figures.Verdict.{Verdict}
use Rattle.model.specs.declared.figures.Verdict.TheVariants.{Dekkingstekort, Reservetekort, VrijVermogen, Onbeslist}
use Rattle.method.specs.Listing.{ascii, digits, decimal, word, named_figures, line, figure_lines, listing, listing_after, listing_length}
use Rattle.method.specs.Sizes.{ListingCall}

digits-few : (k n : ℕ) → length (digits k n) ≤ k
unfolding digits
digits-few zero n = omega arith
digits-few (suc k) n = go (ltb n 10) (digits-few k (n / 10))
  where
    go : (b : Bool) → length (digits k (n / 10)) ≤ k → length (cond b ((48 + n) ∷ []) (digits k (n / 10) ++ ((48 + n % 10) ∷ []))) ≤ suc k
    go true few = omega arith
    go false few = omega (arith, length-append (digits k (n / 10)) ((48 + n % 10) ∷ []), few)

twenty : (n : ℕ) → length (decimal n) ≤ 20
unfolding decimal
twenty n = digits-few 20 n

-- the bytes between the names and the numbers
space-one : length (ascii " ") ≡ 1
unfolding ascii table
space-one = refl

end-one : length (ascii "\n") ≡ 1
unfolding ascii table
end-one = refl

line-is : (name : List ℕ) (b : Bracket)
    → line name b ≡ name ++ ascii " " ++ decimal b.lower ++ ascii " " ++ decimal b.upper ++ ascii "\n"
unfolding line
line-is name b = refl

line-short : (name : List ℕ) (b : Bracket) → length (line name b) ≤ length name + 43
line-short name b =
    let low = decimal b.lower in
    let high = decimal b.upper in
    let space : List ℕ = ascii " " in
    let end : List ℕ = ascii "\n" in
    omega (
      arith,
      ap length (line-is name b),
      length-append (name ++ space ++ low ++ space ++ high) end,
      length-append (name ++ space ++ low ++ space) high,
      length-append (name ++ space ++ low) space,
      length-append (name ++ space) low,
      length-append name space,
      space-one,
      end-one,
      twenty b.lower,
      twenty b.upper,
    )

-- the room for some lines
abbrev room_for : List (List ℕ × Bracket) → ℕ
room_for [] = 0
room_for (named ∷ others) = length named.0 + 43 + room_for others

lines-short : (named : List (List ℕ × Bracket)) → length (flat_map (λ (n : List ℕ × Bracket). line n.0 n.1) named) ≤ room_for named
lines-short [] = omega arith
lines-short (one ∷ others) =
    let more = flat_map (λ (n : List ℕ × Bracket). line n.0 n.1) others in
    omega (arith, length-append (line one.0 one.1) more, line-short one.0 one.1, lines-short others)

figures-short : (f : Figures) → length (figure_lines f) ≤ 446
unfolding figure_lines ascii table
figures-short f = lines-short (named_figures f)

word-short : (v : Verdict) → length (word v) ≤ 14
unfolding word ascii table
word-short Dekkingstekort = omega arith
word-short Reservetekort = omega arith
word-short VrijVermogen = omega arith
word-short Onbeslist = omega arith

listed-is : (v : Valuation) → listing (Ok v) ≡ figure_lines v.figures ++ ascii "V " ++ word v.verdict ++ ascii "\n"
unfolding listing
listed-is v = refl

refused-is : (r : ℕ) → listing (Err r) ≡ ascii "R " ++ decimal r ++ ascii "\n"
unfolding listing
refused-is r = refl

names-two : (length (ascii "V ") ≡ 2) × (length (ascii "R ") ≡ 2)
unfolding ascii table
names-two = (refl, refl)

pub listing-short : (v : Result Valuation ℕ) → length (listing v) ≤ 463
listing-short (Ok v) =
    let figures = figure_lines v.figures in
    let name : List ℕ = ascii "V " in
    let verdict = word v.verdict in
    let end : List ℕ = ascii "\n" in
    omega (
      arith,
      ap length (listed-is v),
      length-append (figures ++ name ++ verdict) end,
      length-append (figures ++ name) verdict,
      length-append figures name,
      names-two.0,
      end-one,
      figures-short v.figures,
      word-short v.verdict,
    )
listing-short (Err r) =
    let name : List ℕ = ascii "R " in
    let end : List ℕ = ascii "\n" in
    omega (arith, ap length (refused-is r), length-append (name ++ decimal r) end, length-append name (decimal r), names-two.1, end-one, twenty r)

-- ---- in a lent buffer

none-of-none : (text : List ℕ) → length text ≡ 0 → text ≡ []
none-of-none [] h = refl
none-of-none (b ∷ text) h = let never : ⊥ = omega (arith, h) in absurd never

module _ (v : Result Valuation ℕ) (held : List ℕ) where
  fits-length : length (listing v) ≤ length held → listing_length v (length held) ≡ length (listing v)
  unfolding listing_length
  fits-length h = rw (le-leb (length (listing v)) (length held) h)

  fits-after : length (listing v) ≤ length held → listing_after v held ≡ listing v ++ drop (length (listing v)) held
  unfolding listing_after
  fits-after h = rw (le-leb (length (listing v)) (length held) h)

  short-length : suc (length held) ≤ length (listing v) → listing_length v (length held) ≡ 0
  unfolding listing_length
  short-length h = rw (lt-leb (length (listing v)) (length held) h)

  short-after : suc (length held) ≤ length (listing v) → listing_after v held ≡ held
  unfolding listing_after
  short-after h = rw (lt-leb (length (listing v)) (length held) h)

  call-most : Dec (length (listing v) ≤ length held) → listing_length v (length held) ≤ 463
  call-most (yes l) = omega (arith, fits-length l, listing-short v)
  call-most (no n) = omega (arith, short-length (omega (arith, n)))

  call-text : length (listing v) ≤ length held → take (listing_length v (length held)) (listing_after v held) ≡ listing v
  call-text l = rw (fits-length l, fits-after l) (take_at (listing v) (drop (length (listing v)) held) (length (listing v)) refl)

  call-later : Dec (length (listing v) ≤ length held)
      → drop (listing_length v (length held)) (listing_after v held) ≡ drop (listing_length v (length held)) held
  call-later (yes l) = rw (fits-length l, fits-after l) (drop_at (listing v) (drop (length (listing v)) held) (length (listing v)) refl)
  call-later (no n) = rw (short-after (omega (arith, n)))

  call-kept : Dec (length (listing v) ≤ length held) → listing_length v (length held) ≡ 0 → listing_after v held ≡ held
  call-kept (yes l) e =
      let none = none-of-none (listing v) (sym (fits-length l) ∙ e) in
      fits-after l ∙ ap (λ (text : List ℕ). text ++ drop (length text) held) none
  call-kept (no n) e = short-after (omega (arith, n))

  pub listing_call : ListingCall v held
  listing_call =
      let either = dec_le (length (listing v)) (length held) in
      record {
        most = call-most either;
        whole = λ l. fits-length (omega (arith, listing-short v, l));
        text = λ l. call-text (omega (arith, listing-short v, l));
        later = call-later either;
        kept = call-kept either;
      }
