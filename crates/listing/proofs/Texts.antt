-- The parts of a listing join, and a number has the digits that std writes. Assumes nothing.
use mathlib.Core.Path.{◌≡◌, refl, sym, ap, ◌∙◌}
use mathlib.Core.List.{List, [], ◌∷◌, ◌++◌, append_assoc}
use Prim.Native.Nat.{ℕ, ◌^◌, ◌≤◌, ◌<◌}
use native.Mathlib.Omega.{arith}
use lib.ListN.{length, drop}
use Rattle.std.specs.Fmt as Fmt
use Rattle.std.specs.List.{flat_map}
use Rattle.std.specs.Prelude.{Result, map}
use Rattle.arith.specs.declared.bracket.Bracket.{Bracket}
use Rattle.std.proofs.lemmas.Fmt.{AppendsLastDigit, decimal_from_appends, length-decimal-le}
use Rattle.std.proofs.Common.{rules}
use Rattle.std.proofs.lemmas.List.{append-nil}
use Rattle.method.specs.Listing.{digits, decimal, line, figure_lines, listing, listing_after, listing_length}
use Rattle.model.specs.declared.figures.Valuation.{Valuation}
use Rattle.listing.specs.Lines.{IsLineByLine}
use Rattle.theory.proofs.general.Conditions.{cond-le, cond-gt}

appends : AppendsLastDigit digits
unfolding digits
appends = search rules

-- std's digits of a number of 64 bits are those of the listing
pub decimal_same : (n : ℕ) → n < 2 ^ 64 → Fmt.decimal n ≡ decimal n
unfolding decimal
decimal_same n h =
    let few : length (Fmt.decimal n) ≤ 20 = length-decimal-le 20 n (omega arith) (omega arith) h in
    sym (decimal_from_appends digits appends 20 n h few)

-- the lines of a list of names that are lent
pub lines-of-named : {N : Type 0} (name : N → List ℕ) (xs : List (N × Bracket)) →
    flat_map (λ (n : N × Bracket). line (name n.0) n.1) xs
    ≡ flat_map (λ (n : List ℕ × Bracket). line n.0 n.1) (map (λ (n : N × Bracket). (name n.0, n.1)) xs)
lines-of-named name [] = refl
lines-of-named name (x ∷ xs) = ap (λ rest. line (name x.0) x.1 ++ rest) (lines-of-named name xs)

pub line_by_line : IsLineByLine
unfolding listing figure_lines
line_by_line v = simp (append_assoc, append-nil)

-- a text in the front of a lent buffer, and one that does not fit
module _ (v : Result Valuation ℕ) (text held : List ℕ) (used : ℕ) (is : text ≡ listing v) (long : used ≡ length text) where
  pub short_length : length held < used → 0 ≡ listing_length v (length held)
  unfolding listing_length
  short_length h =
      let short : length held < length (listing v) = omega (arith, ap length is) in
      sym (cond-gt (length (listing v)) (length held) (length (listing v)) 0 short)

  pub short_kept : length held < used → held ≡ listing_after v held
  unfolding listing_after
  short_kept h =
      let short : length held < length (listing v) = omega (arith, ap length is) in
      sym (cond-gt (length (listing v)) (length held) (listing v ++ drop (length (listing v)) held) held short)

  pub whole_length : used ≤ length held → used ≡ listing_length v (length held)
  unfolding listing_length
  whole_length h =
      let fits : length (listing v) ≤ length held = omega (arith, ap length is) in
      sym (cond-le (length (listing v)) (length held) (length (listing v)) 0 fits ∙ ap length (sym is) ∙ sym long)

  pub whole_text : used ≤ length held → text ++ drop used held ≡ listing_after v held
  unfolding listing_after
  whole_text h =
      let fits : length (listing v) ≤ length held = omega (arith, ap length is) in
      rw (long, is) (sym (cond-le (length (listing v)) (length held) (listing v ++ drop (length (listing v)) held) held fits))
