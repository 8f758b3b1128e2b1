-- The promises of specs/Sizes.antt used once in plain numbers, and the longest listing, computed. Nothing else rests on this: a promise that said
-- less would not give it. Assumes nothing.
use Prim.Native.Nat.{ℕ, ◌+◌, ◌-◌, ◌^◌, ◌≤◌}
use mathlib.Core.Path.{◌≡◌, refl}
use mathlib.Core.List.{List}
use native.Mathlib.Omega.{arith}
use lib.ListN.{length, take, drop}
use Rattle.std.specs.Prelude.{Result, Ok, Err}
use Rattle.arith.specs.declared.bracket.Bracket.{Bracket}
use Rattle.model.specs.declared.figures.Figures.{Figures}
use Rattle.model.specs.declared.figures.Valuation.{Valuation}
use Rattle.model.specs.declared.figures.Verdict.TheVariants.{Dekkingstekort}
use Rattle.method.specs.Listing.{listing, listing_after, listing_length}
use Rattle.method.specs.Sizes.{ListingsAreShort, EveryListingCall}
use Rattle.method.proofs.Computing.{all}

-- each figure the largest number of 64 bits
abbrev widest : Bracket
widest = record { lower = 2 ^ 64 - 1; upper = 2 ^ 64 - 1 }

abbrev widest_figures : Figures
widest_figures = record {
  l = widest;
  b = widest;
  a = widest;
  s1 = widest;
  s2 = widest;
  s3 = widest;
  s4 = widest;
  s5 = widest;
  s6 = widest;
  s = widest;
}

longest-listed : length (listing (Ok (record { figures = widest_figures; verdict = Dekkingstekort }))) ≡ 463
unfolding all
longest-listed = refl

-- of a valuation and of the number of a refusal
listed-in-463 : ListingsAreShort → (v : Valuation) (r : ℕ) → (length (listing (Ok v)) ≤ 463) × (length (listing (Err r)) ≤ 463)
listed-in-463 p v r = (p.most (Ok v), p.most (Err r))

-- a buffer of 463 bytes is long enough for every listing, and one of 512 bytes has 49 after it that keep their content
written-in-463 : EveryListingCall → (v : Result Valuation ℕ) (held : List ℕ) → length held ≡ 463
    → (listing_length v (length held) ≡ length (listing v)) × (take (listing_length v (length held)) (listing_after v held) ≡ listing v)
written-in-463 p v held long = let c = p.call v held in (c.whole (omega (arith, long)), c.text (omega (arith, long)))

written-in-512 : EveryListingCall → (v : Result Valuation ℕ) (held : List ℕ) → length held ≡ 512
    → (listing_length v (length held) + 49 ≤ 512)
    × (drop (listing_length v (length held)) (listing_after v held) ≡ drop (listing_length v (length held)) held)
written-in-512 p v held long = let c = p.call v held in (omega (arith, c.most), c.later)

-- no room at all
left-alone : EveryListingCall → (v : Result Valuation ℕ) (held : List ℕ) → listing_length v (length held) ≡ 0 → listing_after v held ≡ held
left-alone p v held h = (p.call v held).kept h
