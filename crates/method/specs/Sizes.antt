-- How many bytes a listing has at most. It has to be believed; proofs/PlainSizes.antt uses the promise once in plain numbers, and computes the
-- longest.
use Rattle.std.specs.Prelude.{ℕ, ◌≤◌, ◌≡◌, List, length, take, drop, Result}
use Rattle.model.specs.declared.figures.Valuation.{Valuation}
use Rattle.method.specs.Listing.{listing, listing_after, listing_length}

-- the longest listing: ten figures of twenty digits at both ends, and the longest word
abbrev pub longest_listing : ℕ
longest_listing = 463

-- no listing is longer, whatever its figures, its verdict, or the number of its refusal
pub record ListingsAreShort : Type 0 where
  pub most : (v : Result Valuation ℕ) → length (listing v) ≤ longest_listing

-- a listing that is written to a lent buffer: whole where the buffer has as many bytes as the longest or more, after it what was there;
-- where the answer is 0 the buffer is what it was
pub record ListingCall (v : Result Valuation ℕ) (held : List ℕ) : Type 0 where
  pub most : listing_length v (length held) ≤ longest_listing
  pub whole : longest_listing ≤ length held → listing_length v (length held) ≡ length (listing v)
  pub text : longest_listing ≤ length held → take (listing_length v (length held)) (listing_after v held) ≡ listing v
  pub later : drop (listing_length v (length held)) (listing_after v held) ≡ drop (listing_length v (length held)) held
  pub kept : listing_length v (length held) ≡ 0 → listing_after v held ≡ held

pub record EveryListingCall : Type 0 where
  pub call : (v : Result Valuation ℕ) (held : List ℕ) → ListingCall v held
