-- What the proofs of `rate_at` and `zero_rates` use.
mod Signed
mod Rated
