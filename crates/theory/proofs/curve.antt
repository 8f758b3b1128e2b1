-- Growths, factors and zero rates: each lies in its bracket, how wide the brackets are, how large the numbers become, and how few tests the
-- search for a zero rate takes.
pub mod Bracket
pub mod Steps
pub mod CaseCurves
pub mod Changed
pub mod Growth
pub mod Unadjusted
pub mod Factor
pub mod Agree
pub mod Width
pub mod Sizes
pub mod BaseCurve
pub mod RateTests
pub mod Bisection
pub mod ZeroRate
pub mod Searches
pub mod Promised
