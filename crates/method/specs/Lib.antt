-- The working as definitions, from the curve to the listing. Containment: how the exact and the rounded working meet. EquityClasses: what S2
-- and S are where the equity classes fall together. Bonds: what is promised of bonds off the adjusted curve. FourBytes: rates in four bytes.
-- Promises, the page to open first: what is promised of a valuation. Sizes: how long a listing is. TwelveFiles: the files of the twelve
-- hand-worked cases. All of it has to be believed, except what is in inner.
pub mod Fraction
pub mod Brackets
pub mod Curve
pub mod Exact
pub mod Rounded
pub mod Margins
pub mod Containment
pub mod EquityClasses
pub mod Buffers
pub mod Listing
pub mod Window
pub mod Bonds
pub mod FourBytes
pub mod Promises
pub mod Sizes
pub mod TwelveFiles
pub mod inner
