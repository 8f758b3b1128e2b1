-- Laws that several modules cite, and Curves, which other crates cite too. What serves one module is in that module's folder.
pub mod YearLaws
pub mod Weighing
pub mod Curves
pub mod UnadjustedLaws
pub mod Growths
pub mod Discounts
pub mod ByTerm
