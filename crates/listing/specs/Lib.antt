-- What is listed is defined in `method`. All but inner has to be believed: Lines, the listing line by line; Holds, a bracket as two doubles;
-- Shown, what holds of every point after a valuation.
pub mod Lines
pub mod Holds
pub mod Shown
pub mod inner
