-- The UFR from a history of months: Nearest has that the mean is rounded to the nearest 100 steps, halves upward,
-- Rotated that the sum is that from the oldest month on, Found what the UFR found is, Field what the file with a UFR in its field holds,
-- Valued that the valuation is that of this file, and the order of the checks, Contained that containment and width hold of it,
-- Plain the rounding once more in plain numbers, Promised all that is promised.
pub mod Nearest
pub mod Rotated
pub mod Found
pub mod Field
pub mod Valued
pub mod Contained
pub mod Plain
pub mod Promised
