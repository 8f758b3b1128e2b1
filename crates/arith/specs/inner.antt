-- Nobody has to believe these. Range: the operands for which the code fits 64 bits. Value: the number that a `Wide` holds. Ways: what is
-- proved of the ranges.
pub mod Range
pub mod Value
pub mod Ways
