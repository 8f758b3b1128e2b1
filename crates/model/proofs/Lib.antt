-- What is computed of the definitions of specs/: each number is worked out by the definitions themselves. Computing: which definitions.
-- First: the number of the first check that fails. Read: what a file is read as. Refused, FourByteCases: refusals, and the rates of a file.
-- Changed: cases with another field. Plain, PlainSizes, PlainLimits: what is promised of reading a file and of sizes, and the limits, in plain
-- numbers.
pub mod Computing
pub mod Changed
pub mod First
pub mod Read
pub mod Refused
pub mod FourByteCases
pub mod Plain
pub mod PlainSizes
pub mod PlainLimits
pub mod EquityCases
