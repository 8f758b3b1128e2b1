-- The laws of `arith`. Other crates cite Rounding, Root and Ends; the rest serves the proofs of this crate's functions.
pub mod Rounding
pub mod Root
pub mod Ends
pub mod LongDivision
pub mod Bisection
pub mod Units
pub mod Worked
pub mod Plain
