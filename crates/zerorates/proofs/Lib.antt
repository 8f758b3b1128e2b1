-- RateEntries: the conclusions for the callers of this crate. The rest serves the proofs of its functions.
pub mod RateEntries
pub mod Powers
pub mod Tested
pub mod Left
