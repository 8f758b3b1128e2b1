-- What the proofs of `flat` share, and what a host may rely on; and the numbers that a host is told, computed (Pinned).
pub mod Said
pub mod Pinned
pub mod Plain
