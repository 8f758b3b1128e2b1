-- Crates above cite HeldCase, a case within the limits as the engine holds it, and Fronts, the front of a lent buffer. The others serve
-- the proofs of this crate's functions.
pub mod Working
pub mod Entries
pub mod HeldCurves
pub mod HeldCase
pub mod Fronts
