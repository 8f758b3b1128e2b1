-- Rounding, Root and Brackets have to be believed: they say what every figure is rounded by. inner serves contracts of this crate and
-- proofs.
pub mod Rounding
pub mod Root
pub mod Brackets
pub mod inner
