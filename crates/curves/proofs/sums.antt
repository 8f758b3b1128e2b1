-- Laws of the sums of a shifted curve.
pub mod Shifting
