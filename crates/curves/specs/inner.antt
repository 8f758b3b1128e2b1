-- Three: of the three curves. ByTerm: factors, a bracket a term. Shifted: a curve as the code holds it, and the curves of a case. Years: years taken from where a growth stands. Ranges: what the
-- functions require of their numbers.
pub mod Three
pub mod ByTerm
pub mod Shifted
pub mod Years
pub mod Ranges
