-- OnCurves, ByWorths, Buffer: figures as the code holds them. Ranges: what the functions require of their numbers, and promise of them.
pub mod OnCurves
pub mod ByWorths
pub mod Buffer
pub mod Ranges
