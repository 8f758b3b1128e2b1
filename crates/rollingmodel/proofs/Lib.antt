-- What is computed of the definitions of specs/: each number is worked out by the definitions themselves. Computing: which definitions.
-- RollingCases, FourByteCases: which windows are right, their changes, and their valuation. Unchanged: what a refused change gives back.
-- Worked: the last day dropped, and a valuation with a buffer that is too short. Plain: each promise once more in plain numbers.
pub mod Computing
pub mod RollingCases
pub mod FourByteCases
pub mod Unchanged
pub mod Worked
pub mod Plain
