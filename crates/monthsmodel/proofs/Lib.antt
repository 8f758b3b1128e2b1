-- What is computed of the definitions of specs/: each number is worked out by the definitions themselves. Computing: which definitions.
-- MonthsCases, FourByteCases: months, rounding, refusals, and the case that is valued. Worked: a buffer that is too short. Plain: each promise
-- once more in plain numbers.
pub mod Computing
pub mod MonthsCases
pub mod FourByteCases
pub mod Worked
pub mod Plain
