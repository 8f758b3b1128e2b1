-- What is computed of the definitions of specs/: each number is worked out by the definitions themselves. Computing: which definitions.
-- SearchCases: middle steps, halvings, what is left after this many tests, and how many are made. Worked: the last step that is counted.
-- Plain: what is promised, in plain numbers.
pub mod Computing
pub mod SearchCases
pub mod Worked
pub mod Plain
