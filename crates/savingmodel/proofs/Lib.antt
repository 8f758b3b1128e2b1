-- What is computed of the definitions of specs/: each number is worked out by the definitions themselves. Computing: which definitions.
-- SavedCases, FourByteCases: the checks of a case, its bytes, and the lent buffer.
pub mod Computing
pub mod SavedCases
pub mod FourByteCases
pub mod Plain
pub mod PlainForms
pub mod EquityCases
