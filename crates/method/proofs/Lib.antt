-- What is computed of the definitions of specs/: each number is worked out by the definitions themselves. Computing: which definitions.
-- Worked: hand-worked cases. Pinned, FourByteCases: curves, figures, verdicts, margins. Widths: the widths that are allowed.
-- Plain: each promise of specs/Promises.antt used in plain numbers.
-- PlainSizes: how long a listing is.
-- PlainBonds, PlainFourBytes: what is promised, in plain numbers.
-- Borders: undecided only near a border.
pub mod Computing
pub mod Worked
pub mod Pinned
pub mod FourByteCases
pub mod Widths
pub mod Plain
pub mod PlainSizes
pub mod PlainBonds
pub mod PlainEquity
pub mod PlainFourBytes
pub mod Borders
pub mod EquityCases
pub mod RootedCases
