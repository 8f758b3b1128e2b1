-- Worked: a case as it is held, and the default case, at numbers.
pub mod Worked
