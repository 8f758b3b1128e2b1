-- Read: a month that is read. Means: the months so far, and what a history gives. Valued: the case with the UFR found, and the answer of
-- `value_with_months`.
pub mod Read
pub mod Means
pub mod Valued
