-- Seen: an answer that is seen by the number of its refusal is seen whole. NotZero: no refusal has the number 0. Plain: what is promised, in
-- plain numbers.
pub mod Seen
pub mod NotZero
pub mod Plain
