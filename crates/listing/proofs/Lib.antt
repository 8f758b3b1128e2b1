-- Laws that the proofs of the functions cite, and the theorem that the window shows every factor and figure of an accepted case. Plain: that
-- theorem in plain numbers.
pub mod Texts
pub mod Worked
pub mod Plain
