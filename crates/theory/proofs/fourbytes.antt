-- Rates in four bytes (METHOD, Rates in four bytes): Rewritten has that a case with every rate times 100 in four bytes keeps the limits,
-- the factors and the figures, Same that the rewritten file is accepted and gives the same answer, listing and buffers, Plain what the
-- definitions say of four-byte days in plain numbers, Promised what is promised of all this.
pub mod Rewritten
pub mod Same
pub mod Plain
pub mod Promised
