-- The whole table of refusals. tests/writers writes it.
-- The whole table of refusals. tests/pinned.py writes Refused; EquityField is by hand.
pub mod Refused
pub mod EquityField
