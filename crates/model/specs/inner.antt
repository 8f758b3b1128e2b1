-- Nobody has to believe this. Positions: the fields by name, and where each starts.
pub mod Positions
