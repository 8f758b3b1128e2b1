-- How the type of flows holds a list.
pub mod Room
