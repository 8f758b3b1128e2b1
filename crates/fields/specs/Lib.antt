-- Nothing here has to be believed: it serves contracts of functions that no host calls.
pub mod Checks
pub mod IsDays
pub mod MapField
pub mod Reading
pub mod Sums
pub mod Wrote
