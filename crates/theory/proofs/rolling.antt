-- A rolling window of days: Holds has what a window holds after every list of changes, Valued that it is valued as every file with its
-- days, Contained that its brackets and its verdict are then as those of a file, Alike that only the days held and their sums make a
-- difference, Refused which call is refused with which number. Below them: the days held after one change, and what a window has that 27
-- does not refuse. Promised: all that is promised.
pub mod Held
pub mod Right
pub mod Holds
pub mod Valued
pub mod Contained
pub mod Alike
pub mod Refused
pub mod Promised
