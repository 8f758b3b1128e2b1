-- The points of the window: that they show every factor and figure of an accepted case.
pub mod Chunks
pub mod Whole
pub mod ByNumber
pub mod Shown
pub mod Plain
