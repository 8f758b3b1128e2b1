-- Reading: what is at the front of a buffer after a read into the rest of it. Mapped: a result whose error is mapped. Visits: files that
-- are read and visited in turn.
pub mod Reading
pub mod Mapped
mod Visits
