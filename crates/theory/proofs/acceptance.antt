-- A file is accepted exactly when it keeps the layout and limits (Acceptance). Each kind of field has laws of checking, writing and
-- reading (Laws), so the layout has them (Within). Below them: runs of one kind, lists of checks, numbers as bytes, the two days fields, the map.
-- Promised: what is promised of reading a file.
-- Deciding: how many bytes an accepted file has at most, and that the first of a file decide.
pub mod Runs
pub mod Checks
pub mod Encoding
pub mod Form
pub mod Bitmap
pub mod Laws
pub mod Within
pub mod Acceptance
pub mod Promised
pub mod Deciding
