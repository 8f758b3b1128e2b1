-- All have to be believed. Input: what can be said of reading. Files: many files in one input, and that each is visited. Unread: what an
-- input that cannot be read leaves.
pub mod Input
pub mod Files
pub mod Unread
