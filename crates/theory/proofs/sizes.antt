-- How long things are that others make room for: Longest is the longest case file that is accepted, Listed how long a listing is; Promised is
-- what is promised of sizes.
pub mod Longest
pub mod Listed
pub mod Promised
