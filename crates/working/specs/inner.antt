-- Entries: brackets as entries of a buffer. Working: what is worked out of a case as the engine holds it, in the words of `model`. Ranges: what the functions require of a case.
pub mod Entries
pub mod Working
pub mod Ranges
