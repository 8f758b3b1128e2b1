-- Laws that speak of no curve and no file: lists and tests, parts of lists, the slots of a ring and its entries, brackets by their ends,
-- entries by term, integers as differences, powers, searches.
pub mod Conditions
pub mod Lists
pub mod Parts
pub mod Ring
pub mod ByEnds
pub mod Entries
pub mod Differences
pub mod Powers
pub mod Search
