-- ByTerm: factors and rates, a bracket a term. Powers: bounds of the power of t years. Results: the two results of a step. Known: the
-- steps whose tests are known before a search. Ranges: what the functions require of their numbers.
pub mod ByTerm
pub mod Powers
pub mod Results
pub mod Known
pub mod Ranges
