-- The number of each refusal (METHOD, Refusals), and what is promised of these numbers. All of it has to be believed.
pub mod Numbered
pub mod Promises
