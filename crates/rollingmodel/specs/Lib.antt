-- A rolling window of days (METHOD, A rolling window of days). All of it has to be believed.
pub mod Rolling
pub mod Promises
