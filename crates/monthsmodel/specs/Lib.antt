-- A UFR from a history of months (METHOD, The UFR from a history of months). All of it has to be believed.
pub mod Months
pub mod Promises
