-- The search for a zero rate by halving (METHOD, The search for a zero rate). All of it has to be believed.
pub mod Bisection
pub mod Promises
