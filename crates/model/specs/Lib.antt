-- The case file as definitions, from its numbers to the order of the checks (METHOD, The case file; METHOD, Refusals). The working is in
-- the crate `method`, and each feature beyond them has a crate of its own. All of it has to be believed, except what is in inner.
pub mod Constants
pub mod Numbers
pub mod Case
pub mod Limits
pub mod Fields
pub mod Layout
pub mod Refusals
pub mod Promises
pub mod Sizes
pub mod inner
