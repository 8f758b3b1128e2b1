-- A case written back in its shortest form (METHOD, Saving a case). All of it has to be believed.
pub mod Saving
pub mod Promises
pub mod Forms
