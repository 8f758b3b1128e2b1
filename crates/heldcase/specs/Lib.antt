-- What the engine holds of a case, and the default case. All of it has to be believed, except what is in inner.
pub mod Held
pub mod inner
