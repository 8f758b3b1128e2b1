-- Nothing here has to be believed: inner serves contracts of this crate, and proofs.
pub mod inner
