-- A case written back in its shortest form (METHOD, Saving a case): Saved has what is promised of it, Given that every case within the
-- limits can be handed in.
pub mod Saved
pub mod Given
pub mod Promised
