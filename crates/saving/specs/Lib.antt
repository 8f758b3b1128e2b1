-- Nothing here has to be believed: it serves contracts of functions that no host calls.
pub mod Present
pub mod Said
