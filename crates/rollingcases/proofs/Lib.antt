-- Windows, the order of checks and a full ring. tests/writers writes them.
pub mod Rolling
