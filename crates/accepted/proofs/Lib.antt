-- Files that are accepted, and the cases that they hold. tests/writers writes them.
pub mod Accepted
