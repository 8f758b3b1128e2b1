-- Listings and numbers of curves that take long to compute. tests/writers writes them.
pub mod Files
