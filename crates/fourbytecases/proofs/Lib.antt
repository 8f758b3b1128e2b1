-- Files, the order of checks, windows, months and listings. tests/writers writes them.
pub mod FourBytes
