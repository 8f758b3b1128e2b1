-- Histories, the order of checks, and what a valuation leaves. tests/writers writes them.
pub mod Months
