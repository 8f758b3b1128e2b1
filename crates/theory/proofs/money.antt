-- The money figures and the verdict: each figure lies in its bracket, how wide and how large it is, and what a verdict says.
pub mod Worth
pub mod Rooted
pub mod Money
pub mod MoneyWidth
pub mod MoneySizes
pub mod Verdicts
pub mod EquityClasses
pub mod Bonds
