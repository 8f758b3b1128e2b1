-- Theorems about the definitions of `model`, in folders; each folder cites those above it, and its own file says what it holds.
-- Containment and width of every accepted file are in containment.Files, acceptance both ways in acceptance.Acceptance, what is shown of a
-- case that is saved in saving.Saved, of a rolling window in rolling.Holds and rolling.Valued, of the searches for the zero rates in
-- curve.Searches, of bonds off the adjusted curve in money.Bonds, of a UFR from months in months.Nearest and months.Valued, of rates in
-- four bytes in fourbytes.Same.
pub mod general
pub mod acceptance
pub mod saving
pub mod sizes
pub mod rolling
pub mod months
pub mod curve
pub mod money
pub mod containment
pub mod fourbytes
