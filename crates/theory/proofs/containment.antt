-- Containment, widths and verdicts: of every case within the limits (Proved), and of every accepted file (Files). Written: what a
-- valuation gives is that of the rounded working. Valued: what is promised of a case that is valued, Calls of every call that values a file.
-- Promised: what is promised of valuing one. Bonds: what is promised of bonds off the adjusted curve.
pub mod Proved
pub mod Written
pub mod Valued
pub mod Files
pub mod Calls
pub mod Promised
pub mod Bonds
