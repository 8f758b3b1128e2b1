-- Nobody has to believe these. CurveWithin: what the checks leave true of a curve. Shifts: a shift as natural numbers.
pub mod CurveWithin
pub mod Shifts
