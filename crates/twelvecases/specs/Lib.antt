-- TwelveCases, what the twelve hand-worked cases give, has to be believed.
pub mod TwelveCases
