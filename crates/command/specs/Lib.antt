-- Call has to be believed: what a call asks for.
pub mod Call
