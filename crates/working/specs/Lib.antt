-- Nothing here has to be believed: what is promised of a file is stated by the definitions of `model`, and proofs/HeldCase.antt is the
-- bridge to them.
pub mod inner
