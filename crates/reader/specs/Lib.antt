-- What the reader answers. All of it has to be believed.
pub mod Answers
