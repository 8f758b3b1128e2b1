-- Laws of reading. Plain: what it gives, in plain terms.
pub mod Exactly
pub mod First
pub mod InOrder
pub mod Whole
pub mod Plain
