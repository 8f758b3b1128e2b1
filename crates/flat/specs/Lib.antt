-- All have to be believed: what hosts are given, by the definitions of `model`; where they are told that the rates are; which version
-- and kit they are told; and what is promised of what they hand back.
pub mod Flat
pub mod Part
pub mod Version
pub mod Promises
