-- Sums: the sums per term with a day more and with a day less, and the first days of a window. Joined: the case as the engine holds it;
-- that it is the definition of `model` is proved.
pub mod Sums
pub mod Joined
