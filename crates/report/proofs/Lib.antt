-- FirstBytes: what was read of an input is its front. Decided: what is told of the front is told of all of it. Blocks: the report of several
-- files begins with the first one's block. HeldNumbers: the numbers of a case as the engine holds it.
mod FirstBytes
mod Decided
mod Blocks
mod HeldNumbers
