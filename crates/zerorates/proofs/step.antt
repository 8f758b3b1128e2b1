-- What the proofs of the methods of `TermStep` cite.
mod Sure
