-- Nothing here has to be believed: the contracts of `money` are equalities with the figures of `method`, by their parts.
pub mod inner
