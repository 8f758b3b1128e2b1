-- Nothing here has to be believed: the contracts of `zerorates` are equalities with definitions of `method` and `searchmodel`.
pub mod inner
