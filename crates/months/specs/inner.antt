-- Nobody has to believe this: that it is the definition of `monthsmodel` is proved. Changed: the case as the engine holds it, with another UFR.
pub mod Changed
