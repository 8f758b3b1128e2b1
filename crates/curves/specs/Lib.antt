-- Nothing here has to be believed: the contracts of `curve` are equalities with the definitions of `model`, over curves as the code holds
-- them.
pub mod inner
