-- Rates: rates that are copied; a day among the chunks of the rates. Sums: the sums per term, with a day more and with a day less. Windows:
-- what a change of a window answers. Ordered: which number a valuation of a window is refused with, check by check. Joined: the case that is
-- valued.
pub mod Rates
pub mod Sums
pub mod Windows
pub mod Ordered
pub mod Joined
