-- TwelveCases: the one result. LikeC1: borders, buffers and widths of files like C1.
pub mod TwelveCases
pub mod LikeC1
