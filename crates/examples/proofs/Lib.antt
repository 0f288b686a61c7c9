-- Tests over all regions of a small board, what they show, and the worked examples.
pub mod Finite
pub mod Least
pub mod Checks
pub mod Rows
pub mod Refuted
pub mod Applied
