-- Lemmas about sums over routes and places, and the theorems about every board.
pub mod Sums
pub mod Bounds
pub mod Closing
pub mod Orders
pub mod Right
pub mod Excess
pub mod Pushing
pub mod Triangular
