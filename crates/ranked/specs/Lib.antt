-- The specifications of pickers that rank.
pub mod Orders
pub mod Waiting
pub mod Ranked
