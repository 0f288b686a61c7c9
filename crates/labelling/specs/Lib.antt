-- The specifications of labelling.
pub mod Ways
pub mod Labels
pub mod Trying
