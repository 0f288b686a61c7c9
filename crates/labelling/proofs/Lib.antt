-- Lemmas about labelling.
pub mod Ways
pub mod Joins
pub mod Counts
pub mod Scans
