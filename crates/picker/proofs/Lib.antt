-- Lemmas on what a picker means, and on lists of places that wait.
pub mod Waiting
pub mod Listed
pub mod Rings
pub mod Queued
pub mod Drained
