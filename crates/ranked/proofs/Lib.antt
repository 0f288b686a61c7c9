-- Lemmas on what leaves by the orders of the entries, and on the places that they stand for.
pub mod Taken
pub mod Places
