-- Lemmas on the format of a sheet.
pub mod Format
pub mod Held
pub mod ReadBack
pub mod Restated
pub mod Stated
pub mod Theorems
