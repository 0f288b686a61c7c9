-- Lemmas on the questions, as reading and writing ask them, and on what is written.
pub mod Asked
pub mod Ends
pub mod Exits
pub mod Headers
pub mod Overlay
pub mod Placed
pub mod Records
pub mod Saving
pub mod Sheets
pub mod Shown
