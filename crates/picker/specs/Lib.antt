-- The specifications of pickers.
pub mod Fault
pub mod Meaning
pub mod Rows
pub mod Queue
