-- The specifications of a program that shows the pickers.
pub mod All
