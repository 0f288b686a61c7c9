-- The specifications of what the programs print.
pub mod Text
