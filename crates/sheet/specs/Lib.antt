-- The specifications of reading and writing a sheet.
pub mod Taking
pub mod Header
pub mod View
pub mod Writing
pub mod Saving
pub mod Checked
