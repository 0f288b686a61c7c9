-- The specifications of the format of a sheet.
pub mod Format
pub mod Stated
pub mod Faults
pub mod Questions
pub mod Laws
