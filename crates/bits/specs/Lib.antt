-- The specifications of fields in bytes.
pub mod Bits
pub mod Fields
pub mod Signed
pub mod Cursor
pub mod Reading
