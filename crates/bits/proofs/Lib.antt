-- Lemmas on bits and bytes, and on a field among them.
pub mod Bits
pub mod Bytes
pub mod Cuts
pub mod Fields
pub mod TwosComplement
pub mod Window
