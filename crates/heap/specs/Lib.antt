-- The specifications of a heap.
pub mod Held
pub mod Order
pub mod Sifting
pub mod Laws
