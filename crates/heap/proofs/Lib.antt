-- Lemmas about orders, about what sifting keeps, and about what is held when one entry moves.
pub mod Orders
pub mod Rising
pub mod Sinking
pub mod Moves
