-- The specifications of frames, routes and boards.
pub mod Shape
pub mod Board
pub mod Questions
