-- The worked examples: boards, a table of what holds of them, two mistakes, and the theorems put to use.
pub mod Boards
pub mod Table
pub mod Mistakes
pub mod Instances
